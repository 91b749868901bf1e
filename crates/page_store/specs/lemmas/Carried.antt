-- How calls, a commit and a stop carry what pages spell.
use Rattle.std.specs.Prelude.{◌≡◌, ◌≢◌, ◌⊎◌, ℕ, ◌≤◌, ◌<◌, Bool, true, false, cond, List, length, IsTrue}
use Rattle.std.proofs.Common.{refl, sym, ◌∙◌, ap, subst, arith, inl, inr}
use Rattle.std.proofs.lemmas.Bool.{cases_lt}
use Rattle.std.proofs.lemmas.List.{ext_get_or, get_or_past}
use Rattle.sector_disk.specs.Disk.{Image, Disk}
use Rattle.sector_disk.specs.lemmas.Moments.{leaves_more, leaves_then, still_honest}
use Rattle.page_store.specs.declared.marks.Mark.{Mark}
use Rattle.page_store.specs.declared.marks.Mark.TheVariants.{Committed, Waiting, Fresh, Released, Free, Past}
use Rattle.page_store.specs.declared.holds.HoldPlace.{HoldPlace}
use Rattle.page_store.specs.declared.holds.Holders.{Holders}
use Rattle.page_store.specs.Holds.{holders_at, needed_by, with_need, any}
use Rattle.page_store.specs.Marks.{mark, needs, keeps, is_past, is_rooted, stays, rests, turned, committed, left, IsNeeded, AreSealed, AreDiscarded}
use Rattle.page_store.specs.lemmas.Holds.{need_is, other_need, some_need, held_within, held_still}
use Rattle.page_store.specs.Page.{page}
use Rattle.page_store.specs.lemmas.Page.{page_same}
use Rattle.page_store.specs.Store.{Store, reads, IsHeldBy, Saved, SavedAs, SavedIn, StopLeaves, IsSafe}
use Rattle.page_store.specs.Store.{IsSoundStore, StoreWorks, Commits, StoreGrows, IsRemarked, IsUnchanged}
use Rattle.page_store.specs.Store.{IsCommitted, IsStoreGrown, IsHoldTaken, IsLetGo}
use Rattle.page_store.specs.Store.{IsOpened}
use Rattle.page_store.specs.lemmas.Works.{safe_saves, saved_before, still_needed, still_held, commit_after}
use Rattle.page_store.specs.Spelled.{SpelledBy, Stands, StandsHeld, IsPrepared, Spells, IsCarried, IsCarriedGrown, IsCalm, IsBack}

-- other bytes that agree on the named pages
spelled_as : {named : ℕ → Type 0} {Spelt : (ℕ → List ℕ) → Type 0} (bytes other : ℕ → List ℕ) → ((p : ℕ) → named p → other p ≡ bytes p)
    → SpelledBy named bytes Spelt → SpelledBy named other Spelt
spelled_as bytes other agree spelled = record { anywhere = λ more same. spelled.anywhere more (λ p here. same p here ∙ agree p here) }

-- an image that was saved spells what stands
pub saved_spells : {named : ℕ → Type 0} {Spelt : (ℕ → List ℕ) → Type 0} (store : Store) → Stands named Spelt store → (image : Image)
    → Saved store image
    → Spells store.root (length store.marks) Spelt image
saved_spells store stands image saved = record {
  holds = saved.holds;
  room = saved.room;
  spelt = stands.spelled.anywhere (page image) (λ p here. saved.pages p (stands.needed p here));
}

-- an image with a new root in its place spells what was prepared
pub saved_as_spells : {named : ℕ → Type 0} {Spelt : (ℕ → List ℕ) → Type 0} (root : List ℕ) (store : Store) → IsPrepared named Spelt store
    → (image : Image) → SavedAs root store image
    → Spells root (length store.marks) Spelt image
saved_as_spells root store prepared image saved = record {
  holds = saved.holds;
  room = saved.room;
  spelt = prepared.spelled.anywhere (page image) (λ p here. saved.pages p (prepared.kept p here).0);
}

-- a stop leaves what stands
pub stop_leaves : {named : ℕ → Type 0} {Spelt : (ℕ → List ℕ) → Type 0} (store : Store) → Stands named Spelt store → IsSafe store
    → StopLeaves store (Spells store.root (length store.marks) Spelt)
stop_leaves store stands safe image left = saved_spells store stands image (safe_saves store safe image left)

-- a call that commits nothing keeps what stands
pub works_stands : {named : ℕ → Type 0} {Spelt : (ℕ → List ℕ) → Type 0} (old new : Store) → IsTrue old.disk.honest → StoreWorks old new
    → Stands named Spelt old → Stands named Spelt new
works_stands old new honest works stands = record {
  spelled = spelled_as (reads old) (reads new) (λ p here. works.reads honest p (stands.needed p here)) stands.spelled;
  needed = λ p here. still_needed works p (stands.needed p here);
}

-- so does a call that leaves the store as it was
pub unchanged_stands : {named : ℕ → Type 0} {Spelt : (ℕ → List ℕ) → Type 0} (old new : Store) → IsTrue old.disk.honest
    → IsUnchanged old new → Stands named Spelt old → Stands named Spelt new
unchanged_stands old new honest same stands = record {
  spelled = spelled_as (reads old) (reads new) (λ p here. ap (λ s. page s.contents p) (same.shown honest)) stands.spelled;
  needed = λ p here. subst (λ (ms : List Mark). IsNeeded ms p) (sym same.marks) (stands.needed p here);
}

needs_of : (b : Bool) → needs (cond b Past Free) ≡ false
needs_of true = refl
needs_of false = refl

committed_needs : (h : Holders) (m : Mark) → needs (committed h m) ≡ keeps m
committed_needs h Committed = refl
committed_needs h Waiting = refl
committed_needs h Fresh = refl
committed_needs h Released = needs_of (any h)
committed_needs h Free = refl
committed_needs h Past = refl

-- after a commit what was prepared stands
pub committed_stands : {named : ℕ → Type 0} {Spelt : (ℕ → List ℕ) → Type 0} (root : List ℕ) (old new : Store) → IsTrue old.disk.honest
    → IsCommitted root old new → IsPrepared named Spelt old
    → Stands named Spelt new
committed_stands root old new honest done prepared = record {
  spelled = spelled_as (reads old) (reads new) (λ p here. done.reads honest p (prepared.kept p here).0) prepared.spelled;
  needed = λ p here.
      let kept = prepared.kept p here in (
        kept.0,
        omega (arith, kept.1, done.marks.same_length),
        subst (λ (b : Bool). IsTrue b) (sym (ap needs (done.marks.each p)
            ∙ committed_needs (holders_at old.holds.of p) (mark old.marks p))) kept.2,
      );
}

-- work, and then a commit
pub commit_carries : {was_named : ℕ → Type 0} {Was : (ℕ → List ℕ) → Type 0} {named : ℕ → Type 0} {Is : (ℕ → List ℕ)
    → Type 0} (root : List ℕ) (old mid new : Store) → IsTrue old.disk.honest → IsSafe old
    → Stands was_named Was old → StoreWorks old mid → IsPrepared named Is mid → Commits root mid new
    → IsCarried root was_named Was named Is old mid new
commit_carries {was_named} {Was} {named} {Is} root old mid new honest safe stands works prepared commits = record {
  stop = leaves_more each (commit_after new.disk root works commits.goes_on commits.leaves honest safe);
  done = λ done. committed_stands root mid new (still_honest works.goes_on honest) done prepared;
  left = λ same. unchanged_stands mid new (still_honest works.goes_on honest) same (works_stands old mid honest works stands);
  left_stop = λ same.
      leaves_more (saved_spells old stands)
      (leaves_then commits.goes_on (works.leaves honest safe)
      (leaves_more (λ image can. saved_before works honest image (safe_saves mid (works.safe honest safe) image can))
      (same.leaves (still_honest works.goes_on honest))));
}
  where
    each : (image : Image) → Saved old image ⊎ SavedAs root mid image → Spells old.root (length old.marks) Was image
        ⊎ Spells root (length old.marks) Is image
    each image (inl saved) = inl (saved_spells old stands image saved)
    each image (inr saved) = inr (subst (λ (n : ℕ). Spells root n Is image) works.same_pages
        (saved_as_spells root mid prepared image saved))

-- before any page is marked, whatever pages are named may be needed
pub opened_stands : {named : ℕ → Type 0} {Spelt : (ℕ → List ℕ) → Type 0} (disk : Disk) (count : ℕ) (store : Store)
    → IsOpened disk count store → ((p : ℕ) → named p → (1 ≤ p) × (p < length store.marks))
    → SpelledBy named (reads store) Spelt → Stands named Spelt store
opened_stands disk count store opened there spelled = record {
  spelled = spelled;
  needed = λ p here.
      let (low, within) = there p here in
      (low, within, subst (λ (m : Mark). IsTrue (needs m)) (sym (opened.marks p low within)) refl);
}

-- sealing keeps what rests on marked pages alone
pub sealed_stands : {named : ℕ → Type 0} {Spelt : (ℕ → List ℕ) → Type 0} (old new : Store) → IsRemarked old new
    → AreSealed old.marks new.marks → ((p : ℕ) → named p → mark old.marks p ≡ Committed)
    → Stands named Spelt old → Stands named Spelt new
sealed_stands old new others marks marked stands = record {
  spelled = spelled_as (reads old) (reads new) (λ p here. ap (λ (d : Disk). page d.now.contents p) others.disk) stands.spelled;
  needed = λ p here.
      let needed = stands.needed p here in (
        needed.0,
        omega (arith, needed.1, marks.same_length),
        subst (λ (m : Mark). IsTrue (needs m)) (sym (marks.each p
            ∙ ap (turned Fresh Released Free) (marked p here))) refl,
      );
}

-- work and then `discard` go back to where nothing was handed out or released
discarded : (old mid : Mark) → IsTrue (rests old) → (mid ≡ Waiting → old ≡ Waiting) → needs mid ≡ needs old → is_past mid ≡ is_past old
    → turned Free Committed Waiting mid ≡ old
discarded Committed Committed calm waits same past = refl
discarded Committed Waiting calm waits same past = sym (waits refl)
discarded Committed Fresh calm waits same past = cc
discarded Committed Released calm waits same past = refl
discarded Committed Free calm waits same past = cc
discarded Committed Past calm waits same past = cc
discarded Free Committed calm waits same past = cc
discarded Free Waiting calm waits same past = sym (waits refl)
discarded Free Fresh calm waits same past = refl
discarded Free Released calm waits same past = cc
discarded Free Free calm waits same past = refl
discarded Free Past calm waits same past = cc
discarded Past Committed calm waits same past = cc
discarded Past Waiting calm waits same past = sym (waits refl)
discarded Past Fresh calm waits same past = cc
discarded Past Released calm waits same past = cc
discarded Past Free calm waits same past = cc
discarded Past Past calm waits same past = refl
discarded Waiting mid calm waits same past = cc
discarded Fresh mid calm waits same past = cc
discarded Released mid calm waits same past = cc

pub discard_goes_back : (old mid new : Store) → IsCalm old → StoreWorks old mid → AreDiscarded mid.marks new.marks → IsRemarked mid new
    → IsBack old new
discard_goes_back old mid new calm works marks others =
    let each : (p : ℕ) → mark new.marks p ≡ mark old.marks p =
    λ (p : ℕ). marks.each p ∙ discarded (mark old.marks p) (mark mid.marks p) (calm.each p) (works.waiting p) (works.needed p) (works.past p) in
    record {
      root = others.root ∙ works.root;
      marks = ext_get_or Committed new.marks old.marks (marks.same_length ∙ works.same_pages) (λ p within. each p);
      reads = λ honest p needed. ap (λ (d : Disk). page d.now.contents p) others.disk ∙ works.reads honest p needed;
    }

rests_of : (b : Bool) → IsTrue (rests (cond b Past Free))
rests_of true = refl
rests_of false = refl

calm_committed : (h : Holders) (m : Mark) → (m ≡ Waiting → ⊥) → IsTrue (rests (committed h m))
calm_committed h Committed none = refl
calm_committed h Waiting none = absurd (none refl)
calm_committed h Fresh none = refl
calm_committed h Released none = rests_of (any h)
calm_committed h Free none = refl
calm_committed h Past none = refl

-- after a commit of a store in which no page waits nothing is handed out or released
pub committed_calm : (root : List ℕ) (old new : Store) → ((p : ℕ) → mark old.marks p ≡ Waiting → ⊥) → IsCommitted root old new → IsCalm new
committed_calm root old new none done = record {
  each = λ p. subst (λ (m : Mark). IsTrue (rests m)) (sym (done.marks.each p)) (calm_committed (holders_at old.holds.of p) (mark old.marks p) (none p));
}

-- an image with the new root of a store that grew spells what stands
pub saved_in_spells : {named : ℕ → Type 0} {Spelt : (ℕ → List ℕ) → Type 0} (root : List ℕ) (pages : ℕ) (store : Store) → Stands named Spelt store
    → (image : Image) → SavedIn root pages store image
    → Spells root pages Spelt image
saved_in_spells root pages store stands image saved = record {
  holds = saved.holds;
  room = saved.room;
  spelt = stands.spelled.anywhere (page image) (λ p here. let needed = stands.needed p here in saved.pages p (needed.0, needed.1));
}

-- a page that is needed where nothing is released is needed after a commit too
calm_keeps : (m : Mark) → IsTrue (rests m) → IsTrue (needs m) → IsTrue (keeps m)
calm_keeps Committed calm needed = refl
calm_keeps Waiting calm needed = refl
calm_keeps Fresh calm needed = refl
calm_keeps Released calm needed = cc
calm_keeps Free calm needed = needed
calm_keeps Past calm needed = needed

-- a store that grows, in which nothing is handed out or released
pub grow_carries : {named : ℕ → Type 0} {Spelt : (ℕ → List ℕ) → Type 0} (root : List ℕ) (pages : ℕ) (old new : Store) → IsTrue old.disk.honest
    → IsSafe old → IsSoundStore old → length old.marks < pages → IsCalm old → Stands named Spelt old → StoreGrows root pages old new
    → IsCarriedGrown root pages named Spelt old new
grow_carries {named} {Spelt} root pages old new honest safe sound more calm stands grows = record {
  stop = leaves_more each (grows.leaves honest safe);
  done = λ done. record {
    spelled = spelled_as (reads old) (reads new) (λ p here. let needed = stands.needed p here in done.reads honest p needed.0 needed.1) stands.spelled;
    needed = λ p here.
        let needed = stands.needed p here in (
          needed.0,
          omega (arith, needed.1, done.marks.long, more),
          subst (λ (b : Bool). IsTrue b) (sym (ap needs (done.marks.each p needed.1)
              ∙ committed_needs (holders_at old.holds.of p) (mark old.marks p))) (calm_keeps (mark old.marks p) (calm.each p) needed.2),
        );
  };
  left = λ left. record {
    spelled = spelled_as (reads old) (reads new) (λ p here.
        let needed = stands.needed p here in
        page_same new.disk.now.contents old.disk.now.contents p (λ k within.
        (left.longer honest).contents k (omega (arith, sound.fits, needed.1, within.1)))) stands.spelled;
    needed = λ p here. subst (λ (ms : List Mark). IsNeeded ms p) (sym left.marks) (stands.needed p here);
  };
  left_stop = λ left. leaves_more (saved_spells old stands) (left.leaves honest safe);
}
  where
    each : (image : Image) → Saved old image ⊎ SavedIn root pages old image
        → Spells old.root (length old.marks) Spelt image ⊎ Spells root pages Spelt image
    each image (inl saved) = inl (saved_spells old stands image saved)
    each image (inr saved) = inr (saved_in_spells root pages old stands image saved)

-- a store of which no page waits and that has grown: nothing is handed out or released
pub grown_calm : (root : List ℕ) (pages : ℕ) (old new : Store) → ((p : ℕ) → mark old.marks p ≡ Waiting → ⊥) → IsStoreGrown root pages old new → IsCalm new
grown_calm root pages old new none done = record { each = each }
  where
    each : (p : ℕ) → IsTrue (rests (mark new.marks p))
    each p = elim (cases_lt p (length old.marks)) [
      | inl was ↦ subst (λ (m : Mark). IsTrue (rests m)) (sym (done.marks.each p was))
          (calm_committed (holders_at old.holds.of p) (mark old.marks p) (none p))
      | inr behind ↦ elim (cases_lt p pages) [
        | inl there ↦ subst (λ (m : Mark). IsTrue (rests m)) (sym (done.marks.added p behind there)) refl
        | inr past ↦ subst (λ (m : Mark). IsTrue (rests m)) (sym (get_or_past new.marks p Committed (omega (arith, done.marks.long, past)))) refl
      ]
    ]

-- growing keeps what a hold needs, whatever is answered
pub grow_stands_held : {named : ℕ → Type 0} {Spelt : (ℕ → List ℕ) → Type 0} (place : HoldPlace) (root : List ℕ) (pages : ℕ) (old new : Store)
    → IsTrue old.disk.honest → StoreGrows root pages old new → StandsHeld place named Spelt old → StandsHeld place named Spelt new
grow_stands_held place root pages old new honest grows stands = record {
  spelled = spelled_as (reads old) (reads new) (λ p here. grows.held honest place p (stands.held p here)) stands.spelled;
  held = λ p here. held_still old new grows.holds place p (stands.held p here);
}

-- a hold that is taken needs what the committed root needs
rooted : (m : Mark) → IsTrue (needs m) → (m ≡ Waiting → ⊥) → is_rooted m ≡ true
rooted Committed needed none = refl
rooted Waiting needed none = absurd (none refl)
rooted Fresh needed none = cc
rooted Released needed none = refl
rooted Free needed none = cc
rooted Past needed none = cc

pub hold_stands : {named : ℕ → Type 0} {Spelt : (ℕ → List ℕ) → Type 0} (place : HoldPlace) (old new : Store)
    → ((p : ℕ) → mark old.marks p ≡ Waiting → ⊥) → IsHoldTaken place old new → Stands named Spelt old → StandsHeld place named Spelt new
hold_stands place old new none taken stands = record {
  spelled = spelled_as (reads old) (reads new) (λ p here. ap (λ (d : Disk). page d.now.contents p) taken.disk) stands.spelled;
  held = λ p here.
      let needed = stands.needed p here in
      let is : is_rooted (mark old.marks p) ≡ true = rooted (mark old.marks p) needed.2 (none p) in (
        needed.0,
        ap (λ (h : Holders). needed_by h place) (taken.each p needed.1 ∙ ap (λ (b : Bool). with_need (holders_at old.holds.of p) place b) is)
            ∙ need_is (holders_at old.holds.of p) place true,
      );
}

-- a hold was taken: another hold needs what it needed
pub hold_others : (place other : HoldPlace) (old new : Store) → place ≢ other → IsHoldTaken place old new → (p : ℕ) → p < length old.marks
    → needed_by (holders_at new.holds.of p) other ≡ needed_by (holders_at old.holds.of p) other
hold_others place other old new apart taken p within =
    ap (λ (h : Holders). needed_by h other) (taken.each p within) ∙ other_need (holders_at old.holds.of p) place other (is_rooted (mark old.marks p)) apart

-- what another hold needs it needs still
pub hold_stands_held : {named : ℕ → Type 0} {Spelt : (ℕ → List ℕ) → Type 0} (place other : HoldPlace) (old new : Store) → IsSoundStore old
    → place ≢ other → IsHoldTaken place old new → StandsHeld other named Spelt old → StandsHeld other named Spelt new
hold_stands_held place other old new sound apart taken stands = record {
  spelled = spelled_as (reads old) (reads new) (λ p here. ap (λ (d : Disk). page d.now.contents p) taken.disk) stands.spelled;
  held = λ p here.
      let held = stands.held p here in (
        held.0,
        hold_others place other old new apart taken p (held_within old sound other p held) ∙ held.1,
      );
}

-- a call that commits nothing keeps what a hold needs
pub works_stands_held : {named : ℕ → Type 0} {Spelt : (ℕ → List ℕ) → Type 0} (place : HoldPlace) (old new : Store) → IsTrue old.disk.honest
    → StoreWorks old new → StandsHeld place named Spelt old → StandsHeld place named Spelt new
works_stands_held place old new honest works stands = record {
  spelled = spelled_as (reads old) (reads new) (λ p here. works.held honest place p (stands.held p here)) stands.spelled;
  held = λ p here. still_held old new works.holds place p (stands.held p here);
}

-- so does a commit, whatever it answers
pub commit_stands_held : {named : ℕ → Type 0} {Spelt : (ℕ → List ℕ) → Type 0} (place : HoldPlace) (root : List ℕ) (old new : Store)
    → IsTrue old.disk.honest → Commits root old new → StandsHeld place named Spelt old → StandsHeld place named Spelt new
commit_stands_held place root old new honest commits stands = record {
  spelled = spelled_as (reads old) (reads new) (λ p here. commits.held honest place p (stands.held p here)) stands.spelled;
  held = λ p here. still_held old new commits.holds place p (stands.held p here);
}

-- another hold is let go: what this one needs stays
pub let_go_stands_held : {named : ℕ → Type 0} {Spelt : (ℕ → List ℕ) → Type 0} (place other : HoldPlace) (old new : Store) → place ≢ other
    → IsLetGo place old new → StandsHeld other named Spelt old → StandsHeld other named Spelt new
let_go_stands_held place other old new apart gone stands = record {
  spelled = spelled_as (reads old) (reads new) (λ p here. ap (λ (d : Disk). page d.now.contents p) gone.disk) stands.spelled;
  held = λ p here.
      let held = stands.held p here in (
        held.0,
        ap (λ (h : Holders). needed_by h other) (gone.each p) ∙ other_need (holders_at old.holds.of p) place other false apart ∙ held.1,
      );
}

left_needs : (h : Holders) (m : Mark) → needs (left h m) ≡ needs m
left_needs h Committed = refl
left_needs h Waiting = refl
left_needs h Fresh = refl
left_needs h Released = refl
left_needs h Free = refl
left_needs h Past = needs_of (any h)

-- a hold is let go: what the committed root needs stays
pub let_go_stands : {named : ℕ → Type 0} {Spelt : (ℕ → List ℕ) → Type 0} (place : HoldPlace) (old new : Store) → IsLetGo place old new
    → Stands named Spelt old → Stands named Spelt new
let_go_stands place old new gone stands = record {
  spelled = spelled_as (reads old) (reads new) (λ p here. ap (λ (d : Disk). page d.now.contents p) gone.disk) stands.spelled;
  needed = λ p here.
      let needed = stands.needed p here in (
        needed.0,
        omega (arith, needed.1, gone.marks.same_length),
        subst (λ (b : Bool). IsTrue b) (sym (ap needs (gone.marks.each p) ∙ left_needs (holders_at new.holds.of p) (mark old.marks p))) needed.2,
      );
}

left_rests : (h : Holders) (m : Mark) → IsTrue (rests m) → IsTrue (rests (left h m))
left_rests h Committed calm = refl
left_rests h Waiting calm = cc
left_rests h Fresh calm = cc
left_rests h Released calm = cc
left_rests h Free calm = refl
left_rests h Past calm = rests_of (any h)

-- a hold is let go, and nothing is going on
pub let_go_calm : (place : HoldPlace) (old new : Store) → IsLetGo place old new → IsCalm old → IsCalm new
let_go_calm place old new gone calm = record {
  each = λ p. subst (λ (m : Mark). IsTrue (rests m)) (sym (gone.marks.each p)) (left_rests (holders_at new.holds.of p) (mark old.marks p) (calm.each p));
}

-- where no hold is taken no page stays for one: it is free, or the committed root needs it, or the next will
pub nothing_stays_without_a_hold : (store : Store) → IsSoundStore store → ((place : HoldPlace) → needed_by store.holds.taken place ≡ false) → (p : ℕ)
    → is_past (mark store.marks p) ≡ false
nothing_stays_without_a_hold store sound none p = by (is_past (mark store.marks p)) refl
  where
    by : (b : Bool) → is_past (mark store.marks p) ≡ b → is_past (mark store.marks p) ≡ false
    by false is = is
    by true is =
        let (place, needs_it) = some_need (holders_at store.holds.of p) (sound.holds.past p is) in
        absurd (let no : true ≡ false = sym (sound.holds.taken place p needs_it) ∙ none place in cc)

stays_not_free : (m : Mark) → IsTrue (stays m) → (m ≢ Free) × (m ≢ Fresh)
stays_not_free m it = (
  λ free. let no : IsTrue (stays Free) = subst (λ (n : Mark). IsTrue (stays n)) free it in cc,
  λ fresh. let no : IsTrue (stays Fresh) = subst (λ (n : Mark). IsTrue (stays n)) fresh it in cc,
)

-- a page that a hold needs is neither free nor handed out
pub what_is_held_is_not_free : (store : Store) (place : HoldPlace) (p : ℕ) → IsSoundStore store → IsHeldBy place store p
    → (mark store.marks p ≢ Free) × (mark store.marks p ≢ Fresh)
what_is_held_is_not_free store place p sound held = stays_not_free (mark store.marks p) (sound.holds.stay place p held.1)
