-- A store stays sound through the calls of its disk.
use Rattle.std.proofs.Common.{◌≡◌, ◌≢◌, ◌⊎◌, inl, inr, ℕ, ◌*◌, ◌%◌, ◌<◌, ◌≤◌, Bool, true, false, cond, List, length, slice_index, IsTrue, refl, sym, ◌∙◌, ap, subst, arith}
use Rattle.std.proofs.lemmas.Bool.{cases_lt, cases_eq}
use Rattle.sector_disk.specs.Disk.{Image, sector, Shown, Agrees, MayLeave, Disk, size, GoesOn, LeavesOnly, Grew}
use Rattle.sector_disk.specs.lemmas.Disk.{KeepsThroughout}
use Rattle.sector_disk.specs.lemmas.Moments.{leaves_more, leaves_now, goes_on_refl}
use Rattle.root_pair.specs.Root.{picked, spare_by, HoldsRoot, root_of, IsAtRest, OldOrNew, IsPublished, PublishCause}
use Rattle.root_pair.specs.declared.fault.RootFault.{RootFault}
use Rattle.root_pair.specs.declared.fault.RootFault.TheVariants.{Read, Write, NotATable, AlreadyATable, TooSmall}
use Rattle.root_pair.specs.lemmas.Rest.{same_root, rest_leaves, root_kept, rest_kept, synced_rests}
use Rattle.page_store.specs.declared.marks.Mark.{Mark}
use Rattle.page_store.specs.declared.marks.Mark.TheVariants.{Committed, Waiting, Fresh, Released, Free, Past}
use Rattle.page_store.specs.declared.holds.HoldPlace.{HoldPlace}
use Rattle.page_store.specs.declared.holds.Holders.{Holders}
use Rattle.page_store.specs.Holds.{Holds, any, holders_at}
use Rattle.page_store.specs.Marks.{mark, needs, is_past, stays, IsNeeded, turned, committed, let_go, AreDiscarded, AreCommitted, IsMarked}
use Rattle.page_store.specs.Page.{page, IsWithin}
use Rattle.page_store.specs.lemmas.Page.{page_same}
use Rattle.sector_disk.specs.Pages.{IsOutside}
use Rattle.page_store.specs.Store.{Store, Saved, SavedAs, IsHeldBy, IsSafe, AreSoundHolds, IsSoundStore, StoreWorks, StoreCloses, SameHeader, IsUnchanged, IsRemarked}
use Rattle.page_store.specs.lemmas.Holds.{need_any}
use Rattle.page_store.specs.lemmas.Works.{safe_saves, safe_remarked, closes_same}

-- the disk as it reads is the same: safe as before
safe_unchanged : (old new : Store) → IsUnchanged old new → old.disk.now ≡ new.disk.now → IsSafe old → IsSafe new
safe_unchanged old new same shown safe =
    let lasts : new.disk.now.lasting ≡ old.disk.now.lasting = ap (λ (s : Shown). s.lasting) (sym shown) in
    let long : length new.marks ≡ length old.marks = ap (λ (ms : List Mark). length ms) same.marks in
    record {
      rest = subst (λ (s : Shown). IsAtRest s) shown safe.rest;
      room = omega (arith, safe.room, lasts, long);
      root = ap (λ (s : Shown). root_of s.contents) (sym shown) ∙ safe.root ∙ sym same.root;
      synced = λ p needed k within.
          subst (λ (s : Shown). IsTrue (s.synced k)) shown (safe.synced p (subst (λ (ms : List Mark). IsNeeded ms p) same.marks needed) k within);
    }

-- a read
pub works_read : (old new : Store) → GoesOn old.disk new.disk → size new.disk ≡ size old.disk → old.failures ≤ new.failures
    → IsUnchanged old new → StoreWorks old new
works_read old new goes_on size_ failures same = record {
  goes_on = goes_on;
  same_size = size_;
  failures = failures;
  root = same.root;
  same_pages = ap (λ (ms : List Mark). length ms) same.marks;
  closed = λ open_. sym same.closed ∙ open_;
  closes = closes_same same.closed same.failed_writes;
  waiting = λ p is. ap (λ (ms : List Mark). mark ms p) (sym same.marks) ∙ is;
  needed = λ p. ap (λ (ms : List Mark). needs (mark ms p)) same.marks;
  reads = λ honest p needed. ap (λ (s : Shown). page s.contents p) (same.shown honest);
  header = λ honest. ap (λ (s : Shown). sector s.contents 0) (same.shown honest);
  safe = λ honest safe. safe_unchanged old new same (sym (same.shown honest)) safe;
  leaves = λ honest safe. leaves_more (safe_saves old safe) (same.leaves honest);
  holds = same.holds;
  past = λ p. ap (λ (ms : List Mark). is_past (mark ms p)) same.marks;
  held = λ honest place p held. ap (λ (s : Shown). page s.contents p) (same.shown honest);
}

pub was_honest : {old new : Disk} → GoesOn old new → IsTrue new.honest → IsTrue old.honest
was_honest goes_on honest = subst (λ (b : Bool). IsTrue b) goes_on.honest honest

-- a page that a hold may need is one still
still_stays : (old new : Mark) → needs new ≡ needs old → is_past new ≡ is_past old → (new ≡ Waiting → old ≡ Waiting) → IsTrue (stays old)
    → IsTrue (stays new)
still_stays Committed Committed need past waits it = refl
still_stays Committed Waiting need past waits it = let no : Committed ≡ Waiting = waits refl in absurd (cc)
still_stays Committed Fresh need past waits it = cc
still_stays Committed Released need past waits it = refl
still_stays Committed Free need past waits it = cc
still_stays Committed Past need past waits it = refl
still_stays Released Committed need past waits it = refl
still_stays Released Waiting need past waits it = let no : Released ≡ Waiting = waits refl in absurd (cc)
still_stays Released Fresh need past waits it = cc
still_stays Released Released need past waits it = refl
still_stays Released Free need past waits it = cc
still_stays Released Past need past waits it = refl
still_stays Past Committed need past waits it = refl
still_stays Past Waiting need past waits it = cc
still_stays Past Fresh need past waits it = cc
still_stays Past Released need past waits it = refl
still_stays Past Free need past waits it = cc
still_stays Past Past need past waits it = refl
still_stays Waiting new need past waits it = cc
still_stays Fresh new need past waits it = cc
still_stays Free new need past waits it = cc

-- the holds stay, and so do their pages
pub sound_holds : (old new : Store) → AreSoundHolds old.marks old.holds → StoreWorks old new → AreSoundHolds new.marks new.holds
sound_holds old new sound works = subst (λ (h : Holds). AreSoundHolds new.marks h) (sym works.holds) (record {
  same_length = omega (arith, sound.same_length, works.same_pages);
  taken = sound.taken;
  stay = λ place p it. still_stays (mark old.marks p) (mark new.marks p) (works.needed p) (works.past p) (works.waiting p) (sound.stay place p it);
  past = λ p it. sound.past p (sym (works.past p) ∙ it);
})

-- a call that commits nothing leaves the store sound
pub sound_works : (old new : Store) → IsSoundStore old → StoreWorks old new → mark new.marks 0 ≡ Committed → IsSoundStore new
sound_works old new sound works system = record {
  least = omega (arith, sound.least, works.same_size);
  fits = omega (arith, sound.fits, works.same_size, works.same_pages);
  few = omega (arith, sound.few, works.same_pages);
  system = system;
  safe = λ h open_.
      let was = was_honest works.goes_on h in
      works.safe was (sound.safe was (works.closed open_));
  holds = sound_holds old new sound.holds works;
}

-- another page lies outside
pub apart : (p q k : ℕ) → p ≢ q → IsWithin p k → IsOutside q k
apart p q k other within = elim (cases_lt p q) [
  | inl below ↦ inl (omega (arith, below, within.1))
  | inr above ↦ inr (omega (arith, above, other, within.0))
]

-- a handed out page is not the system page
pub not_system : (marks : List Mark) (p : ℕ) → mark marks 0 ≡ Committed → mark marks p ≡ Fresh → 1 ≤ p
not_system marks p system fresh = elim (cases_eq p 0) [
  | inl zero_ ↦ absurd (let e : Committed ≡ Fresh = sym system ∙ ap (λ (q : ℕ). mark marks q) (sym zero_) ∙ fresh in cc)
  | inr other ↦ omega (arith, other)
]

not_needed : (marks : List Mark) (p q : ℕ) → mark marks q ≡ Fresh → IsNeeded marks p → p ≢ q
not_needed marks p q fresh needed same =
    let no : IsTrue false = subst (λ (m : Mark). IsTrue (needs m)) (ap (λ (n : ℕ). mark marks n) same ∙ fresh) needed.2 in
    cc

-- a handed out page is not one that a hold needs
not_held : (store : Store) (place : HoldPlace) (p q : ℕ) → AreSoundHolds store.marks store.holds → mark store.marks q ≡ Fresh
    → IsHeldBy place store p → p ≢ q
not_held store place p q sound fresh held same =
    let no : IsTrue false = subst (λ (m : Mark). IsTrue (stays m)) (ap (λ (n : ℕ). mark store.marks n) same ∙ fresh) (sound.stay place p held.1) in
    cc

-- reads of the other pages
pub reads_else : (at : ℕ) (old new : Disk) → (IsTrue old.honest → KeepsThroughout (IsOutside at) old new) → IsTrue old.honest → (p : ℕ)
    → p ≢ at → page new.now.contents p ≡ page old.now.contents p
reads_else at old new kept honest p other = page_same new.now.contents old.now.contents p
    (λ k within. (kept honest).keeps.contents k (apart p at k other within))

-- the sectors of the other pages
pub sectors_else : (at : ℕ) (old new : Disk) → (IsTrue old.honest → KeepsThroughout (IsOutside at) old new) → IsTrue old.honest → (p : ℕ) → p ≢ at
    → (k : ℕ) → IsWithin p k → sector new.now.contents k ≡ sector old.now.contents k
sectors_else at old new kept honest p other k within = (kept honest).keeps.contents k (apart p at k other within)

-- a write of a handed out page
module _ (old new : Store) (at : ℕ) (sound : IsSoundStore old) (fresh : mark old.marks at ≡ Fresh) (root : new.root ≡ old.root) (marks : new.marks ≡ old.marks)
    (holds : new.holds ≡ old.holds) (kept : IsTrue old.disk.honest → KeepsThroughout (IsOutside at) old.disk new.disk) where
  low : (k : ℕ) → k < 4 → IsOutside at k
  low k below = inl (omega (arith, below, not_system old.marks at sound.system fresh))

  still_safe : IsTrue old.disk.honest → IsSafe old → IsSafe new
  still_safe honest safe =
      let keeps = (kept honest).keeps in
      let long : length new.marks ≡ length old.marks = ap (λ (ms : List Mark). length ms) marks in
      record {
        rest = rest_kept low keeps safe.rest;
        room = omega (arith, safe.room, keeps.lasting, long);
        root = root_kept low keeps ∙ safe.root ∙ sym root;
        synced = λ p needed k within.
            let was : IsNeeded old.marks p = subst (λ (ms : List Mark). IsNeeded ms p) marks needed in
            keeps.synced k (apart p at k (not_needed old.marks p at fresh was) within) (safe.synced p was k within);
      }

  saved : IsSafe old → (image : Image) → Agrees old.disk.now (λ k. IsOutside at k × IsTrue (old.disk.now.synced k)) image → Saved old image
  saved safe image left = record {
    holds = subst (λ (r : List ℕ). HoldsRoot r image) safe.root
        (same_root old.disk.now image safe.rest left.no_shorter
        (first 0 (omega arith))
        (ap (λ (s : List ℕ). slice_index s 0 % 2) (first 1 (omega arith)))
        (first (picked old.disk.now.contents) (omega arith)));
    room = omega (arith, safe.room, left.no_shorter);
    pages = λ p needed. page_same image old.disk.now.contents p
        (λ k within. left.same k (apart p at k (not_needed old.marks p at fresh needed) within, safe.synced p needed k within));
  }
    where
      first : (k : ℕ) → k < 4 → sector image k ≡ sector old.disk.now.contents k
      first k below = left.same k (low k below, safe.rest.synced k below)

  pub works_write : GoesOn old.disk new.disk → size new.disk ≡ size old.disk → old.failures ≤ new.failures
      → (new.closed ≡ false → old.closed ≡ false) → StoreCloses old new → StoreWorks old new
  works_write goes_on size_ failures closed closes = record {
    goes_on = goes_on;
    same_size = size_;
    failures = failures;
    root = root;
    same_pages = ap (λ (ms : List Mark). length ms) marks;
    closed = closed;
    closes = closes;
    waiting = λ p is. ap (λ (ms : List Mark). mark ms p) (sym marks) ∙ is;
    needed = λ p. ap (λ (ms : List Mark). needs (mark ms p)) marks;
    reads = λ honest p needed. reads_else at old.disk new.disk kept honest p (not_needed old.marks p at fresh needed);
    header = λ honest. (kept honest).keeps.contents 0 (low 0 (omega arith));
    safe = still_safe;
    leaves = λ honest safe. leaves_more (saved safe) (kept honest).leaves;
    holds = holds;
    past = λ p. ap (λ (ms : List Mark). is_past (mark ms p)) marks;
    held = λ honest place p held. reads_else at old.disk new.disk kept honest p (not_held old place p at sound.holds fresh held);
  }

-- marks change, and of each page it stays whether the committed root may need it
fewer_needed : (old new : List Mark) → length new ≡ length old → ((p : ℕ) → needs (mark new p) ≡ needs (mark old p)) → (p : ℕ) → IsNeeded new p → IsNeeded old p
fewer_needed old new long same p needed = (needed.0, omega (arith, needed.1, long), subst (λ (b : Bool). IsTrue b) (same p) needed.2)

works_remarked : (old new : Store) → IsRemarked old new → length new.marks ≡ length old.marks
    → ((p : ℕ) → mark new.marks p ≡ Waiting → mark old.marks p ≡ Waiting)
    → ((p : ℕ) → needs (mark new.marks p) ≡ needs (mark old.marks p)) → ((p : ℕ) → is_past (mark new.marks p) ≡ is_past (mark old.marks p))
    → StoreWorks old new
works_remarked old new others long waiting same past = record {
  goes_on = subst (λ (d : Disk). GoesOn old.disk d) (sym others.disk) (goes_on_refl old.disk);
  same_size = ap (λ (d : Disk). size d) others.disk;
  failures = omega (arith, others.failures);
  root = others.root;
  same_pages = long;
  closed = λ open_. sym others.closed ∙ open_;
  closes = closes_same others.closed (ap (λ (d : Disk). d.failed_writes) others.disk);
  waiting = waiting;
  needed = same;
  reads = λ honest p needed. ap (λ (d : Disk). page d.now.contents p) others.disk;
  header = λ honest. ap (λ (d : Disk). sector d.now.contents 0) others.disk;
  safe = λ honest safe. safe_remarked old new others long (fewer_needed old.marks new.marks long same) safe;
  leaves = λ honest safe. subst (λ (d : Disk). LeavesOnly old.disk d (Saved old)) (sym others.disk) (leaves_now old.disk (safe_saves old safe));
  holds = others.holds;
  past = past;
  held = λ honest place p held. ap (λ (d : Disk). page d.now.contents p) others.disk;
}

-- one page has another mark
module _ (old new : Store) (p : ℕ) (now : Mark) (others : IsRemarked old new) (marks : IsMarked p now old.marks new.marks)
    (same : needs now ≡ needs (mark old.marks p))
    (waits : now ≡ Waiting → mark old.marks p ≡ Waiting) (past : is_past now ≡ is_past (mark old.marks p)) where
  marked_past : (q : ℕ) → is_past (mark new.marks q) ≡ is_past (mark old.marks q)
  marked_past q = elim (cases_eq q p) [
    | inl is ↦ ap (λ (n : ℕ). is_past (mark new.marks n)) is ∙ ap is_past marks.is ∙ past ∙ ap (λ (n : ℕ). is_past (mark old.marks n)) (sym is)
    | inr other ↦ ap is_past (marks.others q other)
  ]

  marked_needs : (q : ℕ) → needs (mark new.marks q) ≡ needs (mark old.marks q)
  marked_needs q = elim (cases_eq q p) [
    | inl is ↦ ap (λ (n : ℕ). needs (mark new.marks n)) is ∙ ap needs marks.is ∙ same ∙ ap (λ (n : ℕ). needs (mark old.marks n)) (sym is)
    | inr other ↦ ap needs (marks.others q other)
  ]

  marked_waits : (q : ℕ) → mark new.marks q ≡ Waiting → mark old.marks q ≡ Waiting
  marked_waits q waiting = elim (cases_eq q p) [
    | inl is ↦ ap (λ (n : ℕ). mark old.marks n) is ∙ waits (sym marks.is ∙ ap (λ (n : ℕ). mark new.marks n) (sym is) ∙ waiting)
    | inr other ↦ sym (marks.others q other) ∙ waiting
  ]

  pub marked_works : StoreWorks old new
  marked_works = works_remarked old new others marks.same_length marked_waits marked_needs marked_past

  pub marked_sound : IsSoundStore old → 0 ≢ p → IsSoundStore new
  marked_sound sound behind = sound_works old new sound marked_works (marks.others 0 behind ∙ sound.system)

-- `discard`
module _ (old new : Store) (others : IsRemarked old new) (marks : AreDiscarded old.marks new.marks) where
  discard_needs : (m : Mark) → needs (turned Free Committed Waiting m) ≡ needs m
  discard_needs Committed = refl
  discard_needs Waiting = refl
  discard_needs Fresh = refl
  discard_needs Released = refl
  discard_needs Free = refl
  discard_needs Past = refl

  discard_past : (m : Mark) → is_past (turned Free Committed Waiting m) ≡ is_past m
  discard_past Committed = refl
  discard_past Waiting = refl
  discard_past Fresh = refl
  discard_past Released = refl
  discard_past Free = refl
  discard_past Past = refl

  discard_waits : (m : Mark) → turned Free Committed Waiting m ≡ Waiting → m ≡ Waiting
  discard_waits Committed is = cc
  discard_waits Waiting is = refl
  discard_waits Fresh is = cc
  discard_waits Released is = cc
  discard_waits Free is = cc
  discard_waits Past is = cc

  pub discarded_works : StoreWorks old new
  discarded_works =
      works_remarked old new others marks.same_length (λ q is. discard_waits (mark old.marks q) (sym (marks.each q) ∙ is))
      (λ q. ap needs (marks.each q) ∙ discard_needs (mark old.marks q))
      (λ q. ap is_past (marks.each q) ∙ discard_past (mark old.marks q))

  pub discarded_sound : IsSoundStore old → IsSoundStore new
  discarded_sound sound = sound_works old new sound discarded_works (marks.each 0 ∙ ap (turned Free Committed Waiting) sound.system)

pub let_go_needs : (m : Mark) → needs (let_go m) ≡ needs m
let_go_needs Committed = refl
let_go_needs Waiting = refl
let_go_needs Fresh = refl
let_go_needs Released = refl
let_go_needs Free = refl
let_go_needs Past = refl

pub let_go_past : (m : Mark) → is_past (let_go m) ≡ is_past m
let_go_past Committed = refl
let_go_past Waiting = refl
let_go_past Fresh = refl
let_go_past Released = refl
let_go_past Free = refl
let_go_past Past = refl

pub let_go_waits : (m : Mark) → let_go m ≡ Waiting → m ≡ Waiting
let_go_waits Committed is = cc
let_go_waits Waiting is = refl
let_go_waits Fresh is = cc
let_go_waits Released is = cc
let_go_waits Free is = cc
let_go_waits Past is = cc

pub not_zero : (marks : List Mark) (p : ℕ) → mark marks 0 ≡ Committed → mark marks p ≢ Committed → 0 ≢ p
not_zero marks p system other is = other (ap (λ (q : ℕ). mark marks q) (sym is) ∙ system)

-- what a stop within `publish` leaves
pub old_or_new : (old : Store) (root : List ℕ) → IsSafe old → (image : Image) → OldOrNew old.disk.now root image
    → Saved old image ⊎ SavedAs root old image
old_or_new old root safe image (inl (holds, agrees)) = inl (record {
  holds = subst (λ (r : List ℕ). HoldsRoot r image) safe.root holds;
  room = omega (arith, safe.room, agrees.no_shorter);
  pages = λ p needed. page_same image old.disk.now.contents p (λ k within. agrees.same k (omega (arith, needed.0, within.0), safe.synced p needed k within));
})
old_or_new old root safe image (inr (holds, agrees)) = inr (record {
  holds = holds;
  room = omega (arith, safe.room, agrees.no_shorter);
  pages = λ p behind. page_same image old.disk.now.contents p (λ k within. agrees.same k (omega (arith, behind, within.0)));
})

pub published_reads : (old new : Shown) (root : List ℕ) → IsPublished root old new → (p : ℕ) → 1 ≤ p → page new.contents p ≡ page old.contents p
published_reads old new root published p behind = page_same new.contents old.contents p (λ k within. published.pages k (omega (arith, behind, within.0)))

-- sectors after the slots that read the same make the same pages
pub pages_kept : (old new : Image) → ((k : ℕ) → 4 ≤ k → sector new k ≡ sector old k) → (p : ℕ) → 1 ≤ p → page new p ≡ page old p
pages_kept old new same p behind = page_same new old p (λ k within. same k (omega (arith, behind, within.0)))

-- a stop after it leaves the new root and all pages
pub published_leaves : (old : Store) (new : Shown) (root : List ℕ) → 8 * length old.marks ≤ length new.contents
    → IsPublished root old.disk.now new → (image : Image) → MayLeave new image
    → SavedAs root old image
published_leaves old new root fits published image left = record {
  holds = subst (λ (r : List ℕ). HoldsRoot r image) published.holds.is (rest_leaves new (synced_rests published.holds published.synced) image left);
  room = omega (arith, fits, left.no_shorter, published.synced.lasting);
  pages = λ p behind.
      page_same image new.contents p (λ k within. left.same k (published.synced.synced k)) ∙ published_reads old.disk.now new root published p behind;
}

pub published_grew : (before now : ℕ) (fault : RootFault) → PublishCause before now fault → Grew before now
published_grew before now Read grew = grew
published_grew before now Write grew = grew
published_grew before now NotATable never = absurd never
published_grew before now AlreadyATable never = absurd never
published_grew before now TooSmall never = absurd never

pub waiting_apart : (m : Mark) → m ≡ Waiting → m ≢ Committed
waiting_apart m is was = cc

pub free_apart : (m : Mark) → m ≡ Free → m ≢ Committed
free_apart m is was = cc

-- the header is not written by a commit
pub published_header : (old new : Disk) → (IsTrue old.honest → (k : ℕ) → k ≢ 1 → k ≢ spare_by (sector old.now.contents 1)
    → sector new.now.contents k ≡ sector old.now.contents k) → SameHeader old new
published_header old new others honest = others honest 0 (omega arith) (omega arith)

-- what a hold needs is not written by a commit
pub published_held : (old : Store) (new : Disk) → IsTrue old.disk.honest
    → (IsTrue old.disk.honest → (k : ℕ) → 4 ≤ k → sector new.now.contents k ≡ sector old.disk.now.contents k)
    → (place : HoldPlace) (p : ℕ) → IsHeldBy place old p → page new.now.contents p ≡ page old.disk.now.contents p
published_held old new honest same place p held = pages_kept old.disk.now.contents new.now.contents (same honest) p held.0

stays_of : (b : Bool) → IsTrue b → IsTrue (stays (cond b Past Free))
stays_of true is = refl
stays_of false is = cc

pub committed_stays : (h : Holders) (m : Mark) → IsTrue (any h) → IsTrue (stays m) → IsTrue (stays (committed h m))
committed_stays h Committed some it = refl
committed_stays h Waiting some it = cc
committed_stays h Fresh some it = cc
committed_stays h Released some it = stays_of (any h) some
committed_stays h Free some it = cc
committed_stays h Past some it = refl

past_of : (b : Bool) → IsTrue (is_past (cond b Past Free)) → IsTrue b
past_of true is = refl
past_of false is = cc

pub committed_past : (h : Holders) (m : Mark) → (IsTrue (is_past m) → IsTrue (any h)) → IsTrue (is_past (committed h m)) → IsTrue (any h)
committed_past h Committed was is = cc
committed_past h Waiting was is = cc
committed_past h Fresh was is = cc
committed_past h Released was is = past_of (any h) is
committed_past h Free was is = cc
committed_past h Past was is = was refl

-- a commit leaves the holds sound
pub committed_holds : (marks new : List Mark) (holds : Holds) → AreSoundHolds marks holds → AreCommitted holds.of marks new → AreSoundHolds new holds
committed_holds marks new holds sound turned_ = record {
  same_length = sound.same_length ∙ sym turned_.same_length;
  taken = sound.taken;
  stay = λ place p it. subst (λ (m : Mark). IsTrue (stays m)) (sym (turned_.each p))
      (committed_stays (holders_at holds.of p) (mark marks p) (need_any (holders_at holds.of p) place it) (sound.stay place p it));
  past = λ p it. committed_past (holders_at holds.of p) (mark marks p) (sound.past p) (sym (ap is_past (turned_.each p)) ∙ it);
}

pub fresh_waits : (m : Mark) → Fresh ≡ Waiting → m ≡ Waiting
fresh_waits m is = absurd (let e : Fresh ≡ Waiting = is in cc)
