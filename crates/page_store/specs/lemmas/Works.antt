-- How the layers above tell a store from call to call.
use Rattle.std.specs.Prelude.{◌≡◌, ◌⊎◌, ℕ, ◌<◌, ◌≤◌, Bool, true, false, List, length, IsTrue}
use Rattle.std.proofs.Common.{refl, sym, ◌∙◌, ap, subst, arith, inl, inr}
use Rattle.std.proofs.lemmas.Bool.{cases_lt}
use Rattle.std.proofs.lemmas.List.{get_or_past}
use Rattle.sector_disk.specs.Disk.{Image, Disk, GoesOn, Grew, LeavesOnly}
use Rattle.sector_disk.specs.lemmas.Moments.{goes_on_refl, goes_on_trans, leaves_now, leaves_then, leaves_more, still_honest}
use Rattle.root_pair.specs.Root.{HoldsRoot, root_of, IsAtRest}
use Rattle.root_pair.specs.lemmas.Rest.{rest_leaves}
use Rattle.page_store.specs.declared.marks.Mark.{Mark}
use Rattle.page_store.specs.declared.marks.Mark.TheVariants.{Committed, Fresh}
use Rattle.page_store.specs.Marks.{mark, IsNeeded}
use Rattle.page_store.specs.lemmas.Page.{page_same}
use Rattle.page_store.specs.declared.holds.HoldPlace.{HoldPlace}
use Rattle.page_store.specs.Holds.{Holds, holders_at, needed_by}
use Rattle.page_store.specs.Store.{Store, ClosesByWrites, IsHeldBy, Saved, SavedAs, StopLeaves, IsSafe, StoreWorks, IsRemarked}

-- nothing has failed
pub closes_same : {was is : Bool} {before now : ℕ} → is ≡ was → now ≡ before → ClosesByWrites was before is now
closes_same same count = record {
  stays = λ is. sym same ∙ is;
  none = λ is. count;
  cause = λ was is. absurd (let no : false ≡ true = sym was ∙ sym same ∙ is in cc);
}

-- a write, a sync or an extension failed
pub closes_failed : {was is : Bool} {before now : ℕ} → is ≡ true → Grew before now → ClosesByWrites was before is now
closes_failed closed grew = record {
  stays = λ is. absurd (let no : true ≡ false = sym closed ∙ is in cc);
  none = λ is. absurd (let no : true ≡ false = sym closed ∙ is in cc);
  cause = λ was is. grew;
}

-- what grew up to a moment grew up to a later one
pub grew_until : {before mid now : ℕ} → mid ≤ now → Grew before mid → Grew before now
grew_until later (inl grew) = inl (omega (arith, later, grew))
grew_until later (inr full) = inr (omega (arith, later, full))

-- what grew since a moment grew since an earlier one
pub grew_since : {before mid now : ℕ} → before ≤ mid → Grew mid now → Grew before now
grew_since later (inl grew) = inl (omega (arith, later, grew))
grew_since later (inr full) = inr full

-- one call after another
pub closes_then : {was mid is : Bool} {before between now : ℕ} → before ≤ between → between ≤ now → ClosesByWrites was before mid between
    → ClosesByWrites mid between is now → ClosesByWrites was before is now
closes_then {was} {mid} {is} {before} {between} {now} early late first second = record {
  stays = λ open_. first.stays (second.stays open_);
  none = λ open_. second.none open_ ∙ first.none (second.stays open_);
  cause = λ open_ shut. at mid refl open_ shut;
}
  where
    at : (b : Bool) → mid ≡ b → was ≡ false → is ≡ true → Grew before now
    at false same open_ shut = grew_since early (second.cause same shut)
    at true same open_ shut = grew_until late (first.cause open_ same)

-- a page that was handed out lies before the end
pub fresh_within : (marks : List Mark) (p : ℕ) → mark marks p ≡ Fresh → p < length marks
fresh_within marks p fresh = elim (cases_lt p (length marks)) [
  | inl within ↦ within
  | inr past ↦ absurd (let no : Committed ≡ Fresh = sym (get_or_past marks p Committed past) ∙ fresh in cc)
]

-- a stop leaves the committed root and its pages
pub safe_saves : (store : Store) → IsSafe store → StopLeaves store (Saved store)
safe_saves store safe image left = record {
  holds = subst (λ (r : List ℕ). HoldsRoot r image) safe.root (rest_leaves store.disk.now safe.rest image left);
  room = omega (arith, safe.room, left.no_shorter);
  pages = λ p needed. page_same image store.disk.now.contents p (λ k within. left.same k (safe.synced p needed k within));
}

-- nothing has happened
pub works_refl : (store : Store) → StoreWorks store store
works_refl store = record {
  goes_on = goes_on_refl store.disk;
  same_size = refl;
  failures = omega arith;
  root = refl;
  same_pages = refl;
  closed = λ open_. open_;
  closes = closes_same refl refl;
  waiting = λ p is. is;
  needed = λ p. refl;
  reads = λ honest p needed. refl;
  header = λ honest. refl;
  safe = λ honest safe. safe;
  leaves = λ honest safe. leaves_now store.disk (safe_saves store safe);
  holds = refl;
  past = λ p. refl;
  held = λ honest place p held. refl;
}

-- nor with a store that is as it was
pub works_same : {old new : Store} → new ≡ old → StoreWorks old new
works_same {old} same = subst (λ (s : Store). StoreWorks old s) (sym same) (works_refl old)

-- what the earlier store needs, the later needs
pub still_needed : {old new : Store} → StoreWorks old new → (p : ℕ) → IsNeeded old.marks p → IsNeeded new.marks p
still_needed works p needed = (
  needed.0,
  omega (arith, needed.1, works.same_pages),
  subst (λ (b : Bool). IsTrue b) (sym
      (works.needed p)) needed.2,
)

-- what a hold needed in the earlier store, it needs in the later
pub still_held : (old new : Store) → new.holds ≡ old.holds → (place : HoldPlace) (p : ℕ) → IsHeldBy place old p → IsHeldBy place new p
still_held old new same place p held = (held.0, subst (λ (h : Holds). IsTrue (needed_by (holders_at h.of p) place)) (sym same) held.1)

-- what is saved of the later store is saved of the earlier
pub saved_before : {old new : Store} → StoreWorks old new → IsTrue old.disk.honest → (image : Image) → Saved new image
    → Saved old image
saved_before works honest image saved = record {
  holds = subst (λ (r : List ℕ). HoldsRoot r image) works.root saved.holds;
  room = omega (arith, saved.room, works.same_pages);
  pages = λ p needed. saved.pages p (still_needed works p needed) ∙ works.reads honest p needed;
}

-- one part after another
pub works_then : {old mid new : Store} → StoreWorks old mid → StoreWorks mid new → StoreWorks old new
works_then {old} {mid} {new} first second = record {
  goes_on = goes_on_trans first.goes_on second.goes_on;
  same_size = second.same_size ∙ first.same_size;
  failures = omega (arith, first.failures, second.failures);
  root = second.root ∙ first.root;
  same_pages = second.same_pages ∙ first.same_pages;
  closed = λ open_. first.closed (second.closed open_);
  closes = closes_then first.goes_on.failed_writes second.goes_on.failed_writes first.closes second.closes;
  waiting = λ p is. first.waiting p (second.waiting p is);
  needed = λ p. second.needed p ∙ first.needed p;
  reads = λ honest p needed. second.reads (still_honest first.goes_on honest) p (still_needed first p needed) ∙ first.reads honest p needed;
  header = λ honest. second.header (still_honest first.goes_on honest) ∙ first.header honest;
  safe = λ honest safe. second.safe (still_honest first.goes_on honest) (first.safe honest safe);
  leaves = λ honest safe.
      leaves_then second.goes_on (first.leaves honest safe)
      (leaves_more (saved_before first honest) (second.leaves (still_honest first.goes_on honest) (first.safe honest safe)));
  holds = second.holds ∙ first.holds;
  past = λ p. second.past p ∙ first.past p;
  held = λ honest place p held. second.held (still_honest first.goes_on honest) place p (still_held old mid first.holds place p held)
      ∙ first.held honest place p held;
}

-- only marks change, and no page becomes needed that was not
pub safe_remarked : (old new : Store) → IsRemarked old new → length new.marks ≡ length old.marks
    → ((p : ℕ) → IsNeeded new.marks p → IsNeeded old.marks p) → IsSafe old → IsSafe new
safe_remarked old new others long fewer safe =
    let lasts : new.disk.now.lasting ≡ old.disk.now.lasting = ap (λ (d : Disk). d.now.lasting) others.disk in
    record {
      rest = subst (λ (d : Disk). IsAtRest d.now) (sym others.disk) safe.rest;
      room = omega (arith, safe.room, long, lasts);
      root = ap (λ (d : Disk). root_of d.now.contents) others.disk ∙ safe.root ∙ sym others.root;
      synced = λ p needed k within. subst (λ (d : Disk). IsTrue (d.now.synced k)) (sym others.disk)
          (safe.synced p (fewer p needed) k within);
    }

-- work, and then a commit: a stop leaves what was saved at first, or the new root and all pages as they read at the commit
pub commit_after : {old mid : Store} (new : Disk) (root : List ℕ) → StoreWorks old mid → GoesOn mid.disk new
    → (IsTrue mid.disk.honest → IsSafe mid → LeavesOnly mid.disk new (λ image. Saved mid image ⊎ SavedAs root mid image))
    → IsTrue old.disk.honest → IsSafe old → LeavesOnly old.disk new (λ image. Saved old image ⊎ SavedAs root mid image)
commit_after {old} {mid} new root works goes_on commit honest safe =
    leaves_then goes_on
    (leaves_more (λ image saved. inl saved) (works.leaves honest safe))
    (leaves_more each (commit (still_honest works.goes_on honest) (works.safe honest safe)))
  where
    each : (image : Image) → Saved mid image ⊎ SavedAs root mid image → Saved old image ⊎ SavedAs root mid image
    each image (inl saved) = inl (saved_before works honest image saved)
    each image (inr saved) = inr saved
