-- What stands stays where the root and the pages that it needs are as they were.
use Rattle.std.specs.Prelude.{◌≡◌, ℕ, Bool, true, false, cond, List, length, Option, None, Some, IsTrue}
use Rattle.std.proofs.Common.{inl, inr, refl, sym, ◌∙◌, ap, subst, arith}
use Rattle.sector_disk.specs.lemmas.Moments.{goes_on_refl, goes_on_trans, still_honest}
use Rattle.sector_disk.specs.Disk.{Disk, GoesOn}
use Rattle.page_store.specs.Page.{page}
use Rattle.page_store.specs.declared.marks.Mark.{Mark}
use Rattle.page_store.specs.declared.marks.Mark.TheVariants.{Committed, Waiting, Fresh, Released, Free, Past}
use Rattle.page_store.specs.declared.holds.HoldPlace.{HoldPlace}
use Rattle.page_store.specs.declared.holds.Holders.{Holders}
use Rattle.page_store.specs.Holds.{any, holders_at}
use Rattle.page_store.specs.Marks.{mark, needs, is_past, rests, turned, left, IsNeeded, AreDiscarded}
use Rattle.page_store.specs.Spelled.{IsCalm}
use Rattle.page_store.specs.Store.{Store, reads, StoreWorks, IsRemarked, IsHoldTaken, IsLetGo}
use Rattle.game_file.specs.Kept.{Kept}
use Rattle.tree_table.specs.declared.slot.TreeSlot.{TreeSlot}
use Rattle.tree_table.specs.Forest.{IsForest}
use Rattle.tree_table.specs.KeptTrees.{IsKeptInTrees, IsStill, StandsInTrees, StandsFor}
use Rattle.tree_table.specs.WorkTable.{HoldsTable}
use Rattle.tree_table.specs.lemmas.KeptPages.{forest_rests, keeps_rests, keeps_as}

-- a disk that is honest now was so before
pub was_honest : {old new : Disk} → GoesOn old new → IsTrue new.honest → IsTrue old.honest
was_honest goes_on honest = subst (λ (b : Bool). IsTrue b) goes_on.honest honest

-- one moment after another
pub works_still : {old new : Store} → StoreWorks old new → IsStill old new
works_still works = record {
  goes_on = works.goes_on;
  root = works.root;
  same_pages = works.same_pages;
  needed = works.needed;
  waiting = works.waiting;
  past = λ p is. sym (works.past p) ∙ is;
  reads = works.reads;
}

pub needed_still : {old new : Store} → IsStill old new → (p : ℕ) → IsNeeded old.marks p → IsNeeded new.marks p
needed_still still p needed = (
  needed.0,
  omega (arith, needed.1, still.same_pages),
  subst (λ (b : Bool). IsTrue b) (sym (still.needed p)) needed.2,
)

pub still_then : {old mid new : Store} → IsStill old mid → IsStill mid new → IsStill old new
still_then first second = record {
  goes_on = goes_on_trans first.goes_on second.goes_on;
  root = second.root ∙ first.root;
  same_pages = second.same_pages ∙ first.same_pages;
  needed = λ p. second.needed p ∙ first.needed p;
  waiting = λ p is. first.waiting p (second.waiting p is);
  past = λ p is. first.past p (second.past p is);
  reads = λ honest p needed. second.reads (still_honest first.goes_on honest) p (needed_still first p needed) ∙ first.reads honest p needed;
}

-- a mark after `discard` is needed where it was
discarded_needs : (m : Mark) → needs (turned Free Committed Waiting m) ≡ needs m
discarded_needs Committed = refl
discarded_needs Waiting = refl
discarded_needs Fresh = refl
discarded_needs Released = refl
discarded_needs Free = refl
discarded_needs Past = refl

discarded_past : (m : Mark) → is_past (turned Free Committed Waiting m) ≡ is_past m
discarded_past Committed = refl
discarded_past Waiting = refl
discarded_past Fresh = refl
discarded_past Released = refl
discarded_past Free = refl
discarded_past Past = refl

discarded_waits : (m : Mark) → turned Free Committed Waiting m ≡ Waiting → m ≡ Waiting
discarded_waits Committed is = absurd (cc)
discarded_waits Waiting is = refl
discarded_waits Fresh is = absurd (cc)
discarded_waits Released is = absurd (cc)
discarded_waits Free is = absurd (cc)
discarded_waits Past is = absurd (cc)

pub discarded_still : (old new : Store) → AreDiscarded old.marks new.marks → IsRemarked old new → IsStill old new
discarded_still old new marks others = record {
  goes_on = subst (λ (d : Disk). GoesOn old.disk d) (sym others.disk) (goes_on_refl old.disk);
  root = others.root;
  same_pages = marks.same_length;
  needed = λ p. ap needs (marks.each p) ∙ discarded_needs (mark old.marks p);
  waiting = λ p is. discarded_waits (mark old.marks p) (sym (marks.each p) ∙ is);
  past = λ p is. sym (ap is_past (marks.each p) ∙ discarded_past (mark old.marks p)) ∙ is;
  reads = λ honest p needed. ap (λ (d : Disk). page d.now.contents p) others.disk;
}

-- so is a store as a hold is taken
pub taken_still : (place : HoldPlace) (old new : Store) → IsHoldTaken place old new → IsStill old new
taken_still place old new taken = record {
  goes_on = subst (λ (d : Disk). GoesOn old.disk d) (sym taken.disk) (goes_on_refl old.disk);
  root = taken.root;
  same_pages = ap (λ (ms : List Mark). length ms) taken.marks;
  needed = λ p. ap (λ (ms : List Mark). needs (mark ms p)) taken.marks;
  waiting = λ p is. ap (λ (ms : List Mark). mark ms p) (sym taken.marks) ∙ is;
  past = λ p is. ap (λ (ms : List Mark). is_past (mark ms p)) (sym taken.marks) ∙ is;
  reads = λ honest p needed. ap (λ (d : Disk). page d.now.contents p) taken.disk;
}

-- and as one is let go
left_needs : (h : Holders) (m : Mark) → needs (left h m) ≡ needs m
left_needs h Committed = refl
left_needs h Waiting = refl
left_needs h Fresh = refl
left_needs h Released = refl
left_needs h Free = refl
left_needs h Past = by (any h)
  where
    by : (b : Bool) → needs (cond b Past Free) ≡ false
    by true = refl
    by false = refl

left_waits : (h : Holders) (m : Mark) → left h m ≡ Waiting → m ≡ Waiting
left_waits h Committed is = absurd (cc)
left_waits h Waiting is = refl
left_waits h Fresh is = absurd (cc)
left_waits h Released is = absurd (cc)
left_waits h Free is = absurd (cc)
left_waits h Past is = by (any h) is
  where
    by : (b : Bool) → cond b Past Free ≡ Waiting → Past ≡ Waiting
    by true is = is
    by false is = absurd (cc)

left_past : (h : Holders) (m : Mark) → IsTrue (is_past (left h m)) → IsTrue (is_past m)
left_past h Committed is = is
left_past h Waiting is = is
left_past h Fresh is = is
left_past h Released is = is
left_past h Free is = is
left_past h Past is = refl

pub let_go_still : (place : HoldPlace) (old new : Store) → IsLetGo place old new → IsStill old new
let_go_still place old new gone = record {
  goes_on = subst (λ (d : Disk). GoesOn old.disk d) (sym gone.disk) (goes_on_refl old.disk);
  root = gone.root;
  same_pages = gone.marks.same_length;
  needed = λ p. ap needs (gone.marks.each p) ∙ left_needs (holders_at new.holds.of p) (mark old.marks p);
  waiting = λ p is. left_waits (holders_at new.holds.of p) (mark old.marks p) (sym (gone.marks.each p) ∙ is);
  past = λ p is. left_past (holders_at new.holds.of p) (mark old.marks p) (sym (ap is_past (gone.marks.each p)) ∙ is);
  reads = λ honest p needed. ap (λ (d : Disk). page d.now.contents p) gone.disk;
}

-- nothing is handed out, released or waiting after `discard` where nothing waited
discarded_rests : (m : Mark) → (m ≡ Waiting → ⊥) → IsTrue (rests (turned Free Committed Waiting m))
discarded_rests Committed not = refl
discarded_rests Waiting not = absurd (not refl)
discarded_rests Fresh not = refl
discarded_rests Released not = refl
discarded_rests Free not = refl
discarded_rests Past not = refl

pub discarded_calm : (old new : Store) → AreDiscarded old.marks new.marks → ((p : ℕ) → mark old.marks p ≡ Waiting → ⊥) → IsCalm new
discarded_calm old new marks none = record {
  each = λ p. subst (λ (m : Mark). IsTrue (rests m)) (sym (marks.each p)) (discarded_rests (mark old.marks p) (none p));
}

-- what is kept is kept still
pub still_keeps : (old new : Store) (kept : Option Kept) → IsTrue old.disk.honest → IsStill old new → IsKeptInTrees old kept
    → IsKeptInTrees new kept
still_keeps old new kept honest still it = record {
  text_pages = it.text_pages;
  pages = it.pages;
  keeps = keeps_as it.text_pages it.pages old.root new.root (length old.marks) (length new.marks) kept (reads new) (sym still.root)
      (sym still.same_pages)
      (keeps_rests it.text_pages it.pages old.root (length old.marks) kept (reads old) (reads new)
      (λ p here. still.reads honest p (it.needed p here)) it.keeps);
  needed = λ p here. needed_still still p (it.needed p here);
}

-- a call that changes no page keeps a table that its pages encode
pub still_stands : (slot : TreeSlot) (text : List ℕ) (old new : Store) → IsTrue old.disk.honest → IsStill old new
    → StandsInTrees slot text old
    → StandsInTrees slot text new
still_stands slot text old new honest still it = record {
  table = it.table;
  text_pages = it.text_pages;
  pages = it.pages;
  entries = it.entries;
  forest =
      subst (λ (n : ℕ). IsForest slot.sizes.packed n slot.first slot.roots text it.text_pages it.pages it.entries (reads new))
      (sym still.same_pages)
      (forest_rests slot.sizes.packed (length old.marks) slot.first slot.roots text it.text_pages it.pages it.entries (reads old) it.forest
      (reads new) (λ p here. still.reads honest p (it.needed p here)));
  spelled = it.spelled;
  counts = it.counts;
  needed = λ p here. needed_still still p (it.needed p here);
}

pub still_stands_for : (game : Option TreeSlot) (text : List ℕ) (old new : Store) → IsTrue old.disk.honest → IsStill old new
    → StandsFor game text old → StandsFor game text new
still_stands_for None text old new honest still it = it
still_stands_for (Some slot) text old new honest still it = still_stands slot text old new honest still it

-- between commands what stands is held by pages in use
calm_held : (m : Mark) → IsTrue (rests m) → needs m ≡ true → m ≡ Committed
calm_held Committed calm needed = refl
calm_held Waiting calm needed = cc
calm_held Fresh calm needed = cc
calm_held Released calm needed = cc
calm_held Free calm needed = cc
calm_held Past calm needed = cc

pub stands_held : (slot : TreeSlot) (text : List ℕ) (store : Store) → IsCalm store → (it : StandsInTrees slot text store)
    → HoldsTable slot text it.table store
stands_held slot text store calm it = record {
  entries = it.entries;
  forest = record {
    text_pages = it.text_pages;
    pages = it.pages;
    forest = it.forest;
    text_held = λ p here. inl (calm_held (mark store.marks p) (calm.each p) (it.needed p (inl here)).2);
    held = λ t p here. inl (calm_held (mark store.marks p) (calm.each p) (it.needed p (inr (t, here))).2);
  };
  spelled = it.spelled;
  counts = it.counts;
}
