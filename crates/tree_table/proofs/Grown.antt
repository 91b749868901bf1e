-- A table at work whose store gets more pages.
use Rattle.std.proofs.Common.{◌≡◌, ◌⊎◌, inl, inr, ℕ, ◌≤◌, ◌<◌, ◌^◌, Bool, true, false, List, length, Result, Ok, Err, IsTrue, sym, ◌∙◌, ap, subst, arith}
use Rattle.std.specs.Prelude.{OnOk, OnErr}
use Rattle.sector_disk.specs.Disk.{GoesOn}
use Rattle.page_store.specs.declared.fault.PageFault.{PageFault}
use Rattle.page_store.specs.declared.marks.Mark.{Mark}
use Rattle.page_store.specs.declared.marks.Mark.TheVariants.{Committed, Waiting, Fresh}
use Rattle.page_store.specs.Marks.{mark, needs, is_past, rests}
use Rattle.page_store.specs.Spelled.{IsCalm}
use Rattle.page_store.specs.Store.{Store, IsStoreGrown, reads}
use Rattle.page_store.specs.lemmas.Carried.{grown_calm}
use Rattle.retrograde.specs.Stored.{Stored}
use Rattle.tree_table.specs.declared.slot.TreeSlot.{TreeSlot}
use Rattle.tree_table.specs.KeptTrees.{IsOneOf, IsStill}
use Rattle.tree_table.specs.Trees.{root_of}
use Rattle.tree_table.specs.WorkTable.{work_of, table_now, HoldsTable, HoldsWork}
use Rattle.tree_table.specs.lemmas.Growth.{grown_mark}
use Rattle.tree_table.specs.lemmas.KeptPages.{forest_fits_more, forest_rests}
use Rattle.btree.specs.lemmas.Laws.{a_map_is_prepared}
use Rattle.tree_table.proofs.HeldTable.{holds_itself}

-- the pages of a table that is held are there
there : (slot : TreeSlot) (text : List ℕ) (table : Stored (List ℕ)) (store : Store) (h : HoldsTable slot text table store) (p : ℕ)
    → IsOneOf h.forest.text_pages h.forest.pages p → (1 ≤ p) × (p < length store.marks)
there slot text table store h p (inl here) = h.forest.forest.chain.within p here
there slot text table store h p (inr (t, here)) =
    let tree = h.forest.forest.trees t in
    let kept = (a_map_is_prepared tree.widths (length store.marks) (root_of slot.roots t) (h.forest.pages t) (h.entries t) store (omega arith) tree.map
    (h.forest.held t)).kept p here in
    (kept.0, kept.1)

holds_on : (slot : TreeSlot) (text : List ℕ) (table : Stored (List ℕ)) (old new : Store) → length old.marks ≤ length new.marks
    → ((p : ℕ) → 1 ≤ p → p < length old.marks → reads new p ≡ reads old p)
    → ((p : ℕ) → p < length old.marks → mark new.marks p ≡ mark old.marks p) → HoldsTable slot text table old → HoldsTable slot text table new
holds_on slot text table old new more same marks h = record {
  entries = h.entries;
  forest = record {
    text_pages = h.forest.text_pages;
    pages = h.forest.pages;
    forest =
        forest_fits_more slot.sizes.packed (length old.marks) (length new.marks) slot.first slot.roots text h.forest.text_pages h.forest.pages
        h.entries (reads new) more
        (forest_rests slot.sizes.packed (length old.marks) slot.first slot.roots text h.forest.text_pages h.forest.pages h.entries (reads old)
        h.forest.forest (reads new) (λ p here. let (some, low) = there slot text table old h p here in same p some low));
    text_held = λ p here. held p (there slot text table old h p (inl here)).1 (h.forest.text_held p here);
    held = λ t p here. held p (there slot text table old h p (inr (t, here))).1 (h.forest.held t p here);
  };
  spelled = h.spelled;
  counts = h.counts;
}
  where
    held : (p : ℕ) → p < length old.marks → (mark old.marks p ≡ Committed) ⊎ (mark old.marks p ≡ Fresh)
        → (mark new.marks p ≡ Committed) ⊎ (mark new.marks p ≡ Fresh)
    held p low is = subst (λ (m : Mark). (m ≡ Committed) ⊎ (m ≡ Fresh)) (sym (marks p low)) is

-- whatever is answered, pages in use hold what they held
pub grow_work : (root : List ℕ) (pages : ℕ) (slot : TreeSlot) (text : List ℕ) (torn : Bool) (old new : Store) (r : Result (Unit {0}) PageFault)
    → slot.sizes.counts.known ≤ 2 ^ 24 → IsCalm old → length old.marks < pages → OnOk r (IsStoreGrown root pages old new)
    → OnErr r (new.marks ≡ old.marks) → ((p : ℕ) → 1 ≤ p → p < length old.marks → reads new p ≡ reads old p)
    → HoldsWork (work_of slot text torn old) → HoldsWork (work_of slot text torn new)
grow_work root pages slot text torn old new (Ok x) few calm more done left same h =
    holds_itself slot text (table_now (work_of slot text torn old)) new few
    (holds_on slot text (table_now (work_of slot text torn old)) old new (omega (arith, done.marks.long, more)) same
    (grown_mark root pages old new calm more done) h)
grow_work root pages slot text torn old new (Err e) few calm more done left same h =
    holds_itself slot text (table_now (work_of slot text torn old)) new few
    (holds_on slot text (table_now (work_of slot text torn old)) old new (omega (arith, ap (λ (ms : List Mark). length ms) left)) same
    (λ p low. ap (λ (ms : List Mark). mark ms p) left) h)

-- a refusal leaves the root and its pages
pub grow_left : (old new : Store) (r : Result (Unit {0}) PageFault) → GoesOn old.disk new.disk → OnErr r (new.root ≡ old.root)
    → OnErr r (new.marks ≡ old.marks)
    → (IsTrue old.disk.honest → (p : ℕ) → 1 ≤ p → p < length old.marks → reads new p ≡ reads old p) → OnErr r (IsStill old new)
grow_left old new (Ok x) time root marks pages = tt
grow_left old new (Err e) time root marks pages = record {
  goes_on = time;
  root = root;
  same_pages = ap length marks;
  needed = λ p. ap (λ (ms : List Mark). needs (mark ms p)) marks;
  waiting = λ p is. ap (λ (ms : List Mark). mark ms p) (sym marks) ∙ is;
  past = λ p is. ap (λ (ms : List Mark). is_past (mark ms p)) (sym marks) ∙ is;
  reads = λ honest p needed. pages honest p needed.0 needed.1;
}

-- nothing is handed out or released afterwards
pub grow_calm : (root : List ℕ) (pages : ℕ) (old new : Store) (r : Result (Unit {0}) PageFault) → IsCalm old
    → OnOk r (IsStoreGrown root pages old new) → OnErr r (new.marks ≡ old.marks) → IsCalm new
grow_calm root pages old new (Ok x) calm done marks = grown_calm root pages old new (sealed calm) done
  where
    sealed : IsCalm old → (p : ℕ) → mark old.marks p ≡ Waiting → ⊥
    sealed calm p waits = let never : false ≡ true = sym (ap rests waits) ∙ calm.each p in cc
grow_calm root pages old new (Err e) calm done marks = record { each = λ p. subst (λ (ms : List Mark). IsTrue (rests (mark ms p))) (sym marks) (calm.each p) }
