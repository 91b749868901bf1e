-- A hold is taken or let go beside a table at work.
use Rattle.std.proofs.Common.{◌≡◌, ◌⊎◌, inl, inr, ℕ, Bool, true, List, Option, None, Some, IsTrue, sym, ◌∙◌, ap, subst}
use Rattle.std.specs.Option.{IfSome, IfNone}
use mathlib.Core.Logic.{∥∥₁_elim, ∥∥₁_prop}
use Rattle.sector_disk.specs.Disk.{Disk}
use Rattle.page_store.specs.Page.{page}
use Rattle.page_store.specs.declared.holds.Hold.{Hold}
use Rattle.page_store.specs.declared.holds.HoldPlace.{HoldPlace}
use Rattle.page_store.specs.declared.marks.Mark.TheVariants.{Committed, Fresh}
use Rattle.page_store.specs.Holds.{needed_by, holders_at}
use Rattle.page_store.specs.Marks.{mark, left}
use Rattle.page_store.specs.Store.{Store, IsHoldTaken, IsLetGo, reads}
use Rattle.retrograde.specs.Stored.{Stored}
use Rattle.tree_table.specs.declared.slot.TreeSlot.{TreeSlot}
use Rattle.tree_table.specs.Spelled.{table_in}
use Rattle.tree_table.specs.Versions.{StandsInVersion}
use Rattle.tree_table.specs.WorkTable.{work_of, IsHonestWork, HoldsTable, HoldsWork, HasTable}
use Rattle.tree_table.specs.lemmas.Frames.{table_still}
use Rattle.tree_table.proofs.Commits.{held_on}

same_reads : (old new : Store) → new.disk ≡ old.disk → reads new ≡ reads old
same_reads old new disk = ap (λ (d : Disk). λ (p : ℕ). page d.now.contents p) disk

-- a store with the same marks on the same disk holds the same
hold_keeps : (slot : TreeSlot) (text : List ℕ) (torn : Bool) (old new : Store) → new.marks ≡ old.marks → new.disk ≡ old.disk
    → (IsHonestWork (work_of slot text torn old) → ∥ HoldsWork (work_of slot text torn old) ∥₁) → IsHonestWork (work_of slot text torn new)
    → ∥ HoldsWork (work_of slot text torn new) ∥₁
hold_keeps slot text torn old new marks disk holds honest =
    let was : IsHonestWork (work_of slot text torn old) = record { disk = subst (λ (d : Disk). IsTrue d.honest) disk honest.disk; whole = honest.whole } in
    ∥∥₁_elim (holds was) ∥∥₁_prop (λ (h : HoldsWork (work_of slot text torn old)).
    ∣ subst (λ (t : Stored (List ℕ)). HoldsTable slot text t new) (sym (ap (table_in slot) (same_reads old new disk)))
    (table_still slot text (table_in slot (reads old)) old new marks (same_reads old new disk) h) ∣₁)

-- so after a hold was taken, or was not
pub taken_keeps : (slot : TreeSlot) (text : List ℕ) (torn : Bool) (old new : Store) (r : Option Hold)
    → IfSome r (λ hold. IsHoldTaken hold.place old new)
    → IfNone r ((new ≡ old) × ((place : HoldPlace) → needed_by old.holds.taken place ≡ true))
    → (IsHonestWork (work_of slot text torn old) → ∥ HoldsWork (work_of slot text torn old) ∥₁) → IsHonestWork (work_of slot text torn new)
    → ∥ HoldsWork (work_of slot text torn new) ∥₁
taken_keeps slot text torn old new (Some hold) taken none = hold_keeps slot text torn old new taken.marks taken.disk
taken_keeps slot text torn old new None taken none =
    hold_keeps slot text torn old new (ap (λ (s : Store). s.marks) none.0) (ap (λ (s : Store). s.disk) none.0)

-- a page in use stays in use
pub left_held : (place : HoldPlace) (old new : Store) → IsLetGo place old new → (p : ℕ) → (mark old.marks p ≡ Committed) ⊎ (mark old.marks p ≡ Fresh)
    → (mark new.marks p ≡ Committed) ⊎ (mark new.marks p ≡ Fresh)
left_held place old new gone p (inl is) = inl (gone.marks.each p ∙ ap (left (holders_at new.holds.of p)) is)
left_held place old new gone p (inr is) = inr (gone.marks.each p ∙ ap (left (holders_at new.holds.of p)) is)

-- and after a hold was let go
pub let_go_keeps : (slot : TreeSlot) (text : List ℕ) (torn : Bool) (place : HoldPlace) (old new : Store) → IsLetGo place old new
    → (IsHonestWork (work_of slot text torn old) → ∥ HoldsWork (work_of slot text torn old) ∥₁) → IsHonestWork (work_of slot text torn new)
    → ∥ HoldsWork (work_of slot text torn new) ∥₁
let_go_keeps slot text torn place old new gone holds honest =
    let was : IsHonestWork (work_of slot text torn old) = record { disk = subst (λ (d : Disk). IsTrue d.honest) gone.disk honest.disk; whole = honest.whole } in
    ∥∥₁_elim (holds was) ∥∥₁_prop (λ (h : HoldsWork (work_of slot text torn old)).
    ∣ subst (λ (t : Stored (List ℕ)). HoldsTable slot text t new) (sym (ap (table_in slot) (same_reads old new gone.disk)))
    (held_on slot text (table_in slot (reads old)) old new gone.marks.same_length (left_held place old new gone)
    (λ p some. ap (λ (d : Disk). page d.now.contents p) gone.disk) h) ∣₁)

-- the table of a version is there to be read
pub version_there : (place : HoldPlace) (slot : TreeSlot) (table : Stored (List ℕ)) (store : Store) (it : StandsInVersion place slot table store)
    → HasTable slot it.text table store
version_there place slot table store it = record {
  entries = it.entries;
  forest = record { text_pages = it.text_pages; pages = it.pages; forest = it.forest };
  spelled = it.spelled;
  counts = it.counts;
}
