-- A table that is copied into one that holds nothing.
use Rattle.std.proofs.Common.{◌≡◌, ℕ, ◌^◌, ◌≤◌, false, List, IsTrue, sym, ◌∙◌, ap, subst}
use Rattle.page_store.specs.Store.{Store, StoreWorks}
use Rattle.retrograde.specs.Stored.{Stored}
use Rattle.table.specs.Records.{nothing}
use Rattle.table.specs.declared.fault.TableFault.{TableFault}
use Rattle.table.specs.declared.fault.TableFault.TheVariants as table
use Rattle.earlier_layouts.specs.Copies.{LeavesOfCopy}
use Rattle.earlier_layouts.specs.declared.fault.CopyFault.{CopyFault}
use Rattle.earlier_layouts.specs.declared.fault.CopyFault.TheVariants.{From, To, Inconsistent}
use Rattle.tree_table.specs.declared.slot.TreeSlot.{TreeSlot}
use Rattle.tree_table.specs.WorkTable.{Work, work_of, table_now, IsHonestWork, HoldsTable, HoldsWork, WorkGoesOn, WorkFails, NoAnswerCause}
use Rattle.tree_table.proofs.HeldTable.{holds_itself}
use Rattle.earlier_layouts.specs.lemmas.MovingSteps.{StepCause, of_copy}

-- from a table that holds nothing
module _ (slot : TreeSlot) (text : List ℕ) (store : Store) (few : slot.sizes.counts.known ≤ 2 ^ 24)
    (holds : IsTrue store.disk.honest → HoldsTable slot text nothing store) (a b : Work) (is : a ≡ work_of slot text false store) where
  same_store : a.store ≡ store
  same_store = ap (λ (w : Work). w.store) is

  -- the pages are those of the store
  pub begins_with : StoreWorks a.store b.store → StoreWorks store b.store
  begins_with works = subst (λ (s : Store). StoreWorks s b.store) same_store works

  honest_work : IsTrue store.disk.honest → IsHonestWork a
  honest_work honest = record {
    disk = subst (λ (s : Store). IsTrue s.disk.honest) (sym same_store) honest;
    whole = ap (λ (w : Work). w.torn) is;
  }

  held : IsTrue store.disk.honest → HoldsWork a
  held honest = subst (λ (w : Work). HoldsWork w) (sym is) (holds_itself slot text nothing store few (holds honest))

  -- its pages hold what it stores in the end
  pub copied : (stored : Stored (List ℕ)) → WorkGoesOn a b → (IsHonestWork a → table_now b ≡ stored) → IsTrue store.disk.honest
      → HoldsTable b.slot text stored b.store
  copied stored ahead same honest =
      subst (λ (t : Stored (List ℕ)). HoldsTable b.slot text t b.store) (same (honest_work honest))
      (subst (λ (x : List ℕ). HoldsTable b.slot x (table_now b) b.store) (ahead.text ∙ ap (λ (w : Work). w.text) is)
      (ahead.holds (honest_work honest) (held honest)))

  -- a fault leaves the committed root's pages
  pub left_works : (Fails : TableFault → Type 0) (fault : CopyFault) → LeavesOfCopy Fails (WorkFails a b) (WorkGoesOn a b) (IsHonestWork a) fault
      → StoreWorks store b.store
  left_works Fails (From fault) left = begins_with left.2.works
  left_works Fails (To fault) left = begins_with left.works
  left_works Fails Inconsistent left = begins_with left.1.works

  to_fails : (fault : TableFault) → NoAnswerCause a b fault → StepCause store b.store (of_copy (To fault))
  to_fails table.Disk cause = subst (λ (s : Store). StepCause s b.store (of_copy (To table.Disk))) same_store cause
  to_fails table.Damaged cause = λ honest. cause (honest_work honest, held honest)
  to_fails table.TableFull cause = tt
  to_fails table.OutOfMemory cause = tt
  to_fails table.Closed cause = ap (λ (s : Store). s.closed) (sym same_store) ∙ cause

  -- why
  pub left_cause : (fault : CopyFault)
      → LeavesOfCopy (λ f. f ≡ table.OutOfMemory) (WorkFails a b) (WorkGoesOn a b) (IsHonestWork a) fault
      → StepCause store b.store (of_copy fault)
  left_cause (From fault) left = subst (λ (f : TableFault). StepCause store b.store (of_copy (From f))) (sym left.0) tt
  left_cause (To fault) left = to_fails fault left.cause
  left_cause Inconsistent left = λ honest. left.0 (honest_work honest)
