-- A table is taken into a room.
use Rattle.std.proofs.Common.{◌≡◌, ◌≢◌, ℕ, List, [], ◌∷◌, ◌++◌, length, Some, inl, inr, refl, sym, subst}
use Rattle.std.proofs.lemmas.Bool.Decides.{eqb_tells}
use Rattle.game_file.specs.State.{State}
use Rattle.sector_disk.specs.Disk.{Disk}
use Rattle.session.specs.Commands.{IsUnopened}
use Rattle.solver.specs.Faults.{status_of}
use Rattle.session_lines.specs.Told.{fault_line}
use Rattle.solver.specs.Opened.{IsOpened}
use Rattle.solver.specs.declared.fault.SolverFault.{SolverFault}
use Rattle.tree_table.specs.Held.{StoresTrees}
use Rattle.in_process.specs.Calls.{IsDiskOf}
use Rattle.in_process.specs.Given.{IsGiven}
use Rattle.in_process.specs.Kept.{IsAskable, IsOpenOn}
use Rattle.in_process.specs.Rooms.{Boxed, IsTableAdded, IsTakenOver}
use Rattle.in_process.specs.declared.held.HeldTable.{HeldTable}
use Rattle.in_process.specs.declared.places.HeldTables.{HeldTables}

-- it could not be opened, and the refusal was given, or memory ran out for it
pub not_taken : {bytes out told : List ℕ} {tables : HeldTables} {number given result : ℕ} (disk back : Disk) (count now : ℕ) (why : SolverFault) → count ≡ 0
    → IsDiskOf bytes disk → IsUnopened (StoresTrees 3) disk count why back now
    → (result ≢ 5 → (result ≡ status_of why) × IsGiven (fault_line why) out told given) → (result ≡ 5 → (given ≡ 0) × (told ≡ out))
    → IsTakenOver bytes tables tables number number out told given result
not_taken {bytes} {out} {told} {tables} {number} {given} {result} disk back count now why none is_disk unopened gives no_memory = elim (eqb_tells result 5) [
  | inl five ↦ subst (IsTakenOver bytes tables tables number number out told given) (sym five.1)
      (IsTakenOver.no_memory (record { tables = refl; number = refl }) (no_memory five.1).0 (no_memory five.1).1)
  | inr other ↦ subst (IsTakenOver bytes tables tables number number out told given) (sym (gives other.1).0)
      (IsTakenOver.refused disk back now why is_disk (subst (λ n. IsUnopened (StoresTrees 3) disk n why back now) none unopened) (gives other.1).1
      (record { tables = refl; number = refl }))
]

-- it was opened, and its box stands behind the tables that were there
pub added : {tables after : HeldTables} {number : ℕ} (disk : Disk) (count : ℕ) (is : State) (table : HeldTable) → count ≡ 0
    → IsOpened (StoresTrees 3) disk count is → IsOpenOn is table.kept → IsAskable table.kept → table.answers.items ≡ []
    → (held : Boxed) × (held.value ≡ table) × (after.places.items ≡ tables.places.items ++ Some held ∷ []) → number ≡ length tables.places.items
    → IsTableAdded disk tables after number
added disk count is table zero opened on askable none (held, same, behind) numbered = record {
  is = is;
  opened = subst (λ n. IsOpened (StoresTrees 3) disk n is) zero opened;
  held = held;
  is_open = subst (λ (t : HeldTable). IsOpenOn is t.kept) (sym same) on;
  askable = subst (λ (t : HeldTable). IsAskable t.kept) (sym same) askable;
  none = subst (λ (t : HeldTable). t.answers.items ≡ []) (sym same) none;
  added = behind;
  numbered = numbered;
}
