-- Why a table of the second layout does not move on.
use Rattle.std.proofs.Common.{◌≡◌, ℕ, true, false, sym, ◌∙◌}
use Rattle.game_file.specs.declared.fault.FileFault.{FileFault}
use Rattle.game_file.specs.declared.fault.FileFault.TheVariants as file
use Rattle.game_file.specs.State.{State}
use Rattle.tree_file.specs.MoveCauses.{RenewCause}
use Rattle.recover.specs.Moves.{MoveOnCause}

-- its root alone was written
pub by_root : (old : State) (now : ℕ) (fault : FileFault) → old.closed ≡ false → RenewCause old now fault → MoveOnCause ⊥ old now fault
by_root old now file.Disk is_open cause = cause
by_root old now file.NotATable is_open cause = absurd cause
by_root old now file.AlreadyATable is_open cause = absurd cause
by_root old now file.Damaged is_open cause = absurd cause
by_root old now file.OldLayout is_open cause = absurd cause
by_root old now file.TooSmall is_open cause = absurd cause
by_root old now file.TableFull is_open cause = absurd cause
by_root old now file.OutOfMemory is_open cause = absurd cause
by_root old now file.Closed is_open cause = let never : true ≡ false = sym cause ∙ is_open in absurd (cc)
by_root old now file.Inconsistent is_open cause = absurd cause
