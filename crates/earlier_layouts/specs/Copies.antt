-- Why a table is not copied, and what that leaves.
use Rattle.table.specs.Faults.{NeedsNoPage}
use Rattle.table.specs.declared.fault.TableFault.{TableFault}
use Rattle.earlier_layouts.specs.declared.fault.CopyFault.{CopyFault}
use Rattle.earlier_layouts.specs.declared.fault.CopyFault.TheVariants.{From, To, Inconsistent}

-- why a table is not copied: of its own fault each of the two says the cause, and the one that is written has gone on after
-- another; it counts something else than was written only where it is not honest
abbrev pub LeavesOfCopy : (TableFault → Type 0) → (TableFault → Type 0) → Type 0 → Type 0 → CopyFault → Type 0
LeavesOfCopy from_fails to_fails ahead honest (From fault) = from_fails fault × NeedsNoPage fault × ahead
LeavesOfCopy from_fails to_fails ahead honest (To fault) = to_fails fault
LeavesOfCopy from_fails to_fails ahead honest Inconsistent = ¬ honest × ahead
