-- Why the moves of a known position are not given.
use Rattle.std.specs.Prelude.{◌≡◌}
use Rattle.legal_moves.specs.declared.fault.MoveFault.{MoveFault}
use Rattle.legal_moves.specs.declared.fault.MoveFault.TheVariants as search
use Rattle.table.specs.Faults.{NeedsNoPage}
use Rattle.table.specs.declared.fault.TableFault.{TableFault}
use Rattle.best_line.specs.declared.known_fault.KnownMovesFault.{KnownMovesFault}
use Rattle.best_line.specs.declared.known_fault.KnownMovesFault.TheVariants.{Inconsistent, TooWide, OutOfMemory, Table}

-- what a fault of the search is as a fault of the moves
abbrev pub search_fault : MoveFault → KnownMovesFault
search_fault search.TooWide = TooWide
search_fault search.OutOfMemory = OutOfMemory

-- where the fault is the table's, this is said of it
abbrev pub FaultOfTable : (TableFault → Type 0) → KnownMovesFault → Type 0
FaultOfTable fails Inconsistent = Unit {0}
FaultOfTable fails TooWide = Unit {0}
FaultOfTable fails OutOfMemory = Unit {0}
FaultOfTable fails (Table fault) = fails fault

-- what is so of a fault of the moves: which it is tells what is so of the position, and one of the table is no want of a page, and has its cause
pub record HasNoMoves (None Wide : Type 0) (Fails : TableFault → Type 0) (told : KnownMovesFault) : Type 0 where
  pub none : told ≡ Inconsistent → None
  pub wide : told ≡ TooWide → Wide
  pub room : FaultOfTable NeedsNoPage told
  pub fault : FaultOfTable Fails told
