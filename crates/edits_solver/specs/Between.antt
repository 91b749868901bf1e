-- What a stop leaves between two commands of one list.
use Rattle.std.specs.Prelude.{ℕ}
use Rattle.retrograde.specs.declared.records.Counts.{Counts}
use Rattle.game_file.specs.Kept.{Layout}
use Rattle.game_file.specs.State.{State, GoesAhead}
use Rattle.game_file.specs.Stops.{LeavesNow}
use Rattle.solver.specs.Machine.{WorksOnTable}

-- at some moment from the one state to the other this many units are done on the table that was there, or the table is finished by then,
-- and a stop at that moment leaves the table with these units alone
pub record LeavesTheFirst (Stores : ℕ → Layout) (units : ℕ) (was is : State) : Type 0 where
  pub mid : State
  pub since : GoesAhead was mid
  pub until : GoesAhead mid is
  pub done : ℕ
  pub counts : Counts
  pub does : WorksOnTable units was.kept done counts mid.kept
  pub at : LeavesNow (Stores mid.capacity) mid.disk mid.kept
