-- What the questions that are asked for a certificate leave.
use Rattle.std.specs.Prelude.{◌≡◌}
use Rattle.sector_disk.specs.declared.disk.SectorDisk.{Ghosts as OfDisk}
use Rattle.table.specs.declared.table.Table.{Ghosts as OfTable}
use Rattle.game_file.specs.Kept.{goal_kept}
use Rattle.game_file.specs.declared.file.GameFile.{Ghosts as OfFile}
use Rattle.solver.specs.declared.commands.FileSolver.{FileSolver}
use Rattle.solver.specs.Solvers.{state, IsReady}

module _ {F Device : Type 0} {file : OfFile F Device} {table : OfTable F} {disk : OfDisk Device} where
  -- a solver that is ready stays so, and its table has the goal that it had
  abbrev pub KeepsGoal : FileSolver F Device file table disk → FileSolver F Device file table disk → Type 0
  KeepsGoal old new = IsReady old → IsReady new × (goal_kept (state new).kept ≡ goal_kept (state old).kept)
