-- What is stated of a solver.
use Rattle.sector_disk.specs.declared.disk.SectorDisk.{Ghosts as OfDisk}
use Rattle.table.specs.declared.table.Table.{Ghosts as OfTable}
use Rattle.game_file.specs.State.{State}
use Rattle.game_file.specs.declared.file.GameFile.{Ghosts as OfFile}
use Rattle.solver.specs.declared.commands.FileSolver.{FileSolver}
use Rattle.solver.specs.State.{IsSourceOf}

module _ {F Device : Type 0} {file : OfFile F Device} {table : OfTable F} {disk : OfDisk Device} where
  -- its disk, and the table of the last commit
  abbrev pub state : FileSolver F Device file table disk → State
  state solver = file.state solver.file

  -- what is in memory is what the disk keeps: so it is after `create` and `open`, and no call changes that
  abbrev pub IsReady : FileSolver F Device file table disk → Type 0
  IsReady solver = file.is_whole solver.file × IsSourceOf solver.source (state solver).kept
