-- What a line leaves of a solver, whatever it asks.
use Rattle.sector_disk.specs.declared.disk.SectorDisk.{Ghosts as OfDisk}
use Rattle.table.specs.declared.table.Table.{Ghosts as OfTable}
use Rattle.game_file.specs.declared.file.GameFile.{Ghosts as OfFile}
use Rattle.solver.specs.declared.commands.FileSolver.{FileSolver}
use Rattle.solver.specs.Solvers.{IsReady}

module _ {F Device : Type 0} {file : OfFile F Device} {table : OfTable F} {disk : OfDisk Device} where
  -- it is as ready as before, and what open listings need is kept
  pub record IsStillReady (old new : FileSolver F Device file table disk) : Type 0 where
    pub ready : IsReady old → IsReady new
    pub lasts : file.lasts old.file new.file
