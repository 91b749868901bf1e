-- What may keep the small game from its answer.
use Rattle.std.specs.Prelude.{Option, None, Some}
use Rattle.rbg_read.specs.declared.fault.GameFault.TheVariants as game_fault
use Rattle.sector_disk.specs.Disk.{Grew}
use Rattle.sector_disk.specs.declared.memory.MemDisk.{MemDisk}
use Rattle.solver.specs.declared.fault.SolverFault.{SolverFault}
use Rattle.solver.specs.declared.fault.SolverFault.TheVariants.{Disk as DiskFailed, TableFull, OutOfMemory}
use Rattle.solver.specs.declared.fault.SolverFault.TheVariants.{Game as BadGame}

-- memory ran out: for the solver (E8), for the reader of the text (G10), or for the disk in memory, which fails for
-- nothing else: then its call has failed (E1); or no page was free (E7)
abbrev pub IsWantOfRoom : Type 0 → SolverFault → Type 0
IsWantOfRoom Failed OutOfMemory = Unit {0}
IsWantOfRoom Failed (BadGame game_fault.OutOfMemory) = Unit {0}
IsWantOfRoom Failed DiskFailed = Failed
IsWantOfRoom Failed TableFull = Unit {0}
IsWantOfRoom Failed _ = ⊥

-- calls of the disk that comes back have failed, which it counts
abbrev pub HasFailed : Option MemDisk → Type 0
HasFailed None = ⊥
HasFailed (Some disk) = Grew 0 disk.failures
