-- How a file's game is made ready.
use Rattle.std.specs.Prelude.{◌≡◌, ℕ, true, IsTrue}
use Rattle.sector_disk.specs.Disk.{Disk, Grew}
use Rattle.game_file.specs.Calls.{IsAsked}
use Rattle.game_file.specs.Kept.{Layout}
use Rattle.game_file.specs.State.{State}
use Rattle.solver.specs.declared.fault.SolverFault.{SolverFault}
use Rattle.solver.specs.declared.fault.SolverFault.TheVariants.{Disk as DiskFailed, Damaged, OutOfMemory, Closed}
use Rattle.solver.specs.Held.{IsOfAGame}

-- why a file has no game: the disk failed; the text reads to none, or a position is not one of its positions; memory ran out; or
-- the file was closed
abbrev pub NoGameCause : State → ℕ → SolverFault → Type 0
NoGameCause file now DiskFailed = Grew file.failures now
NoGameCause file now Damaged = IsTrue file.disk.honest → ¬ IsOfAGame file.kept
NoGameCause file now OutOfMemory = Unit {0}
NoGameCause file now Closed = file.closed ≡ true
NoGameCause file now _ = ⊥

-- the disk as a file that was only read gives it back
pub record IsHandedBack (Stores : ℕ → Layout) (file : State) (back : Disk) (now : ℕ) : Type 0 where
  pub later : State
  pub asked : IsAsked Stores file later
  pub disk : back ≡ later.disk
  pub failures : now ≡ later.failures
