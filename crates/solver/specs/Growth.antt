-- What a growth of the file does: the table is kept, in more pages.
use Rattle.std.specs.Prelude.{◌≡◌, ℕ, true, false, IsTrue}
use Rattle.sector_disk.specs.Disk.{Grew}
use Rattle.game_file.specs.Growth.{GrowsAhead, IsNoGrowth, LeavesEitherSize}
use Rattle.game_file.specs.Kept.{Layout}
use Rattle.game_file.specs.State.{State}
use Rattle.game_file.specs.Stops.{LeavesNow}
use Rattle.solver.specs.declared.fault.SolverFault.{SolverFault}
use Rattle.solver.specs.declared.fault.SolverFault.TheVariants.{Disk as DiskFailed, TooSmall, OutOfMemory, Closed}

module _ (Stores : ℕ → Layout) where
  -- a growth to this many pages, whatever is answered, from the state of the solver before it to the one after it: the table is kept. A stop
  -- between the two moments leaves it in as many pages as before or in this many, and a stop at the second in as many as there are then.
  -- A closed solver stays as it is.
  pub record IsGrowth (pages : ℕ) (was is : State) : Type 0 where
    pub ahead : GrowsAhead was is
    pub kept : IsTrue was.disk.honest → is.kept ≡ was.kept
    pub between : IsTrue was.disk.honest → was.closed ≡ false → LeavesEitherSize Stores pages was is
    pub at : IsTrue was.disk.honest → is.closed ≡ false → LeavesNow (Stores is.capacity) is.disk is.kept
    pub shut : was.closed ≡ true → is ≡ was

-- why it is refused: the disk failed; this many pages are no growth; memory ran out; or the solver was closed
abbrev pub GrowthCause : ℕ → State → State → SolverFault → Type 0
GrowthCause pages old new DiskFailed = Grew old.failures new.failures
GrowthCause pages old new TooSmall = IsNoGrowth pages old.capacity
GrowthCause pages old new OutOfMemory = Unit {0}
GrowthCause pages old new Closed = old.closed ≡ true
GrowthCause pages old new _ = ⊥
