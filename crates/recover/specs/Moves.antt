-- What it is to bring a table from one layout into another.
use Rattle.std.specs.Prelude.{◌≡◌, ◌⊎◌, ℕ}
use Rattle.sector_disk.specs.Disk.{Disk, Grew}
use Rattle.game_file.specs.Calls.{IsNotOpened}
use Rattle.game_file.specs.Kept.{Layout, Older}
use Rattle.game_file.specs.State.{State}
use Rattle.game_file.specs.declared.fault.FileFault.{FileFault}
use Rattle.game_file.specs.declared.fault.FileFault.TheVariants.{Disk as DiskFailed}
use Rattle.earlier_layouts.specs.MoveCauses.{MoveCause}
use Rattle.solver.specs.declared.fault.SolverFault.{SolverFault}
use Rattle.solver.specs.Faults.{file_fault}
use Rattle.solver.specs.Opened.{IsOpened, OpenCause, LayoutCause}
use Rattle.tree_file.specs.MoveCauses.{IsMoved, IsNotMoved}

-- why a table that was opened is not moved: the disk failed; or its table is copied, and that has such a cause
abbrev pub MoveOnCause : Type 0 → State → ℕ → FileFault → Type 0
MoveOnCause Copies old now DiskFailed = Grew old.failures now
MoveOnCause Copies old now fault = Copies × MoveCause old now fault

module _ (From To : ℕ → Layout) (Copies : Type 0) (IsOlder : Older) (disk : Disk) (count : ℕ) (back : Disk) (now : ℕ) where
  -- the table was opened in the one layout and moved to the other
  pub record IsMovedFrom : Type 0 where
    pub was : State
    pub opened : IsOpened From disk count was
    pub moved : IsMoved From To was back now

  -- it was not opened
  pub record IsUnopened (fault : SolverFault) : Type 0 where
    pub left : IsNotOpened disk count back now
    pub cause : OpenCause From disk count now fault
    pub older : LayoutCause IsOlder disk fault

  -- it was opened and not moved
  pub record IsUnmoved (fault : SolverFault) : Type 0 where
    pub was : State
    pub opened : IsOpened From disk count was
    pub why : FileFault
    pub is : fault ≡ file_fault why
    pub left : IsNotMoved From To was back now why
    pub cause : MoveOnCause Copies was now why

  -- the one or the other
  abbrev pub IsNotMovedFrom : SolverFault → Type 0
  IsNotMovedFrom fault = IsUnopened fault ⊎ IsUnmoved fault
