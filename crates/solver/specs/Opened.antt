-- What `open` and `create` give.
use Rattle.std.specs.Prelude.{◌≡◌, ◌<◌, ℕ, false, Option, None, IsTrue}
use Rattle.sector_disk.specs.Disk.{Disk, size, LeavesOnly, MayLeave, Grew}
use Rattle.root_pair.specs.Root.{BeginsAsTable, IsTableImage}
use Rattle.game_file.specs.Kept.{Kept, Layout, Older, in_any}
use Rattle.game_file.specs.State.{State, GoesFrom, pages_of}
use Rattle.game_file.specs.Stops.{LeavesNow, OldOrEmpty}
use Rattle.solver.specs.declared.fault.SolverFault.{SolverFault}
use Rattle.solver.specs.declared.fault.SolverFault.TheVariants.{Disk as DiskFailed, NotATable, AlreadyATable, Damaged, OldLayout}
use Rattle.solver.specs.declared.fault.SolverFault.TheVariants.{TooSmall, OutOfMemory}
use Rattle.solver.specs.Held.{Holds}

module _ (Stores : ℕ → Layout) where
  -- `open` answers Ok: the table is the one that the disk holds, and no other; a stop since then leaves what it could leave
  -- before, and a stop now this table
  pub record IsOpened (disk : Disk) (count : ℕ) (state : State) : Type 0 where
    pub from : GoesFrom disk count state.disk state.failures
    pub is_open : state.closed ≡ false
    pub holds : IsTrue disk.honest → Holds (Stores state.capacity) disk.now.contents state.kept
    pub only : IsTrue disk.honest → (kept : Option Kept) → Holds (in_any Stores) disk.now.contents kept → state.kept ≡ kept
    pub since : IsTrue disk.honest → LeavesOnly disk state.disk (MayLeave disk.now)
    pub now : IsTrue disk.honest → LeavesNow (Stores state.capacity) state.disk state.kept

  -- `create` answers Ok: no table was there, and now the empty one is; a stop since then leaves no table, what it could leave
  -- before, or the empty table, and a stop now the empty table
  pub record IsCreated (disk : Disk) (count : ℕ) (state : State) : Type 0 where
    pub from : GoesFrom disk count state.disk state.failures
    pub capacity : state.capacity ≡ pages_of disk
    pub is_open : state.closed ≡ false
    pub empty : IsTrue disk.honest → state.kept ≡ None
    pub fresh : IsTrue disk.honest → ¬ BeginsAsTable disk.now.contents
    pub since : IsTrue disk.honest → LeavesOnly disk state.disk (OldOrEmpty (Stores state.capacity) disk.now)
    pub now : IsTrue disk.honest → LeavesNow (Stores state.capacity) state.disk None

  -- why `open` is refused: the disk failed; no table is there; it begins as each table does, and holds none; it has an earlier layout,
  -- so that it stores none; or memory ran out
  abbrev pub OpenCause : Disk → ℕ → ℕ → SolverFault → Type 0
  OpenCause disk before now DiskFailed = Grew before now
  OpenCause disk before now NotATable = IsTrue disk.honest → ¬ IsTableImage disk.now.contents
  OpenCause disk before now Damaged =
      IsTrue disk.honest → IsTableImage disk.now.contents × ((kept : Option Kept) → ¬ Holds (in_any Stores) disk.now.contents kept)
  OpenCause disk before now OldLayout = IsTrue disk.honest → (kept : Option Kept) → ¬ in_any Stores disk.now.contents kept
  OpenCause disk before now OutOfMemory = Unit {0}
  OpenCause disk before now _ = ⊥

-- `open` is refused for an earlier layout only where the disk holds a table of one, and as damaged only where it holds none of one
abbrev pub LayoutCause : Older → Disk → SolverFault → Type 0
LayoutCause IsOlder disk OldLayout = IsTrue disk.honest → IsOlder disk.now.contents
LayoutCause IsOlder disk Damaged = IsTrue disk.honest → ¬ IsOlder disk.now.contents
LayoutCause IsOlder disk _ = Unit {0}

-- why `create` is refused: the disk failed; a table is there; there is room for fewer than 16 pages, and no table; or memory ran out
abbrev pub CreateCause : Disk → ℕ → ℕ → SolverFault → Type 0
CreateCause disk before now DiskFailed = Grew before now
CreateCause disk before now NotATable = ¬ IsTrue disk.honest
CreateCause disk before now AlreadyATable = IsTrue disk.honest → BeginsAsTable disk.now.contents
CreateCause disk before now Damaged = ¬ IsTrue disk.honest
CreateCause disk before now TooSmall = (size disk < 128) × (IsTrue disk.honest → ¬ BeginsAsTable disk.now.contents)
CreateCause disk before now OutOfMemory = Unit {0}
CreateCause disk before now _ = ⊥
