-- Why a call on a table's file answers a fault.
use Rattle.std.specs.Prelude.{◌≡◌, ◌<◌, ℕ, true, List, length, Option, IsTrue}
use Rattle.sector_disk.specs.Disk.{Disk, size, Grew}
use Rattle.root_pair.specs.Root.{BeginsAsTable, IsTableImage}
use Rattle.retrograde.specs.Stored.{Stored}
use Rattle.table.specs.Fit.{FitsTogether}
use Rattle.table.specs.declared.fault.TableFault.{TableFault}
use Rattle.table.specs.declared.fault.TableFault.TheVariants as table
use Rattle.game_file.specs.Kept.{Kept, Layout, Older}
use Rattle.game_file.specs.State.{State}
use Rattle.game_file.specs.declared.fault.FileFault.{FileFault}
use Rattle.game_file.specs.declared.fault.FileFault.TheVariants.{Disk as DiskFailed, NotATable, AlreadyATable, Damaged, OldLayout, TooSmall}
use Rattle.game_file.specs.declared.fault.FileFault.TheVariants.{TableFull, OutOfMemory, Closed, Inconsistent}

-- `open`: the disk failed; it is no table; it begins as each table does, and stores none, and none of an earlier layout; it holds one
-- of an earlier layout; or memory ran out
abbrev pub FileOpenCause : Layout → Older → Disk → ℕ → ℕ → FileFault → Type 0
FileOpenCause Stores IsOlder disk before now DiskFailed = Grew before now
FileOpenCause Stores IsOlder disk before now NotATable = IsTrue disk.honest → ¬ IsTableImage disk.now.contents
FileOpenCause Stores IsOlder disk before now Damaged =
    IsTrue disk.honest
    → IsTableImage disk.now.contents × ((kept : Option Kept) → ¬ Stores disk.now.contents kept) × (¬ IsOlder disk.now.contents)
FileOpenCause Stores IsOlder disk before now OldLayout = IsTrue disk.honest → IsOlder disk.now.contents
FileOpenCause Stores IsOlder disk before now OutOfMemory = Unit {0}
FileOpenCause Stores IsOlder disk before now _ = ⊥

-- `create`: the disk failed; a table is there; there is room for fewer than 16 pages, and no table; or memory ran out
abbrev pub FileCreateCause : Disk → ℕ → ℕ → FileFault → Type 0
FileCreateCause disk before now DiskFailed = Grew before now
FileCreateCause disk before now NotATable = ¬ IsTrue disk.honest
FileCreateCause disk before now AlreadyATable = IsTrue disk.honest → BeginsAsTable disk.now.contents
FileCreateCause disk before now Damaged = ¬ IsTrue disk.honest
FileCreateCause disk before now TooSmall = (size disk < 128) × (IsTrue disk.honest → ¬ BeginsAsTable disk.now.contents)
FileCreateCause disk before now OutOfMemory = Unit {0}
FileCreateCause disk before now _ = ⊥

-- `load`: the disk failed, or is not honest; there are fewer than 24 pages; memory ran out; the file was closed; or the start has no
-- bytes, so that it is no position
abbrev pub FileLoadCause : List ℕ → State → State → FileFault → Type 0
FileLoadCause start old new DiskFailed = Grew old.failures new.failures
FileLoadCause start old new Damaged = ¬ IsTrue old.disk.honest
FileLoadCause start old new TableFull = old.capacity < 24
FileLoadCause start old new OutOfMemory = Unit {0}
FileLoadCause start old new Closed = old.closed ≡ true
FileLoadCause start old new Inconsistent = length start ≡ 0
FileLoadCause start old new _ = ⊥

-- `commit`: the disk failed, or is not honest; the file was closed; or the table's parts do not fit together, or not
-- with positions as long as those of the table before
abbrev pub FileCommitCause : Stored (List ℕ) → Stored (List ℕ) → State → State → FileFault → Type 0
FileCommitCause was is old new DiskFailed = Grew old.failures new.failures
FileCommitCause was is old new Damaged = ¬ IsTrue old.disk.honest
FileCommitCause was is old new Closed = old.closed ≡ true
FileCommitCause was is old new Inconsistent = IsTrue old.disk.honest → (n : ℕ) → FitsTogether n was → ¬ FitsTogether n is
FileCommitCause was is old new _ = ⊥

-- a call on the table itself: the disk failed, or is not honest; no page is free; memory ran out; or the file was closed
abbrev pub FileTableCause : State → State → TableFault → Type 0
FileTableCause old new table.Disk = Grew old.failures new.failures
FileTableCause old new table.Damaged = ¬ IsTrue old.disk.honest
FileTableCause old new table.TableFull = Unit {0}
FileTableCause old new table.OutOfMemory = Unit {0}
FileTableCause old new table.Closed = old.closed ≡ true

-- a record of a version is not read: the disk failed, or is not honest, or the file is closed
abbrev pub FileVersionCause : State → State → TableFault → Type 0
FileVersionCause old new table.Disk = Grew old.failures new.failures
FileVersionCause old new table.Damaged = ¬ IsTrue old.disk.honest
FileVersionCause old new table.TableFull = ⊥
FileVersionCause old new table.OutOfMemory = ⊥
FileVersionCause old new table.Closed = old.closed ≡ true

-- why a version is not read, whichever it is: E1 only where the disk failed, E9 only where the file is closed, and neither E7 nor E8
abbrev pub FileReadFault : State → State → TableFault → Type 0
FileReadFault old new table.Disk = Grew old.failures new.failures
FileReadFault old new table.Damaged = Unit {0}
FileReadFault old new table.TableFull = ⊥
FileReadFault old new table.OutOfMemory = ⊥
FileReadFault old new table.Closed = old.closed ≡ true
