-- Why a call answers a fault.
use Rattle.std.specs.Prelude.{◌≡◌, ◌⊎◌, ℕ, ◌≤◌, true, length, IsTrue}
use Rattle.sector_disk.specs.Disk.{Disk, Grew}
use Rattle.root_pair.specs.Root.{IsTableImage}
use Rattle.page_store.specs.declared.fault.PageFault.{PageFault}
use Rattle.page_store.specs.declared.fault.PageFault.TheVariants.{Disk as DiskFailed, NotATable, Damaged, TableFull, OutOfMemory, Closed}
use Rattle.page_store.specs.declared.marks.Mark.TheVariants.{Waiting}
use Rattle.page_store.specs.Marks.{mark, free_count}
use Rattle.page_store.specs.Store.{Store, IsLengthened, IsUnchanged}

-- `open`: the disk failed, it holds no table, or memory is short
abbrev pub StoreOpenCause : Disk → ℕ → ℕ → PageFault → Type 0
StoreOpenCause disk before now DiskFailed = Grew before now
StoreOpenCause disk before now NotATable = IsTrue disk.honest → ¬ IsTableImage disk.now.contents
StoreOpenCause disk before now OutOfMemory = Unit {0}
StoreOpenCause disk before now _ = ⊥

-- `mark`: the page does not wait, or the store is closed
abbrev pub MarkCause : Store → ℕ → PageFault → Type 0
MarkCause old p Damaged = mark old.marks p ≡ Waiting → ⊥
MarkCause old p Closed = old.closed ≡ true
MarkCause old p _ = ⊥

-- `read_page`: the disk failed, there is no such page, or the store is closed
abbrev pub PageReadCause : Store → ℕ → Store → PageFault → Type 0
PageReadCause old p new DiskFailed = Grew old.failures new.failures
PageReadCause old p new Damaged = (p ≡ 0) ⊎ (length old.marks ≤ p)
PageReadCause old p new Closed = old.closed ≡ true
PageReadCause old p new _ = ⊥

-- `new_page`: no page is free, or the store is closed
abbrev pub NewCause : Store → PageFault → Type 0
NewCause old TableFull = free_count old.marks ≡ 0
NewCause old Closed = old.closed ≡ true
NewCause old _ = ⊥

-- `write_page`: the disk failed, and the store is now closed; or it was closed
abbrev pub PageWriteCause : Store → Store → PageFault → Type 0
PageWriteCause old new DiskFailed = Grew old.failures new.failures × (new.closed ≡ true)
PageWriteCause old new Closed = old.closed ≡ true
PageWriteCause old new _ = ⊥

-- `commit`: the disk failed, and the store is as it was, or closed; or it was closed
abbrev pub StoreCommitCause : Store → Store → PageFault → Type 0
StoreCommitCause old new DiskFailed = Grew old.failures new.failures × (IsUnchanged old new ⊎ (new.closed ≡ true))
StoreCommitCause old new Closed = old.closed ≡ true
StoreCommitCause old new _ = ⊥

-- `grow`: the disk failed, and the store is as it was, on a disk that may be longer, or closed; memory is short; or it was closed
abbrev pub GrowCause : Store → Store → PageFault → Type 0
GrowCause old new DiskFailed = Grew old.failures new.failures × (IsLengthened old new ⊎ (new.closed ≡ true))
GrowCause old new OutOfMemory = Unit {0}
GrowCause old new Closed = old.closed ≡ true
GrowCause old new _ = ⊥
