-- Why one step of reading or writing a chain is refused.
use Rattle.std.specs.Prelude.{◌≡◌, ℕ, true}
use Rattle.sector_disk.specs.Disk.{Grew}
use Rattle.page_store.specs.declared.fault.PageFault.{PageFault}
use Rattle.page_store.specs.declared.fault.PageFault.TheVariants.{Disk, Damaged, OutOfMemory, Closed}
use Rattle.page_store.specs.declared.marks.Mark.TheVariants.{Waiting}
use Rattle.page_store.specs.Marks.{mark}
use Rattle.page_store.specs.Store.{Store}

-- a page is not joined to a chain: the disk failed; it does not wait; the store is closed; or memory is short
abbrev pub LinkCause : ℕ → Store → Store → PageFault → Type 0
LinkCause page old new Disk = Grew old.failures new.failures
LinkCause page old new Damaged = mark old.marks page ≡ Waiting → ⊥
LinkCause page old new OutOfMemory = Unit {0}
LinkCause page old new Closed = old.closed ≡ true
LinkCause page old new _ = ⊥

-- pages that are free are not handed out: the store is closed, or memory is short
abbrev pub HandOutCause : Store → PageFault → Type 0
HandOutCause old OutOfMemory = Unit {0}
HandOutCause old Closed = old.closed ≡ true
HandOutCause old _ = ⊥
