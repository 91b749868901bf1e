-- Why a file's table is not read.
use Rattle.std.specs.Prelude.{◌≡◌, ◌<◌, true, length, Option, IsTrue}
use Rattle.sector_disk.specs.Disk.{Grew}
use Rattle.page_store.specs.declared.fault.PageFault.{PageFault}
use Rattle.page_store.specs.declared.fault.PageFault.TheVariants.{Disk, Damaged, OutOfMemory, Closed}
use Rattle.page_store.specs.Pages.{AllWait}
use Rattle.page_store.specs.Store.{Store, reads}
use Rattle.earlier_layouts.specs.Held.{KeepsTable}
use Rattle.game_file.specs.Kept.{Kept}
use Rattle.page_store.specs.declared.limits.TheConstants.{MIN_PAGES}

-- the disk failed; with a root and pages that all wait, on an honest disk, the slot and the pages spell no table, or there
-- are fewer than 16 pages; the store is closed; or memory is short
abbrev pub GameReadCause : Store → Store → PageFault → Type 0
GameReadCause old new Disk = Grew old.failures new.failures
GameReadCause old new Damaged =
    IsTrue old.disk.honest → AllWait old → (kept : Option Kept) → KeepsTable old.root (length old.marks) kept (reads old)
    → length old.marks < MIN_PAGES
GameReadCause old new OutOfMemory = Unit {0}
GameReadCause old new Closed = old.closed ≡ true
GameReadCause old new _ = ⊥
