-- Why a chain is not read or written.
use Rattle.std.specs.Prelude.{◌≡◌, ℕ, ◌*◌, ◌<◌, true, List, length, IsTrue}
use Rattle.sector_disk.specs.Disk.{Grew}
use Rattle.page_store.specs.declared.fault.PageFault.{PageFault}
use Rattle.page_store.specs.declared.fault.PageFault.TheVariants.{Disk, Damaged, TableFull, OutOfMemory, Closed}
use Rattle.page_store.specs.Marks.{free_count}
use Rattle.page_store.specs.Pages.{AreWaiting}
use Rattle.page_store.specs.Store.{Store, reads}
use Rattle.page_chain.specs.Chain.{IsChain}
use Rattle.page_chain.specs.declared.page.TheConstants.{PAYLOAD}

-- a chain is not read: the disk failed; on an honest disk, there is no chain of this length from this page on all of
-- whose pages wait; the store is closed; or memory is short
abbrev pub ChainReadCause : ℕ → ℕ → Store → Store → PageFault → Type 0
ChainReadCause first long old new Disk = Grew old.failures new.failures
ChainReadCause first long old new Damaged =
    IsTrue old.disk.honest → (pages content : List ℕ) → length content ≡ long → AreWaiting pages old
    → ¬ IsChain (length old.marks) first pages content (reads old)
ChainReadCause first long old new OutOfMemory = Unit {0}
ChainReadCause first long old new Closed = old.closed ≡ true
ChainReadCause first long old new _ = ⊥

-- a chain is not written: the disk failed, and the store is closed; there are fewer free pages than it takes; the
-- store was closed; or memory is short
abbrev pub ChainWriteCause : ℕ → Store → Store → PageFault → Type 0
ChainWriteCause long old new Disk = Grew old.failures new.failures × (new.closed ≡ true)
ChainWriteCause long old new TableFull = PAYLOAD * free_count old.marks < long
ChainWriteCause long old new OutOfMemory = Unit {0}
ChainWriteCause long old new Closed = old.closed ≡ true
ChainWriteCause long old new _ = ⊥
