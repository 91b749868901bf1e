-- What is stated of a store on a disk.
use Rattle.sector_disk.specs.declared.disk.SectorDisk.{Ghosts as OfDisk}
use Rattle.page_store.specs.Holds.{holds_of}
use Rattle.page_store.specs.Store.{Store, store_of}
use Rattle.page_store.specs.declared.store.PageStore.{PageStore}

module _ {D : Type 0} {disk : OfDisk D} where
  -- its disk with the failures so far, its root, the marks of its pages, whether it is closed, and its holds
  abbrev pub store_in : PageStore D disk → Store
  store_in s = store_of (disk.disk s.disk) (disk.failures s.disk) s.root.bytes s.marks.items s.closed (holds_of s.taken s.holders.items)
