-- What is stated of a file of layout 1 that is open.
use Rattle.sector_disk.specs.declared.disk.SectorDisk.{Ghosts as OfDisk}
use Rattle.page_store.specs.InStore.{store_in}
use Rattle.earlier_layouts.specs.declared.file.FlatTable.{FlatTable}
use Rattle.earlier_layouts.specs.File.{FlatFile}
use Rattle.earlier_layouts.specs.Calls.{file_of}

module _ {D : Type 0} {disk : OfDisk D} where
  -- its pages, and the game that they hold
  abbrev pub file_in : FlatTable D disk → FlatFile
  file_in t = file_of (store_in t.store) t.game
