-- What is stated of a table on trees in a file.
use Rattle.std.specs.Prelude.{ℕ}
use Rattle.page_store.specs.declared.pages.Pages.{Ghosts as OfPages}
use Rattle.sector_disk.specs.declared.disk.SectorDisk.{Ghosts as OfDisk}
use Rattle.tree_table.specs.InTrees.{work_in}
use Rattle.tree_file.specs.declared.file.TreeFile.{TreeFile}
use Rattle.tree_file.specs.File.{File, file_of}

module _ {P Device : Type 0} {layout : ℕ} {pages : OfPages P} {disk : OfDisk Device} where
  -- the table that a command has come to, and the slot of the committed root
  abbrev pub file_in : TreeFile P layout Device pages disk → File
  file_in t = file_of (work_in t.table) t.game
