-- Why the entries of four trees are not found to spell a table.
use Rattle.std.specs.Prelude.{◌≡◌, ℕ, true, List, IsTrue}
use Rattle.sector_disk.specs.Disk.{Grew}
use Rattle.page_store.specs.Store.{Store}
use Rattle.retrograde.specs.Stored.{Stored}
use Rattle.table.specs.declared.fault.TableFault.{TableFault}
use Rattle.table.specs.declared.fault.TableFault.TheVariants.{Disk, Damaged, TableFull, OutOfMemory, Closed}
use Rattle.btree.specs.Page.{Item}
use Rattle.tree_table.specs.declared.slot.TreeSlot.{TreeSlot}
use Rattle.tree_table.specs.declared.tree.Tree.{Tree}
use Rattle.tree_table.specs.WorkTable.{HoldsForest}
use Rattle.tree_file.specs.Counted.{AreAsMany}
use Rattle.tree_file.specs.Spelled.{SpellTable}

-- the disk failed; entries that are as many as the slot tells spell no table; memory is short; the store is closed
abbrev pub CheckEntriesCause : TreeSlot → Store → Store → TableFault → Type 0
CheckEntriesCause slot old new Disk = Grew old.failures new.failures
CheckEntriesCause slot old new Damaged =
    IsTrue old.disk.honest → (text : List ℕ) (entries : Tree → List Item) → HoldsForest slot text entries old
    → AreAsMany slot.sizes entries → (table : Stored (List ℕ)) → ¬ SpellTable slot.sizes entries table
CheckEntriesCause slot old new TableFull = ⊥
CheckEntriesCause slot old new OutOfMemory = Unit {0}
CheckEntriesCause slot old new Closed = old.closed ≡ true
