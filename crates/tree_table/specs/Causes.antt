-- Why what a slot names is not read or changed.
use Rattle.std.specs.Prelude.{◌≡◌, ℕ, ◌+◌, ◌*◌, ◌<◌, true, List, IsTrue}
use Rattle.sector_disk.specs.Disk.{Grew}
use Rattle.page_store.specs.Marks.{free_count}
use Rattle.page_store.specs.Store.{Store}
use Rattle.retrograde.specs.Stored.{Stored}
use Rattle.table.specs.declared.fault.TableFault.{TableFault}
use Rattle.table.specs.declared.fault.TableFault.TheVariants.{Disk, Damaged, TableFull, OutOfMemory, Closed}
use Rattle.btree.specs.Page.{Item}
use Rattle.tree_table.specs.declared.slot.TreeSlot.{TreeSlot}
use Rattle.tree_table.specs.declared.tree.Tree.{Tree}
use Rattle.tree_table.specs.WorkTable.{HasForest, HasTable, HoldsForest, HoldsTable}
use Rattle.page_chain.specs.declared.page.TheConstants.{PAYLOAD}

-- no four trees are there, as far as the disk is honest
abbrev pub IsNoForest : TreeSlot → Store → Type 0
IsNoForest slot store = IsTrue store.disk.honest → (text : List ℕ) (entries : Tree → List Item) → ¬ HasForest slot text entries store

-- no table is there, as far as the disk is honest
abbrev pub IsNoTable : TreeSlot → Store → Type 0
IsNoTable slot store = IsTrue store.disk.honest → (text : List ℕ) (table : Stored (List ℕ)) → ¬ HasTable slot text table store

-- no four trees are there on pages that are in use, as far as the disk is honest
abbrev pub HasNoForest : TreeSlot → Store → Type 0
HasNoForest slot store = IsTrue store.disk.honest → (text : List ℕ) (entries : Tree → List Item) → ¬ HoldsForest slot text entries store

-- no table is there on pages that are in use, as far as the disk is honest
abbrev pub HasNoTable : TreeSlot → Store → Type 0
HasNoTable slot store = IsTrue store.disk.honest → (text : List ℕ) (table : Stored (List ℕ)) → ¬ HoldsTable slot text table store

-- nothing is read: the disk failed, such a thing is not there, or the store is closed
abbrev pub ReadCause : (TreeSlot → Store → Type 0) → TreeSlot → Store → Store → TableFault → Type 0
ReadCause HasNone slot old new Disk = Grew old.failures new.failures
ReadCause HasNone slot old new Damaged = HasNone slot old
ReadCause HasNone slot old new TableFull = ⊥
ReadCause HasNone slot old new OutOfMemory = ⊥
ReadCause HasNone slot old new Closed = old.closed ≡ true

-- nothing is changed: or a page is needed and none is free
abbrev pub ChangeCause : (TreeSlot → Store → Type 0) → TreeSlot → Store → Store → TableFault → Type 0
ChangeCause HasNone slot old new Disk = Grew old.failures new.failures
ChangeCause HasNone slot old new Damaged = HasNone slot old
ChangeCause HasNone slot old new TableFull = free_count new.marks ≡ 0
ChangeCause HasNone slot old new OutOfMemory = ⊥
ChangeCause HasNone slot old new Closed = old.closed ≡ true

-- no game is loaded: the disk failed, or is not honest; fewer pages are free than its text, its start and the record of that take, the
-- last two one each; memory ran out; the store was closed
abbrev pub StartCause : ℕ → Store → Store → TableFault → Type 0
StartCause long old new Disk = Grew old.failures new.failures
StartCause long old new Damaged = ¬ IsTrue old.disk.honest
StartCause long old new TableFull = PAYLOAD * free_count old.marks < long + 2 * PAYLOAD
StartCause long old new OutOfMemory = Unit {0}
StartCause long old new Closed = old.closed ≡ true
