-- What reading tells of the entries of the trees that a slot names, and why nothing is told.
use Rattle.std.specs.Prelude.{◌≡◌, ℕ, true, List, IsTrue}
use Rattle.sector_disk.specs.Disk.{Grew}
use Rattle.page_store.specs.Store.{Store}
use Rattle.table.specs.declared.fault.TableFault.{TableFault}
use Rattle.table.specs.declared.fault.TableFault.TheVariants.{Disk, Damaged, TableFull, OutOfMemory, Closed}
use Rattle.btree.specs.Page.{Item}
use Rattle.tree_table.specs.declared.slot.TreeSlot.{TreeSlot}
use Rattle.tree_table.specs.declared.tree.Tree.{Tree}
use Rattle.tree_table.specs.WorkTable.{HoldsForest}

-- on an honest disk this is so of the entries of the trees that the slot names
abbrev pub TellsOfEntries : TreeSlot → Store → ((Tree → List Item) → Type 0) → Type 0
TellsOfEntries slot store Says =
    IsTrue store.disk.honest → (text : List ℕ) (entries : Tree → List Item) → HoldsForest slot text entries store → Says entries

-- nothing is told: the disk failed, the entries are not so, memory is short, or the store is closed
abbrev pub CheckCause : ((Tree → List Item) → Type 0) → TreeSlot → Store → Store → TableFault → Type 0
CheckCause Says slot old new Disk = Grew old.failures new.failures
CheckCause Says slot old new Damaged = TellsOfEntries slot old (λ entries. ¬ Says entries)
CheckCause Says slot old new TableFull = ⊥
CheckCause Says slot old new OutOfMemory = Unit {0}
CheckCause Says slot old new Closed = old.closed ≡ true

-- the same where no memory is needed
abbrev pub PlainCause : ((Tree → List Item) → Type 0) → TreeSlot → Store → Store → TableFault → Type 0
PlainCause Says slot old new Disk = Grew old.failures new.failures
PlainCause Says slot old new Damaged = TellsOfEntries slot old (λ entries. ¬ Says entries)
PlainCause Says slot old new TableFull = ⊥
PlainCause Says slot old new OutOfMemory = ⊥
PlainCause Says slot old new Closed = old.closed ≡ true
