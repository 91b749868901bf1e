-- Why no table is spelled.
use Rattle.page_store.specs.Store.{Store}
use Rattle.table.specs.declared.fault.TableFault.{TableFault}
use Rattle.table.specs.declared.fault.TableFault.TheVariants.{Disk, Damaged, TableFull, OutOfMemory, Closed}
use Rattle.tree_table.specs.declared.slot.TreeSlot.{TreeSlot}
use Rattle.tree_file.specs.Causes.{CheckEntriesCause}
use Rattle.tree_file.specs.lemmas.EntryReads.{CheckCause}
use Rattle.tree_file.specs.lemmas.Right.{AreRight}
use Rattle.tree_file.proofs.Spelled.{spell_right}

-- entries that are not right spell no table
pub not_spelled : (slot : TreeSlot) (old new : Store) (fault : TableFault)
    → CheckCause (λ entries. AreRight slot.sizes entries 0 slot.sizes.counts.known) slot old new fault → CheckEntriesCause slot old new fault
not_spelled slot old new Disk grew = grew
not_spelled slot old new Damaged none = λ honest text entries h many table spelled. none honest text entries h (spell_right slot.sizes entries table spelled)
not_spelled slot old new TableFull never = never
not_spelled slot old new OutOfMemory any = tt
not_spelled slot old new Closed shut = shut
