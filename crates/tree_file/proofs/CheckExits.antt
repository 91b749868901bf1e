-- What is told of a store after reads is told of it before them, and faults are handed on.
use Rattle.std.proofs.Common.{◌≡◌, List, Result, Ok, Err, sym, ◌∙◌, subst}
use Rattle.std.specs.Result.{IsErr, IfErr, IsErrAnd}
use Rattle.sector_disk.specs.lemmas.Moments.{still_honest}
use Rattle.page_store.specs.Frames.{PagesRead}
use Rattle.page_store.specs.Store.{Store}
use Rattle.table.specs.declared.fault.TableFault.{TableFault}
use Rattle.table.specs.declared.fault.TableFault.TheVariants.{Disk, Damaged, TableFull, OutOfMemory, Closed}
use Rattle.btree.specs.lemmas.Unchanged.{grew_before, unchanged_reads}
use Rattle.btree.specs.Page.{Item}
use Rattle.tree_table.specs.declared.slot.TreeSlot.{TreeSlot}
use Rattle.tree_table.specs.declared.tree.Tree.{Tree}
use Rattle.tree_table.specs.Causes.{IsNoForest, ReadCause}
use Rattle.tree_table.specs.WorkTable.{forest_there}
use Rattle.tree_table.specs.lemmas.Frames.{forest_still}
use Rattle.tree_file.specs.lemmas.EntryReads.{TellsOfEntries, CheckCause, PlainCause}

-- a fault is passed on
pub passed_on : {X E : Type 0} (Cause : E → Type 0) (r : Result X E) (fault : E) → IsErr r × IsErrAnd r (λ f. f ≡ fault) → Cause fault → IfErr r Cause
passed_on Cause (Ok x) fault is cause = tt
passed_on Cause (Err f) fault is cause = subst Cause (sym is.1) cause

-- what is told later was so before
pub told_before : (Says : (Tree → List Item) → Type 0) (slot : TreeSlot) (old mid : Store) → PagesRead old mid
    → TellsOfEntries slot mid Says → TellsOfEntries slot old Says
told_before Says slot old mid read tells = λ honest text entries h.
    tells (still_honest read.works.goes_on honest) text entries
    (forest_still slot text entries old mid read.unchanged.marks (unchanged_reads old mid honest read.unchanged) h)

-- why nothing was read
pub read_plain : (Says : (Tree → List Item) → Type 0) (slot : TreeSlot) (old new : Store) (fault : TableFault) → ReadCause IsNoForest slot old new fault
    → PlainCause Says slot old new fault
read_plain Says slot old new Disk grew = grew
read_plain Says slot old new Damaged none = λ honest text entries h says. none honest text entries (forest_there slot text entries old h)
read_plain Says slot old new TableFull never = never
read_plain Says slot old new OutOfMemory never = never
read_plain Says slot old new Closed shut = shut

-- another reason for damage, after other reads
pub plain_since : (One Other : (Tree → List Item) → Type 0) (slot : TreeSlot) (old mid new : Store) (fault : TableFault) → PagesRead old mid
    → TellsOfEntries slot old (λ entries. Other entries → One entries)
    → PlainCause One slot mid new fault → PlainCause Other slot old new fault
plain_since One Other slot old mid new Disk read so grew = grew_before old.failures mid.failures new.failures read.works.failures grew
plain_since One Other slot old mid new Damaged read so none = λ honest text entries h says.
    told_before (λ es. ¬ One es) slot old mid read none honest text entries h (so honest text entries h says)
plain_since One Other slot old mid new TableFull read so never = never
plain_since One Other slot old mid new OutOfMemory read so never = never
plain_since One Other slot old mid new Closed read so shut = sym read.unchanged.closed ∙ shut

pub check_since : (One Other : (Tree → List Item) → Type 0) (slot : TreeSlot) (old mid new : Store) (fault : TableFault) → PagesRead old mid
    → TellsOfEntries slot old (λ entries. Other entries → One entries)
    → CheckCause One slot mid new fault → CheckCause Other slot old new fault
check_since One Other slot old mid new Disk read so grew = grew_before old.failures mid.failures new.failures read.works.failures grew
check_since One Other slot old mid new Damaged read so none = λ honest text entries h says.
    told_before (λ es. ¬ One es) slot old mid read none honest text entries h (so honest text entries h says)
check_since One Other slot old mid new TableFull read so never = never
check_since One Other slot old mid new OutOfMemory read so any = tt
check_since One Other slot old mid new Closed read so shut = sym read.unchanged.closed ∙ shut

-- without memory
pub plain_check : (Says : (Tree → List Item) → Type 0) (slot : TreeSlot) (old new : Store) (fault : TableFault) → PlainCause Says slot old new fault
    → CheckCause Says slot old new fault
plain_check Says slot old new Disk grew = grew
plain_check Says slot old new Damaged none = none
plain_check Says slot old new TableFull never = never
plain_check Says slot old new OutOfMemory never = tt
plain_check Says slot old new Closed shut = shut
