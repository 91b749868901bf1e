-- Faults that are handed on.
use Rattle.std.proofs.Common.{◌≡◌, ℕ, ◌+◌, ◌≤◌, Result, Ok, Err, refl, sym, ◌∙◌, ap, subst, arith}
use Rattle.std.specs.Result.{IsErr, IfErr, IsErrAnd}
use Rattle.page_store.specs.declared.fault.PageFault.{PageFault}
use Rattle.page_store.specs.declared.fault.PageFault.TheVariants as page
use Rattle.page_store.specs.Frames.{PagesRead, PagesRefused}
use Rattle.page_store.specs.Marks.{free_count}
use Rattle.page_store.specs.Store.{Store, StoreWorks}
use Rattle.page_store.specs.lemmas.Frames.{refused_since}
use Rattle.page_store.specs.lemmas.Works.{works_then}
use Rattle.table.specs.declared.fault.TableFault.{TableFault}
use Rattle.table.specs.declared.fault.TableFault.TheVariants.{Disk, Damaged, TableFull, OutOfMemory, Closed}
use Rattle.btree.specs.lemmas.Unchanged.{grew_before}
use Rattle.tree_table.specs.declared.slot.TreeSlot.{TreeSlot}
use Rattle.tree_table.specs.Causes.{ReadCause, ChangeCause}
use Rattle.tree_table.specs.Frames.{TreesWritten}
use Rattle.tree_table.specs.lemmas.Faults.{fault_of}
use Rattle.tree_table.specs.lemmas.Slots.{IsSameButRoots, IsSameFrame}
use Rattle.game_file.specs.declared.sizes.Sizes.{Sizes}

-- a fault is passed on
pub passed_on : {X E : Type 0} (Cause : E → Type 0) (r : Result X E) (fault : E) → IsErr r × IsErrAnd r (λ f. f ≡ fault) → Cause fault → IfErr r Cause
passed_on Cause (Ok x) fault is cause = tt
passed_on Cause (Err f) fault is cause = subst Cause (sym is.1) cause

-- another reason for damage
pub read_for : (One Other : TreeSlot → Store → Type 0) (slot : TreeSlot) (old new : Store) (fault : TableFault) → (One slot old → Other slot old)
    → ReadCause One slot old new fault → ReadCause Other slot old new fault
read_for One Other slot old new Disk so cause = cause
read_for One Other slot old new Damaged so cause = so cause
read_for One Other slot old new TableFull so cause = cause
read_for One Other slot old new OutOfMemory so cause = cause
read_for One Other slot old new Closed so cause = cause

pub change_for : (One Other : TreeSlot → Store → Type 0) (slot other : TreeSlot) (old new : Store) (fault : TableFault) → (One slot old → Other other old)
    → ChangeCause One slot old new fault → ChangeCause Other other old new fault
change_for One Other slot other old new Disk so cause = cause
change_for One Other slot other old new Damaged so cause = so cause
change_for One Other slot other old new TableFull so cause = cause
change_for One Other slot other old new OutOfMemory so cause = cause
change_for One Other slot other old new Closed so cause = cause

-- what was not read is not changed
pub read_then : (One : TreeSlot → Store → Type 0) (slot : TreeSlot) (old new : Store) (fault : TableFault)
    → ReadCause One slot old new fault → ChangeCause One slot old new fault
read_then One slot old new Disk cause = cause
read_then One slot old new Damaged cause = cause
read_then One slot old new TableFull cause = absurd cause
read_then One slot old new OutOfMemory cause = absurd cause
read_then One slot old new Closed cause = cause

-- a change that fails after another call
pub change_since : (One Other : TreeSlot → Store → Type 0) (slot later : TreeSlot) (old mid new : Store) (fault : TableFault)
    → StoreWorks old mid → mid.closed ≡ old.closed
    → (One later mid → Other slot old) → ChangeCause One later mid new fault → ChangeCause Other slot old new fault
change_since One Other slot later old mid new Disk works still so cause = grew_before old.failures mid.failures new.failures works.failures cause
change_since One Other slot later old mid new Damaged works still so cause = so cause
change_since One Other slot later old mid new TableFull works still so cause = cause
change_since One Other slot later old mid new OutOfMemory works still so cause = cause
change_since One Other slot later old mid new Closed works still so cause = sym still ∙ cause

-- an entry is not put into a tree
pub put_refused : {Cause : Store → Store → PageFault → Type 0} {most : ℕ} (Other : Store → Store → TableFault → Type 0) (old new : Store) (fault : PageFault)
    → PagesRefused page.Disk Cause most old new fault → (Cause old new fault → Other old new (fault_of fault))
    → PagesRefused Disk Other most old new (fault_of fault)
put_refused Other old new fault it cause =
    record { works = it.works; still = λ other. it.still (λ disk. other (ap fault_of disk)); takes = it.takes; cause = cause it.cause }

-- a change is refused for the same reason in other words
pub change_refused : {most : ℕ} {fault : TableFault} (One Other : TreeSlot → Store → Type 0) (slot : TreeSlot) (old new : Store)
    → (One slot old → Other slot old)
    → PagesRefused Disk (ChangeCause One slot) most old new fault → PagesRefused Disk (ChangeCause Other slot) most old new fault
change_refused {fault = fault} One Other slot old new so it =
    record { works = it.works; still = it.still; takes = it.takes; cause = change_for One Other slot slot old new fault so it.cause }

-- and after others
pub refused_later : {most more all : ℕ} {fault : TableFault} (One Other : TreeSlot → Store → Type 0) (slot later : TreeSlot)
    (old mid new : Store) → TreesWritten most old mid
    → most + more ≤ all → (One later mid → Other slot old) → PagesRefused Disk (ChangeCause One later) more mid new fault
    → PagesRefused Disk (ChangeCause Other slot) all old new fault
refused_later {most = most} {fault = fault} One Other slot later old mid new first fits so it =
    refused_since most first.works first.still first.takes fits (change_since One Other slot later old mid new fault first.works first.still so) it

-- one call that writes after another
pub trees_then : {old mid new : Store} {most more all : ℕ} → TreesWritten most old mid → TreesWritten more mid new → most + more ≤ all
    → TreesWritten all old new
trees_then first second fits =
    record { works = works_then first.works second.works; still = second.still ∙ first.still; takes = omega (arith, first.takes, second.takes, fits) }

-- a read writes nothing
pub trees_read : {old new : Store} {most : ℕ} → PagesRead old new → TreesWritten most old new
trees_read read = record { works = read.works; still = read.unchanged.closed; takes = omega (arith, ap free_count read.unchanged.marks) }

-- the text, the packing, the goal and the length of positions stay
pub frame_refl : (slot : TreeSlot) → IsSameFrame slot slot
frame_refl slot = record { packing = refl; goal = refl; first = refl; text = refl; packed = refl }

pub frame_of : {slot next : TreeSlot} → IsSameButRoots slot next → IsSameFrame slot next
frame_of same = record {
  packing = same.packing;
  goal = same.goal;
  first = same.first;
  text = ap (λ (z : Sizes). z.text) same.sizes;
  packed = ap (λ (z : Sizes). z.packed) same.sizes;
}

pub frame_then : {slot mid next : TreeSlot} → IsSameButRoots slot mid → IsSameButRoots mid next → IsSameFrame slot next
frame_then one two = record {
  packing = two.packing ∙ one.packing;
  goal = two.goal ∙ one.goal;
  first = two.first ∙ one.first;
  text = ap (λ (z : Sizes). z.text) (two.sizes ∙ one.sizes);
  packed = ap (λ (z : Sizes). z.packed) (two.sizes ∙ one.sizes);
}
