-- What the steps do by which a table comes into the other layout.
use Rattle.std.specs.Prelude.{◌≡◌, true, false, length, Some, IsTrue}
use Rattle.sector_disk.specs.Disk.{Grew}
use Rattle.page_store.specs.Store.{Store, StoreWorks}
use Rattle.table.specs.InMemory.{stored_in}
use Rattle.earlier_layouts.specs.declared.game.Game.{Game}
use Rattle.earlier_layouts.specs.Calls.{file_of}
use Rattle.earlier_layouts.specs.File.{IsFile}
use Rattle.game_file.specs.declared.fault.FileFault.{FileFault}
use Rattle.game_file.specs.declared.fault.FileFault.TheVariants.{Disk as DiskFailed, Damaged, TableFull, OutOfMemory, Closed, Inconsistent}
use Rattle.game_file.specs.Faults.{of_table}
use Rattle.earlier_layouts.specs.declared.fault.CopyFault.{CopyFault}
use Rattle.earlier_layouts.specs.declared.fault.CopyFault.TheVariants.{From, To, Inconsistent as CopyInconsistent}
use Rattle.tree_table.specs.declared.slot.TreeSlot.{TreeSlot}
use Rattle.tree_table.specs.KeptTrees.{IsSizedSlot}
use Rattle.tree_table.specs.WorkTable.{HoldsTable}

-- a step fails: the disk failed, or is not honest; no page is free; memory is short; or the store was closed
abbrev pub StepCause : Store → Store → FileFault → Type 0
StepCause old new DiskFailed = Grew old.failures new.failures
StepCause old new Damaged = ¬ IsTrue old.disk.honest
StepCause old new TableFull = Unit {0}
StepCause old new OutOfMemory = Unit {0}
StepCause old new Closed = old.closed ≡ true
StepCause old new Inconsistent = ¬ IsTrue old.disk.honest
StepCause old new _ = ⊥

-- a root is not committed: the disk failed, or the store was closed
abbrev pub NewRootCause : Store → Store → FileFault → Type 0
NewRootCause old new DiskFailed = Grew old.failures new.failures
NewRootCause old new Closed = old.closed ≡ true
NewRootCause old new _ = ⊥

-- the slot has the packing, the goal and the length of the text of this one
pub record HasFrameOf (slot other : TreeSlot) : Type 0 where
  pub packing : slot.packing ≡ other.packing
  pub goal : slot.goal ≡ other.goal
  pub text : slot.sizes.text ≡ other.sizes.text

-- the file was whole and open, nothing was committed since, and now the pages that this slot names hold the same text and table
pub record IsCopied (slot : TreeSlot) (begun : Store) (game : Game) (now : Store) : Type 0 where
  pub whole : IsFile (file_of begun (Some game))
  pub is_open : begun.closed ≡ false
  pub works : StoreWorks begun now
  pub still : now.closed ≡ begun.closed
  pub holds : IsTrue begun.disk.honest → HoldsTable slot game.text.items (stored_in game.table) now
  pub packing : slot.packing ≡ game.packing
  pub goal : slot.goal ≡ 0
  pub text : slot.sizes.text ≡ length game.text.items
  pub sized : IsSizedSlot slot

-- the fault of a file for a fault in copying its table
abbrev pub of_copy : CopyFault → FileFault
of_copy (From fault) = of_table fault
of_copy (To fault) = of_table fault
of_copy CopyInconsistent = Inconsistent
