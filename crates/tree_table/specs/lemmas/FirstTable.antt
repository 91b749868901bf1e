-- The first table of a game, before it is committed.
use Rattle.std.specs.Prelude.{◌≡◌, ◌≢◌, ℕ, List, length, Option, IsTrue}
use Rattle.page_store.specs.Store.{Store, StoreWorks}
use Rattle.table.specs.declared.fault.TableFault.{TableFault}
use Rattle.table.specs.declared.fault.TableFault.TheVariants.{Disk}
use Rattle.tree_table.specs.Causes.{StartCause}
use Rattle.position_pack.specs.declared.kind.PackingKind.{PackingKind}
use Rattle.retrograde.specs.Stored.{loaded}
use Rattle.game_file.specs.Fields.{number_of_goal, goal_numbered}
use Rattle.tree_table.specs.declared.slot.TreeSlot.{TreeSlot}
use Rattle.tree_table.specs.KeptTrees.{IsSizedSlot}
use Rattle.tree_table.specs.WorkTable.{HoldsTable}

-- the slot names pages that hold it, with this text, packing, goal and start
pub record IsFirstTable (text : List ℕ) (kind : PackingKind) (points : Option ℕ) (start : List ℕ) (old new : Store) (slot : TreeSlot) : Type 0 where
  pub table : IsTrue old.disk.honest → HoldsTable slot text (loaded start) new
  pub long : slot.sizes.text ≡ length text
  pub packing : slot.packing ≡ kind
  pub number : slot.goal ≡ number_of_goal points
  pub goal : goal_numbered slot.goal ≡ points
  pub sized : IsSizedSlot slot
  pub works : StoreWorks old new
  pub still : new.closed ≡ old.closed

-- it is not there: nothing is committed, only a disk that failed closes the store, and the fault has its cause
pub record IsNoFirstTable (long : ℕ) (old new : Store) (fault : TableFault) : Type 0 where
  pub works : StoreWorks old new
  pub still : fault ≢ Disk → new.closed ≡ old.closed
  pub cause : StartCause long old new fault
