-- What a hold on a store keeps of a table: the one that was committed as the hold was taken.
use Rattle.std.specs.Prelude.{◌≡◌, ◌≤◌, ℕ, List, length, IsTrue}
use Rattle.sector_disk.specs.Disk.{GoesOn}
use Rattle.page_store.specs.declared.holds.HoldPlace.{HoldPlace}
use Rattle.page_store.specs.Holds.{SameHolds, needed_by}
use Rattle.page_store.specs.Store.{Store, IsHeldBy, reads}
use Rattle.retrograde.specs.Changes.{counts_of}
use Rattle.retrograde.specs.Stored.{Stored}
use Rattle.btree.specs.Page.{Item}
use Rattle.tree_table.specs.declared.slot.TreeSlot.{TreeSlot}
use Rattle.tree_table.specs.declared.tree.Tree.{Tree}
use Rattle.tree_table.specs.Entries.{AreEntriesOf}
use Rattle.tree_table.specs.Forest.{IsForest}
use Rattle.tree_table.specs.KeptTrees.{IsOneOf}

-- the pages that this slot names hold a table, which it counts right, and this hold needs each of them
pub record StandsInVersion (place : HoldPlace) (slot : TreeSlot) (table : Stored (List ℕ)) (store : Store) : Type 0 where
  pub text : List ℕ
  pub text_pages : List ℕ
  pub pages : Tree → List ℕ
  pub entries : Tree → List Item
  pub forest : IsForest slot.sizes.packed (length store.marks) slot.first slot.roots text text_pages pages entries (reads store)
  pub spelled : AreEntriesOf slot.sizes entries table
  pub counts : counts_of table ≡ slot.sizes.counts
  pub held : (p : ℕ) → IsOneOf text_pages pages p → IsHeldBy place store p
  pub taken : IsTrue (needed_by store.holds.taken place)

-- a later state of the same store, over calls, commits and growing: the holds are as they were, and their pages read as they did
pub record KeepsHolds (old new : Store) : Type 0 where
  pub goes_on : GoesOn old.disk new.disk
  pub no_fewer : length old.marks ≤ length new.marks
  pub holds : SameHolds old.holds new.holds
  pub held : IsTrue old.disk.honest → (place : HoldPlace) (p : ℕ) → IsHeldBy place old p → reads new p ≡ reads old p
