-- What a walk through the four trees of a table does to a store, and why they are not walked.
use Rattle.std.specs.Prelude.{◌≡◌, ◌≢◌, ℕ, true, List, length, Contains, IsTrue}
use Rattle.sector_disk.specs.Disk.{Grew}
use Rattle.page_store.specs.declared.fault.PageFault.{PageFault}
use Rattle.page_store.specs.declared.fault.PageFault.TheVariants.{Disk, Damaged, Closed}
use Rattle.page_store.specs.declared.marks.Mark.TheVariants.{Committed}
use Rattle.page_store.specs.Marks.{mark}
use Rattle.page_store.specs.Store.{Store, reads}
use Rattle.btree.specs.Page.{Item}
use Rattle.page_store.specs.Pages.{AreWaiting}
use Rattle.tree_table.specs.declared.slot.TreeSlot.{TreeSlot}
use Rattle.tree_table.specs.declared.tree.Tree.{Tree}
use Rattle.tree_table.specs.Forest.{AreApart, IsTreeOf}
use Rattle.tree_table.specs.Trees.{root_of}
use Rattle.tree_file.specs.Counted.{AreAsMany}

-- the slot names four trees with these entries, as many as it tells, on these pages, all of which wait to be marked, and no page is
-- in two of them
pub record CanBeWalked (slot : TreeSlot) (pages : Tree → List ℕ) (entries : Tree → List Item) (store : Store) : Type 0 where
  pub trees : (t : Tree) → IsTreeOf slot.sizes.packed t (length store.marks) (root_of slot.roots t) (pages t) (entries t) (reads store)
  pub apart : (t u : Tree) → t ≢ u → AreApart (pages t) (pages u)
  pub many : AreAsMany slot.sizes entries
  pub waiting : (t : Tree) → AreWaiting (pages t) store

-- they were there, their pages are marked now, and no others
pub record AreWalked (slot : TreeSlot) (pages : Tree → List ℕ) (entries : Tree → List Item) (old new : Store) : Type 0 where
  pub could : CanBeWalked slot pages entries old
  pub marked : (t : Tree) (p : ℕ) → Contains (pages t) p → mark new.marks p ≡ Committed
  pub kept : (p : ℕ) → ((t : Tree) → ¬ Contains (pages t) p) → mark new.marks p ≡ mark old.marks p

-- they are not walked: the disk failed; no such trees are there, as far as the disk is honest; or the store is closed
abbrev pub ForestCause : TreeSlot → Store → Store → PageFault → Type 0
ForestCause slot old new Disk = Grew old.failures new.failures
ForestCause slot old new Damaged =
    IsTrue old.disk.honest → (pages : Tree → List ℕ) (entries : Tree → List Item) → ¬ CanBeWalked slot pages entries old
ForestCause slot old new Closed = old.closed ≡ true
ForestCause slot old new _ = ⊥
