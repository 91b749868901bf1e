-- One of the four trees is walked.
use Rattle.std.specs.Prelude.{◌≡◌, ℕ, true, List, length, All, IsTrue}
use Rattle.sector_disk.specs.Disk.{Grew}
use Rattle.page_store.specs.declared.fault.PageFault.{PageFault}
use Rattle.page_store.specs.declared.fault.PageFault.TheVariants.{Disk, Damaged, Closed}
use Rattle.page_store.specs.Store.{Store, reads}
use Rattle.game_file.specs.declared.sizes.Sizes.{Sizes}
use Rattle.btree.specs.Page.{Item}
use Rattle.btree.specs.declared.walk.fault.WalkFault.{WalkFault}
use Rattle.btree.specs.declared.walk.fault.WalkFault.TheVariants.{Store as OfStore, Refused}
use Rattle.btree.specs.Walks.{MarksPages}
use Rattle.page_store.specs.Pages.{AreWaiting}
use Rattle.tree_table.specs.declared.slot.TreeSlot.{TreeSlot}
use Rattle.tree_table.specs.declared.tree.Tree.{Tree}
use Rattle.tree_table.specs.declared.tree.Tree.TheVariants.{Positions, Records, Edges, Order}
use Rattle.tree_table.specs.Forest.{IsTreeOf}
use Rattle.tree_table.specs.Trees.{root_of}
use Rattle.tree_file.specs.Counted.{IsEdgeBelow}

-- this many entries
abbrev pub CountIs : ℕ → List Item → Type 0
CountIs wanted es = length es ≡ wanted

-- this many edges, each between numbers below this one
abbrev pub EdgesAre : ℕ → ℕ → List Item → Type 0
EdgesAre wanted known es = (length es ≡ wanted) × All (IsEdgeBelow known) es

-- of this tree as much as these sizes tell
abbrev pub IsAsMany : Sizes → Tree → List Item → Type 0
IsAsMany sizes Positions es = CountIs sizes.counts.known es
IsAsMany sizes Records es = CountIs sizes.counts.known es
IsAsMany sizes Edges es = EdgesAre sizes.edges sizes.counts.known es
IsAsMany sizes Order es = CountIs sizes.counts.settled es

-- in this store, below its root, on these pages, is this tree with these entries
abbrev pub HoldsTree : TreeSlot → Tree → Store → List ℕ → List Item → Type 0
HoldsTree slot tree store pages es =
    IsTreeOf slot.sizes.packed tree (length store.marks) (root_of slot.roots tree) pages es (reads store)

-- the tree is walked, and its entries are such
pub record IsWalkedTree (slot : TreeSlot) (tree : Tree) (Such : List Item → Type 0) (pages : List ℕ) (es : List Item)
    (old new : Store) : Type 0 where
  pub holds : HoldsTree slot tree old pages es
  pub marked : MarksPages pages old new
  pub such : Such es

-- it is not walked: the disk failed; no such tree is there on pages that wait, as far as the disk is honest; or the store is closed
abbrev pub TreeCause : TreeSlot → Tree → (List Item → Type 0) → Store → Store → PageFault → Type 0
TreeCause slot tree Such old new Disk = Grew old.failures new.failures
TreeCause slot tree Such old new Damaged = IsTrue old.disk.honest → (pages : List ℕ) (es : List Item)
    → HoldsTree slot tree old pages es → AreWaiting pages old → ¬ Such es
TreeCause slot tree Such old new Closed = old.closed ≡ true
TreeCause slot tree Such old new _ = ⊥

-- why a tree is not walked: an entry that was refused stands in no tree of a table
abbrev pub fault_of : WalkFault → PageFault
fault_of (OfStore fault) = fault
fault_of Refused = Damaged
