-- What a call on the trees of a table leaves, and what it answers.
use Rattle.std.specs.Prelude.{◌≡◌, ℕ, ◌+◌, ◌<◌, ◌≤◌, List, Option, Some, length, slice_get, IsTrue}
use Rattle.page_store.specs.Marks.{free_count}
use Rattle.page_store.specs.Store.{Store, StoreWorks}
use Rattle.retrograde.specs.Edges.{IsAfter}
use Rattle.retrograde.specs.Stored.{Stored, HasRecord}
use Rattle.btree.specs.Page.{Item}
use Rattle.btree.specs.Readers.{IsReading}
use Rattle.btree.specs.declared.find.reader.Reader.{Reader}
use Rattle.table.specs.declared.limits.TheConstants.{PAGES_PER_ENTRY}
use Rattle.tree_table.specs.declared.bytes.Cell.{Cell}
use Rattle.tree_table.specs.declared.last.Seen.{Seen}
use Rattle.tree_table.specs.declared.slot.TreeSlot.{TreeSlot}
use Rattle.tree_table.specs.declared.tree.Tree.{Tree}
use Rattle.tree_table.specs.Last.{HasSeen, IsSeenIn}
use Rattle.tree_table.specs.Readers.{IsReaderOf}
use Rattle.tree_table.specs.Trees.{root_of, with_root}
use Rattle.tree_table.specs.WorkTable.{HasTable, HoldsForest, HoldsTable, with_entry}
use Rattle.tree_table.specs.lemmas.Slots.{IsSameButRoots, IsSameFrame}
use Rattle.std.specs.Option.{IfSome}

-- what one leaves that writes and is answered: nothing is committed, the store is as open as it was, and so many pages at most were taken
pub record TreesWritten (most : ℕ) (old new : Store) : Type 0 where
  pub works : StoreWorks old new
  pub still : new.closed ≡ old.closed
  pub takes : free_count old.marks ≤ free_count new.marks + most

-- a slot with this value at this key of one of its trees, whose first entry takes one page
pub record IsPutIn (before : TreeSlot) (tree : Tree) (key value : List ℕ) (old new : Store) (next : TreeSlot) : Type 0 where
  pub slot : IsSameButRoots before next
  pub roots : next.roots ≡ with_root before.roots tree (root_of next.roots tree)
  pub map : IsTrue old.disk.honest → (text : List ℕ) (entries : Tree → List Item) → HoldsForest before text entries old
      → HoldsForest next text (with_entry entries tree key value) new
  pub first : root_of before.roots tree ≡ 0 → free_count new.marks + 1 ≡ free_count old.marks
  pub written : TreesWritten PAGES_PER_ENTRY old new

-- a slot whose pages hold the table so changed, where the one before was so; it knows this many positions
pub record IsChanged (most count : ℕ) (Was : Stored (List ℕ) → Type 0) (change : Stored (List ℕ) → Stored (List ℕ)) (before : TreeSlot)
    (old new : Store) (next : TreeSlot) : Type 0 where
  pub slot : IsSameFrame before next
  pub known : next.sizes.counts.known ≡ count
  pub table : IsTrue old.disk.honest → (text : List ℕ) (table : Stored (List ℕ)) → HoldsTable before text table old → Was table
      → HoldsTable next text (change table) new
  pub written : TreesWritten most old new

-- the table has this cell at this number
pub record HasCell (number : ℕ) (cell : Cell) (table : Stored (List ℕ)) : Type 0 where
  pub position : slice_get table.positions number ≡ Some cell.position.items
  pub kept : HasRecord table number cell.kept

-- the cell of this number: it has the position and the record that each table there has at the number, and a position of the length of all
pub record IsCellRead (slot : TreeSlot) (store : Store) (number : ℕ) (cell : Cell) : Type 0 where
  pub position : IsTrue store.disk.honest → (text : List ℕ) (table : Stored (List ℕ)) → HasTable slot text table store
      → slice_get table.positions number ≡ Some cell.position.items
  pub kept : IsTrue store.disk.honest → (text : List ℕ) (table : Stored (List ℕ)) → HasTable slot text table store
      → HasRecord table number cell.kept
  pub long : length cell.position.items ≡ slot.sizes.packed

-- the cell that was seen last is the one of this number
pub record IsCellSeen (slot : TreeSlot) (store : Store) (at : ℕ) (seen : Option Seen) : Type 0 where
  pub number : HasSeen seen at
  pub cell : IsTrue store.disk.honest → (text : List ℕ) (table : Stored (List ℕ)) → HasTable slot text table store → IfSome seen (IsSeenIn table)
  pub long : IfSome seen (λ s. length s.cell.position.items ≡ slot.sizes.packed)

-- after a search a reader reads what it read, and what it has in memory is found there
pub record KeepsReading (old new : Reader) (store : Store) : Type 0 where
  pub of : (slot : TreeSlot) (tree : Tree) → IsReaderOf slot tree old → IsReaderOf slot tree new
  pub reading : IsReading new store

-- a known number after the one given, if one was
pub record IsKnownAfter (known : ℕ) (after : Option ℕ) (number : ℕ) : Type 0 where
  pub within : number < known
  pub later : IsAfter after number
