-- Readers of the trees of a table.
use Rattle.std.specs.Prelude.{◌≡◌, Option, None, Some}
use Rattle.page_store.specs.Store.{Store}
use Rattle.btree.specs.declared.find.reader.Reader.{Reader}
use Rattle.btree.specs.Readers.{IsReading}
use Rattle.tree_table.specs.declared.slot.TreeSlot.{TreeSlot}
use Rattle.tree_table.specs.declared.tree.Tree.{Tree}
use Rattle.tree_table.specs.declared.tree.Tree.TheVariants.{Records}
use Rattle.tree_table.specs.Trees.{key_width, value_width, root_of}

-- it reads this tree of those that the slot names
pub record IsReaderOf (slot : TreeSlot) (tree : Tree) (reader : Reader) : Type 0 where
  pub keys : reader.widths.key ≡ key_width slot.sizes.packed tree
  pub values : reader.widths.value ≡ value_width slot.sizes.packed tree
  pub root : reader.root ≡ root_of slot.roots tree

-- a reader that is kept, if one is, reads the records that the slot names in this store
abbrev pub IsNear : TreeSlot → Store → Option Reader → Type 0
IsNear slot store None = Unit {0}
IsNear slot store (Some reader) = IsReaderOf slot Records reader × IsReading reader store
