-- What a reader of a tree is at.
use Rattle.std.proofs.Common.{◌≡◌, ℕ, Bool, true, false, List, Option, None, Some, IsTrue, sym, ◌∙◌, ap}
use Rattle.page_store.specs.Store.{Store}
use Rattle.retrograde.specs.declared.records.Record.{Record}
use Rattle.game_file.specs.Bytes.{IsCell}
use Rattle.btree.specs.declared.find.reader.Reader.{Reader}
use Rattle.btree.specs.Entries.{find_entry}
use Rattle.btree.specs.Page.{Item}
use Rattle.btree.specs.Readers.{found_here}
use Rattle.tree_table.specs.declared.slot.TreeSlot.{TreeSlot}
use Rattle.tree_table.specs.declared.tree.Tree.{Tree}
use Rattle.tree_table.specs.declared.tree.Tree.TheVariants.{Records}
use Rattle.tree_table.specs.Entries.{number_key}
use Rattle.tree_table.specs.WorkTable.{HasForest, forest_there}
use Rattle.tree_file.specs.lemmas.EntryReads.{TellsOfEntries}
use Rattle.tree_file.specs.lemmas.Right.{IsCellAt}

-- the tree has this value at the key
pub there : (reader : Reader) (found : Bool) (value : List ℕ) (answer : Option (List ℕ)) → found ≡ true
    → found_here true reader ≡ Some value → found_here found reader ≡ answer
    → answer ≡ Some value
there reader found value answer is_found here is = sym is ∙ ap (λ (b : Bool). found_here b reader) is_found ∙ here

-- it has none
pub absent : (reader : Reader) (found : Bool) (value : List ℕ) (answer : Option (List ℕ)) → found ≡ false → found_here found reader ≡ answer
    → answer ≡ Some value → ⊥
absent reader found value answer is_none is some =
    let none : None ≡ Some value = sym (ap (λ (b : Bool). found_here b reader) is_none) ∙ is ∙ some in cc

-- the records have this position and this record at the key of a number
pub cell_there : (slot : TreeSlot) (store : Store) (reader : Reader) (found : Bool) (value position : List ℕ) (kept : Record) (number : ℕ)
    (key : List ℕ) → key ≡ number_key number
    → found ≡ true → found_here true reader ≡ Some value → IsCell slot.sizes.packed value (position, kept)
    → (IsTrue store.disk.honest → (text : List ℕ) (entries : Tree → List Item) → HasForest slot text entries store
    → found_here found reader ≡ find_entry (entries Records) key)
    → TellsOfEntries slot store (λ entries. IsCellAt slot.sizes.packed (entries Records) number (position, kept))
cell_there slot store reader found value position kept number key is is_found here cell tells = λ honest text entries h. record {
  value = value;
  found = there reader found value (find_entry (entries Records) (number_key number)) is_found here
      (tells honest text entries (forest_there slot text entries store h) ∙ ap (find_entry (entries Records)) is);
  is = cell;
}
