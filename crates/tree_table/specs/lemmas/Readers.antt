-- What is said of a reader that is kept is a fact, and holds after reads.
use Rattle.std.proofs.Common.{◌≡◌, ℕ, Bool, true, false, List, Option, Some, None, sym, ◌∙◌, ap}
use mathlib.Core.HLevel.{Unit-prop}
use denote.Struct.Props.{props}
use Rattle.page_store.specs.Store.{Store, StoreWorks, IsUnchanged}
use Rattle.btree.specs.declared.find.reader.Reader.{Reader}
use Rattle.btree.specs.Readers.{found_here}
use Rattle.btree.specs.lemmas.Leaves.{reading_prop, reading_stays}
use Rattle.tree_table.specs.declared.slot.TreeSlot.{TreeSlot}
use Rattle.tree_table.specs.declared.tree.Tree.{Tree}
use Rattle.tree_table.specs.Readers.{IsReaderOf, IsNear}
use Rattle.tree_table.specs.Trees.{key_width, value_width, root_of}

number_prop : (m n : ℕ) → IsProp (m ≡ n)
number_prop m n = hlevel props

of_prop : (slot : TreeSlot) (tree : Tree) (reader : Reader) → IsProp (IsReaderOf slot tree reader)
of_prop slot tree reader x y = λ k. record {
  keys = number_prop reader.widths.key (key_width slot.sizes.packed tree) x.keys y.keys k;
  values = number_prop reader.widths.value (value_width slot.sizes.packed tree) x.values y.values k;
  root = number_prop reader.root (root_of slot.roots tree) x.root y.root k;
}

pub near_prop : (slot : TreeSlot) (store : Store) (near : Option Reader) → IsProp (IsNear slot store near)
near_prop slot store None = Unit-prop
near_prop slot store (Some reader) = λ x y k. (of_prop slot _ reader x.0 y.0 k, reading_prop reader store x.1 y.1 k)

pub near_stays : (slot : TreeSlot) (old new : Store) (near : Option Reader) → StoreWorks old new → IsUnchanged old new → IsNear slot old near → IsNear slot new near
near_stays slot old new None works same is = tt
near_stays slot old new (Some reader) works same is = (is.0, reading_stays reader old new works same is.1)

-- a reader that found a key is at its value
pub value_there : (reader : Reader) (found : Bool) (value : List ℕ) (answer : Option (List ℕ)) → found ≡ true → found_here true reader ≡ Some value → found_here found reader ≡ answer
    → Some value ≡ answer
value_there reader found value answer is_found here is = sym here ∙ ap (λ (b : Bool). found_here b reader) (sym is_found) ∙ is

-- and one that did not is at none
pub value_absent : (reader : Reader) (found : Bool) (answer : Option (List ℕ)) → found ≡ false → found_here found reader ≡ answer → None ≡ answer
value_absent reader found answer is_none is = ap (λ (b : Bool). found_here b reader) (sym is_none) ∙ is
