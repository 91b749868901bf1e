-- What a page says of the entries after a key, and where the way to the next entry ends.
use Rattle.std.specs.Prelude.{◌≡◌, ℕ, false, Bool, List, Option, None, Some}
use Rattle.page_store.specs.Store.{Store}
use Rattle.btree.specs.declared.page.kind.Kind.TheVariants.{Leaf, Inner}
use Rattle.btree.specs.declared.page.widths.Widths.{Widths}
use Rattle.btree.specs.Page.{Item, items_in, IsPage}
use Rattle.btree.specs.Entries.{Ascend, next_after}
use Rattle.btree.specs.Answers.{filled_bytes, filled_entry}
use Rattle.btree.specs.lemmas.Steps.{IsStepDown, ReachesLeaf}
use Rattle.btree.specs.declared.find.ahead.Ahead.{Ahead}
use Rattle.btree.specs.declared.find.entry.Entry.{Entry}
use Rattle.btree.specs.declared.find.ahead.Ahead.TheVariants.{Next, Before, Last}

-- a leaf says which of its entries comes next, with which the buffer is filled, and an inner page where the key belongs and whether a key is
-- after it, with which the buffer is filled
abbrev pub SeesAhead : Widths → List ℕ → List ℕ → Entry → Ahead → Type 0
SeesAhead w bytes key into (Next found) = IsPage w Leaf bytes
    × (Ascend (items_in w Leaf bytes) → filled_entry found into ≡ next_after (items_in w Leaf bytes) key)
SeesAhead w bytes key into (Before child) = IsPage w Inner bytes × IsStepDown w bytes key child (Some into.key.items)
SeesAhead w bytes key into (Last child) = IsPage w Inner bytes × IsStepDown w bytes key child None

-- what is not found leaves the buffer as it was
abbrev pub LeavesAs : Entry → Entry → Ahead → Type 0
LeavesAs old new (Next found) = found ≡ false → new ≡ old
LeavesAs old new (Before child) = Unit
LeavesAs old new (Last child) = new ≡ old

-- a leaf where the key belongs was reached, which has this as the next entry
pub record ReachesNext (w : Widths) (store : Store) (root : ℕ) (key : List ℕ) (entry : Option Item) (next : Option (List ℕ)) : Type 0 where
  pub leaf : List ℕ
  pub reaches : ReachesLeaf w store root key leaf next
  pub is : Ascend (items_in w Leaf leaf) → entry ≡ next_after (items_in w Leaf leaf) key

-- a leaf was reached so: the buffer is filled with its next entry, or else with the first key of the entries after it, if there are any
pub record ReachesAhead (w : Widths) (store : Store) (root : ℕ) (key : List ℕ) (found more : Bool) (into : Entry) : Type 0 where
  pub next : Option (List ℕ)
  pub reaches : ReachesNext w store root key (filled_entry found into) next
  pub behind : found ≡ false → filled_bytes more into.key ≡ next
