-- What stands on a leaf that was reached.
use Rattle.std.specs.Prelude.{◌≡◌, ℕ, ◌<◌, List, Some, slice_get, IsTrue}
use Rattle.page_store.specs.Store.{Store}
use Rattle.btree.specs.declared.page.kind.Kind.TheVariants.{Leaf}
use Rattle.btree.specs.declared.page.widths.Widths.{Widths}
use Rattle.btree.specs.Page.{Item, items_in, count_in, IsPage}
use Rattle.btree.specs.Changes.{HoldsMap}
use Rattle.btree.specs.Entries.{find_entry}

-- the leaf has this key at this place
pub record HasKey (w : Widths) (leaf : List ℕ) (place : ℕ) (key : List ℕ) : Type 0 where
  pub value : List ℕ
  pub within : place < count_in leaf
  pub got : slice_get (items_in w Leaf leaf) place ≡ Some (key, value)

-- each of these entries is found among those
abbrev pub AreFoundIn : List Item → List Item → Type 0
AreFoundIn here es = (k : ℕ) (item : Item) → slice_get here k ≡ Some item → find_entry es item.0 ≡ Some item.1

-- as far as the disk is honest, what stands on bytes that are a leaf is found in the map below this root
abbrev pub IsFoundBelow : Widths → Store → ℕ → List ℕ → Type 0
IsFoundBelow w store root leaf = IsTrue store.disk.honest → IsPage w Leaf leaf → (pages : List ℕ) (es : List Item)
    → HoldsMap w store root pages es → AreFoundIn (items_in w Leaf leaf) es
