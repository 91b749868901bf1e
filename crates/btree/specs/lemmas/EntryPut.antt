-- An entry is put on a leaf, after its first one.
use Rattle.std.specs.Prelude.{◌≡◌, ◌+◌, ◌-◌, ◌*◌, ◌≤◌, ◌++◌, ◌∷◌, Bool, List, ℕ, None, Some, IsTrue, take, drop}
use Rattle.btree.specs.declared.page.kind.Kind.TheVariants.{Leaf}
use Rattle.btree.specs.declared.page.widths.Widths.{Widths}
use Rattle.btree.specs.declared.page.kind.TheConstants.{ROOM}
use Rattle.btree.specs.Page.{count_in, item_width, items_in, IsPage}
use Rattle.btree.specs.Entries.{Ascend, find_entry, first_key, put_entry}

-- an entry with this key belongs in the place of those of the leaf from one place up to another, and has room there; where only new keys
-- are put, the leaf does not have this one
pub record IsEntryPlace (w : Widths) (key : List ℕ) (only_new : Bool) (from to : ℕ) (was : List ℕ) : Type 0 where
  pub leaf : IsPage w Leaf was
  pub some : 1 ≤ from
  pub order : from ≤ to
  pub within : to ≤ count_in was
  pub room : (from + 1 + (count_in was - to)) * item_width w Leaf ≤ ROOM
  pub put : Ascend (items_in w Leaf was) → (value : List ℕ)
      → take from (items_in w Leaf was) ++ (key, value) ∷ drop to (items_in w Leaf was) ≡ put_entry (items_in w Leaf was) key value
  pub new_key : IsTrue only_new → Ascend (items_in w Leaf was) → None ≡ find_entry (items_in w Leaf was) key

-- a leaf became another: with this value at this key, and the first key that it had; where only new keys are put, it did not have this one
pub record IsEntryPut (w : Widths) (key value : List ℕ) (only_new : Bool) (was is : List ℕ) : Type 0 where
  pub leaf : IsPage w Leaf was
  pub page : IsPage w Leaf is
  pub items : Ascend (items_in w Leaf was) → items_in w Leaf is ≡ put_entry (items_in w Leaf was) key value
  pub first : Ascend (items_in w Leaf was) → (k : List ℕ) → first_key (items_in w Leaf was) ≡ Some k → first_key (items_in w Leaf is) ≡ Some k
  pub new_key : IsTrue only_new → Ascend (items_in w Leaf was) → None ≡ find_entry (items_in w Leaf was) key
