-- The entries of a map, in the order of their keys.
use Rattle.std.specs.Prelude.{ℕ, List, Option, None, Some, [], ◌∷◌}
use Rattle.std.specs.BTreeMap.{insert_entry, is_at}
use Rattle.std.specs.List.{find}
use Rattle.std.specs.List.Sorted.{IsStrictlySortedBy}
use Rattle.std.specs.Map.{keys_of, lookup}
use Rattle.std.specs.Ordering.{is_lt}
use Rattle.btree.specs.Page.{Item, key_cmp}

-- the keys ascend strictly
abbrev pub Ascend : List Item → Type 0
Ascend es = IsStrictlySortedBy key_cmp (keys_of es)

-- the value at this key
abbrev pub find_entry : List Item → List ℕ → Option (List ℕ)
find_entry es key = lookup (is_at (key_cmp key)) es

-- the first entry with a greater key
abbrev pub next_after : List Item → List ℕ → Option Item
next_after es key = find (λ e. is_lt (key_cmp key e.0)) es

-- with this value at this key
abbrev pub put_entry : List Item → List ℕ → List ℕ → List Item
put_entry es key value = insert_entry key_cmp es key value

-- the key of the first entry
abbrev pub first_key : List Item → Option (List ℕ)
first_key [] = None
first_key (e ∷ es) = Some e.0
