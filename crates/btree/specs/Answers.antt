-- What is answered, in the words of the map.
use Rattle.std.specs.Prelude.{◌≡◌, ℕ, Bool, true, false, List, Option, Some, None}
use Rattle.std.specs.Option.{option_map}
use Rattle.arrayvec.specs.ArrayVec.{ArrayVec}
use Rattle.btree.specs.Page.{Item}
use Rattle.btree.specs.Entries.{find_entry}
use Rattle.btree.specs.declared.find.entry.Entry.{Entry}

-- the bytes that were found, if any
abbrev pub found_bytes : Option (ArrayVec ℕ) → Option (List ℕ)
found_bytes found = option_map (λ v. v.items) found

-- the bytes that a buffer was filled with, if any were found
abbrev pub filled_bytes : Bool → ArrayVec ℕ → Option (List ℕ)
filled_bytes true into = Some into.items
filled_bytes false into = None

-- the entry that a buffer was filled with, if one was found
abbrev pub filled_entry : Bool → Entry → Option Item
filled_entry true into = Some (into.key.items, into.value.items)
filled_entry false into = None

-- the entry that was found, if any
abbrev pub found_entry : Option Entry → Option Item
found_entry found = option_map (λ e. (e.key.items, e.value.items)) found

-- a put of new keys alone: something is answered where the entries did not have the key, and none where they had it
abbrev pub TellsNew : {X : Type 0} → List Item → List ℕ → Option X → Type 0
TellsNew es key (Some new) = find_entry es key ≡ None
TellsNew es key None = (value : List ℕ) × (find_entry es key ≡ Some value)
