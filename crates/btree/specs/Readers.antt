-- What is stated of a reader of a map.
use Rattle.std.specs.Prelude.{◌≡◌, ℕ, ◌<◌, Bool, true, false, List, Option, None, slice_get}
use Rattle.std.specs.Option.{option_map}
use Rattle.page_store.specs.Store.{Store}
use Rattle.btree.specs.declared.page.kind.Kind.TheVariants.{Leaf}
use Rattle.btree.specs.declared.find.reader.Reader.{Reader}
use Rattle.btree.specs.Page.{items_in, count_in, IsPage}
use Rattle.btree.specs.LeafRead.{IsFoundBelow}

-- it reads the same map
pub record SameMap (old new : Reader) : Type 0 where
  pub widths : new.widths ≡ old.widths
  pub root : new.root ≡ old.root

-- what it has in memory is found in its map in this store, as far as the disk is honest
abbrev pub IsReading : Reader → Store → Type 0
IsReading reader store = IsFoundBelow reader.widths store reader.root reader.leaf

-- after a search it reads the same map, and what it has in memory is found there
pub record ReadsOn (old new : Reader) (store : Store) : Type 0 where
  pub map : SameMap old new
  pub reading : IsReading new store

-- it is at an entry
pub record HasEntry (reader : Reader) : Type 0 where
  pub page : IsPage reader.widths Leaf reader.leaf
  pub within : reader.place < count_in reader.leaf

-- the value of its entry, if one was found
abbrev pub found_here : Bool → Reader → Option (List ℕ)
found_here true reader = option_map (λ e. e.1) (slice_get (items_in reader.widths Leaf reader.leaf) reader.place)
found_here false reader = None
