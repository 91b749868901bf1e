-- One step down from an inner page, and the leaf that is reached.
use Rattle.std.specs.Prelude.{◌≡◌, ℕ, suc, ◌-◌, List, Option, Some, slice_get}
use Rattle.std.specs.Option.{option_map}
use Rattle.page_store.specs.Store.{Store}
use Rattle.btree.specs.declared.page.kind.Kind.TheVariants.{Leaf, Inner}
use Rattle.btree.specs.declared.page.widths.Widths.{Widths}
use Rattle.btree.specs.Page.{Item, items_in, child_of}
use Rattle.btree.specs.Place.{IsPlace}
use Rattle.btree.specs.Changes.{HoldsMap}
use Rattle.btree.specs.Entries.{Ascend}
use Rattle.btree.specs.lemmas.Way.{BelongsHere}

-- from an inner page with these bytes to the child where the key belongs; `next` is the key after that child
pub record IsStepDown (w : Widths) (bytes : List ℕ) (key : List ℕ) (page : ℕ) (next : Option (List ℕ)) : Type 0 where
  pub place : ℕ
  pub child : Item
  pub fits : Ascend (items_in w Inner bytes) → IsPlace (items_in w Inner bytes) key place
  pub got : slice_get (items_in w Inner bytes) (place - 1) ≡ Some child
  pub leads : page ≡ child_of child
  pub next_is : next ≡ option_map (λ e. e.0) (slice_get (items_in w Inner bytes) (suc (place - 1)))

-- a leaf with these bytes is where the key belongs, in each map that the store holds below this root
abbrev pub ReachesLeaf : Widths → Store → ℕ → List ℕ → List ℕ → Option (List ℕ) → Type 0
ReachesLeaf w store root key leaf next = (pages : List ℕ) (es : List Item) → HoldsMap w store root pages es
    → BelongsHere es key (items_in w Leaf leaf) next
