-- What a page is to a key.
use Rattle.std.specs.Prelude.{◌≡◌, ℕ, ◌-◌, List, Some, slice_get}
use Rattle.btree.specs.declared.page.kind.Kind.TheVariants.{Leaf, Inner}
use Rattle.btree.specs.declared.page.widths.Widths.{Widths}
use Rattle.btree.specs.Page.{Item, IsPage, items_in, child_of}
use Rattle.btree.specs.Place.{IsPlace}
use Rattle.btree.specs.Entries.{Ascend}
use Rattle.btree.specs.declared.put.in_place.Spot.{Spot}
use Rattle.btree.specs.declared.put.in_place.Spot.TheVariants.{Leaf as LeafSpot, Below}

-- an inner page with these bytes leads to this child, where the key belongs
pub record LeadsTo (w : Widths) (bytes key : List ℕ) (child : ℕ) : Type 0 where
  pub place : ℕ
  pub item : Item
  pub fits : Ascend (items_in w Inner bytes) → IsPlace (items_in w Inner bytes) key place
  pub got : slice_get (items_in w Inner bytes) (place - 1) ≡ Some item
  pub leads : child ≡ child_of item

-- these bytes are a leaf, or an inner page that leads on
abbrev pub IsSpot : Widths → List ℕ → List ℕ → Spot → Type 0
IsSpot w bytes key LeafSpot = IsPage w Leaf bytes
IsSpot w bytes key (Below child) = IsPage w Inner bytes × LeadsTo w bytes key child
