-- When each number and each place that four trees have is right.
use Rattle.std.specs.Prelude.{◌≡◌, ℕ, ◌<◌, ◌≤◌, Bool, true, false, cond, nat_lt, List, length, map, slice_index_or, Option, None, Some}
use Rattle.std.specs.Option.{is_some}
use Rattle.retrograde.specs.declared.records.Record.{Record}
use Rattle.retrograde.specs.declared.records.Counts.{Counts}
use Rattle.retrograde.specs.Stored.{FitsState, is_expanded, is_processed, is_settled}
use Rattle.game_file.specs.declared.sizes.Sizes.{Sizes}
use Rattle.game_file.specs.Bytes.{IsCell, IsNumber}
use Rattle.btree.specs.Page.{Item}
use Rattle.btree.specs.Entries.{find_entry}
use Rattle.tree_table.specs.declared.tree.Tree.{Tree}
use Rattle.tree_table.specs.declared.tree.Tree.TheVariants.{Positions, Records, Order}
use Rattle.tree_table.specs.Entries.{number_key}
use Rattle.tree_file.specs.declared.places.Placed.{Placed}
use Rattle.tree_file.specs.declared.places.Placed.TheVariants.{Nowhere, Waiting, Processed}

-- at this key stands this number
pub record IsNumberAt (es : List Item) (key : List ℕ) (n : ℕ) : Type 0 where
  pub value : List ℕ
  pub found : find_entry es key ≡ Some value
  pub is : IsNumber value n

-- at the key of this number stand this position and this record
pub record IsCellAt (packed : ℕ) (es : List Item) (i : ℕ) (cell : List ℕ × Record) : Type 0 where
  pub value : List ℕ
  pub found : find_entry es (number_key i) ≡ Some value
  pub is : IsCell packed value cell

-- whether it is one of this many first places
abbrev pub is_among : ℕ → Option ℕ → Bool
is_among count None = false
is_among count (Some k) = nat_lt k count

-- the record is possible for its state, and its state agrees with this place in the settled order, or with none
pub record FitsPlace (counts : Counts) (i : ℕ) (place : Option ℕ) (r : Record) : Type 0 where
  pub state : FitsState r.state r
  pub expanded : is_expanded r.state ≡ nat_lt i counts.expanded
  pub settled : is_settled r.state ≡ is_some place
  pub processed : is_processed r.state ≡ is_among counts.processed place

-- what the settled order says of a number that has this place there, or none, where this many first places are processed
abbrev pub placed_of : ℕ → Option ℕ → Placed
placed_of processed None = Nowhere
placed_of processed (Some k) = cond (nat_lt k processed) Processed Waiting

-- whether it has a place
abbrev pub has_place : Placed → Bool
has_place Nowhere = false
has_place Waiting = true
has_place Processed = true

-- whether it has one that is processed
abbrev pub has_done : Placed → Bool
has_done Nowhere = false
has_done Waiting = false
has_done Processed = true

-- the record is possible for its state, and its state agrees with what the settled order says of its number
pub record FitsPlaced (counts : Counts) (i : ℕ) (placed : Placed) (r : Record) : Type 0 where
  pub state : FitsState r.state r
  pub expanded : is_expanded r.state ≡ nat_lt i counts.expanded
  pub settled : is_settled r.state ≡ has_place placed
  pub processed : is_processed r.state ≡ has_done placed

-- the number has a position that maps back to it, and a record that fits this place
pub record IsRightAt (sizes : Sizes) (entries : Tree → List Item) (i : ℕ) (place : Option ℕ) : Type 0 where
  pub position : List ℕ
  pub kept : Record
  pub cell : IsCellAt sizes.packed (entries Records) i (position, kept)
  pub back : IsNumberAt (entries Positions) position i
  pub fits : FitsPlace sizes.counts i place kept

-- the number has a position that maps back to it, and a record that fits what the settled order says of it
pub record IsRightPlaced (sizes : Sizes) (entries : Tree → List Item) (i : ℕ) (placed : Placed) : Type 0 where
  pub position : List ℕ
  pub kept : Record
  pub cell : IsCellAt sizes.packed (entries Records) i (position, kept)
  pub back : IsNumberAt (entries Positions) position i
  pub fits : FitsPlaced sizes.counts i placed kept

-- the number stands at this place of the settled order and at no other, or at none
pub record IsPlaceOf (sizes : Sizes) (entries : Tree → List Item) (i : ℕ) (place : Option ℕ) : Type 0 where
  pub there : (k : ℕ) → place ≡ Some k → (k < sizes.counts.settled) × IsNumberAt (entries Order) (number_key k) i
  pub only : (k : ℕ) → k < sizes.counts.settled → IsNumberAt (entries Order) (number_key k) i → place ≡ Some k

-- the number has a place or none, and a position and a record that fit that
pub record IsRightNumber (sizes : Sizes) (entries : Tree → List Item) (i : ℕ) : Type 0 where
  pub place : Option ℕ
  pub is_place : IsPlaceOf sizes entries i place
  pub right : IsRightAt sizes entries i place

-- at each of this many first places of the settled order stands a number that is known
abbrev pub AreKnown : ℕ → Sizes → (Tree → List Item) → Type 0
AreKnown count sizes entries =
    (k : ℕ) → k < count → (n : ℕ) × (n < sizes.counts.known) × IsNumberAt (entries Order) (number_key k) n

-- each place has a known number, and the numbers of this range are right
pub record AreRight (sizes : Sizes) (entries : Tree → List Item) (from to : ℕ) : Type 0 where
  pub places : AreKnown sizes.counts.settled sizes entries
  pub numbers : (i : ℕ) → from ≤ i → i < to → IsRightNumber sizes entries i

-- places by number: at each number stands the one of this many first places that has it, if one has it; and each of these places has a
-- known number
pub record ArePlaces (sizes : Sizes) (entries : Tree → List Item) (count : ℕ) (places : List (Option ℕ)) : Type 0 where
  pub known : AreKnown count sizes entries
  pub each : (k i : ℕ) → k < count → i < length places → IsNumberAt (entries Order) (number_key k) i → slice_index_or places i None ≡ Some k
  pub only : (i k : ℕ) → slice_index_or places i None ≡ Some k → (k < count) × IsNumberAt (entries Order) (number_key k) i

-- what this many first places say of each number
pub record AreMarkedByPlaces (sizes : Sizes) (entries : Tree → List Item) (count : ℕ) (placed : List Placed) : Type 0 where
  pub places : List (Option ℕ)
  pub are : ArePlaces sizes entries count places
  pub says : placed ≡ map (placed_of sizes.counts.processed) places
