-- What those who count entries know of them.
use Rattle.std.specs.Prelude.{◌≡◌, ◌⊎◌, ℕ, ◌+◌, ◌^◌, ◌≤◌, ◌<◌, List, length, All}
use Rattle.btree.specs.Page.{Item}
use Rattle.tree_file.specs.Counted.{IsEdgeBelow}

-- there are more than can be counted
abbrev pub IsPastCount : List Item → Item → Type 0
IsPastCount es item = 2 ^ 64 ≤ length es + 1

-- there are this many edges, and this is the least number that is above all their ends
pub record AreTallied (count above : ℕ) (es : List Item) : Type 0 where
  pub many : length es ≡ count
  pub below : (n : ℕ) → n < 2 ^ 32 → above ≤ n → All (IsEdgeBelow n) es
  pub least : (n : ℕ) → n < 2 ^ 32 → All (IsEdgeBelow n) es → above ≤ n

-- there are more than can be counted, or this is no edge
abbrev pub IsNoEdge : List Item → Item → Type 0
IsNoEdge es item = IsPastCount es item ⊎ ((n : ℕ) → ¬ IsEdgeBelow n item)
