-- What a table in memory holds.
use Rattle.std.specs.Prelude.{◌≡◌, ℕ, ◌<◌, Bool, true, List, slice_get, Some, map, nat_eq}
use Rattle.std.specs.HashMap.{HashMap, get}
use Rattle.std.specs.BTreeSet.{BTreeSet, contains}
use Rattle.std.specs.Ordering.{nat_cmp, ordering_then}
use Rattle.std.specs.Cmp.Lexicographic.{pointwise}
use Rattle.std.specs.declared.cmp.Ordering.{Ordering}
use Rattle.arrayvec.specs.ArrayVec.{ArrayVec}

-- the bytes of each position
abbrev pub bytes_of_each : List (ArrayVec ℕ) → List (List ℕ)
bytes_of_each positions = map (λ p. p.items) positions

-- whether two positions have the same bytes
abbrev pub position_eq : ArrayVec ℕ → ArrayVec ℕ → Bool
position_eq x y = pointwise nat_eq x.items y.items

-- the order of edges: by the number that is led to, then by the number that leads there
abbrev pub edge_cmp : ℕ × ℕ → ℕ × ℕ → Ordering
edge_cmp x y = ordering_then (nat_cmp x.0 y.0) (nat_cmp x.1 y.1)

-- the map has the number of each position, and nothing else
pub record AreNumbered {S : Type 0} (positions : List (ArrayVec ℕ)) (numbers : HashMap (ArrayVec ℕ) ℕ S) : Type 0 where
  pub all : (i : ℕ) (x : ArrayVec ℕ) → slice_get positions i ≡ Some x → get position_eq numbers x ≡ Some i
  pub only : (x : ArrayVec ℕ) (i : ℕ) → get position_eq numbers x ≡ Some i → slice_get positions i ≡ Some x

-- each edge is between numbers below n
abbrev pub AreBetweenKnown : ℕ → BTreeSet (ℕ × ℕ) → Type 0
AreBetweenKnown n edges = (i p : ℕ) → contains edge_cmp edges (i, p) ≡ true → (i < n) × (p < n)
