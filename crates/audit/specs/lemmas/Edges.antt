-- Edges that are moves, and how many lead to a number.
use Rattle.std.specs.Prelude.{◌≡◌, ◌⊎◌, ℕ, zero, suc, ◌^◌, ◌<◌, true, List, Some, slice_get}
use Rattle.retrograde.specs.Graph.{Graph}
use Rattle.retrograde.specs.View.{HasNumber}
use Rattle.retrograde.specs.Stored.{Stored, view_of, expanded_count}

-- p is the number of an expanded position from which a move leads to x
abbrev pub LeadsFrom : {P : Type 0} → Graph P → Stored P → P → ℕ → Type 0
LeadsFrom {P} graph stored x p = (z : P) × HasNumber (view_of stored) p z × (p < expanded_count stored) × graph.Successor z x

-- there is an edge to i, which is the number of x, from p, and it is a move
abbrev pub IsMoveEdge : {P : Type 0} → Graph P → Stored P → ℕ → P → ℕ → Type 0
IsMoveEdge graph stored i x p = (stored.has_edge i p ≡ true) × LeadsFrom graph stored x p

-- from this many of the numbers below p there is an edge to i that is a move
abbrev pub IsArriving : {P : Type 0} → Graph P → Stored P → ℕ → P → ℕ → ℕ → Type 0
IsArriving graph stored i x zero n = n ≡ 0
IsArriving graph stored i x (suc p) n =
    ((m : ℕ) × IsMoveEdge graph stored i x p × IsArriving graph stored i x p m × (n ≡ suc m))
    ⊎ ((IsMoveEdge graph stored i x p → ⊥) × IsArriving graph stored i x p n)

-- each number has its count
abbrev pub AreArrivals : {P : Type 0} → Graph P → Stored P → ℕ → List ℕ → Type 0
AreArrivals {P} graph stored p arrivals =
    (i : ℕ) (x : P) → HasNumber (view_of stored) i x → (n : ℕ) × (slice_get arrivals i ≡ Some n) × IsArriving graph stored i x p n

-- the count at i is one more where this is so, unless it is the greatest of its type, and the same where it is not
abbrev pub CountsIf : Type 0 → List ℕ → List ℕ → ℕ → Type 0
CountsIf Is old new i =
    (Is × ((n : ℕ) → suc n < 2 ^ 32 → slice_get old i ≡ Some n → slice_get new i ≡ Some (suc n)))
    ⊎ ((Is → ⊥) × (slice_get new i ≡ slice_get old i))
