-- What is so of a number that has a tally.
use Rattle.std.specs.Prelude.{◌≡◌, ◌<◌, ℕ, List, None, length, slice_get}
use Rattle.retrograde.specs.Graph.{Graph}
use Rattle.retrograde.specs.View.{HasNumber}
use Rattle.retrograde.specs.Stored.{Stored, IsTable, view_of, expanded_count, count_below}
use Rattle.audit.specs.lemmas.Conditions.{IsLowest, own_condition, IsFloor, successors_in}

-- no condition fails at i, where nothing is asked of the edges that lead to it; it is not expanded, or is not too
-- wide; and so many moves lead from it, and so many edges to it
pub record IsTallied (graph : Graph (List ℕ)) (IsWide : List ℕ → Type 0) (stored : Stored (List ℕ))
    (i floor from to : ℕ) : Type 0 where
  pub holds : IsTable stored → IsFloor stored i floor → (x : List ℕ) → HasNumber (view_of stored) i x
      → IsLowest (own_condition graph stored i x) None
  pub narrow : (x : List ℕ) → HasNumber (view_of stored) i x → i < expanded_count stored → ¬ IsWide x
  pub moves : from ≡ successors_in (slice_get stored.records i)
  pub edges : to ≡ count_below (length stored.positions) (λ p. stored.has_edge i p)
