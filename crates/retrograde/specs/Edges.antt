-- The predecessors of a position, one after the other.
use Rattle.std.specs.Prelude.{◌≡◌, ℕ, ◌<◌, ◌≤◌, true, Option, Some, None}
use Rattle.retrograde.specs.Stored.{Stored}

-- p comes after the number that was given, if one was
abbrev pub IsAfter : Option ℕ → ℕ → Type 0
IsAfter None p = Unit {0}
IsAfter (Some q) p = q < p

-- the least predecessor of i after the one given
pub record IsNextEdge {P : Type 0} (stored : Stored P) (i : ℕ) (after : Option ℕ) (p : ℕ) : Type 0 where
  pub edge : stored.has_edge i p ≡ true
  pub later : IsAfter after p
  pub least : (q : ℕ) → stored.has_edge i q ≡ true → IsAfter after q → p ≤ q

-- i has no predecessor after the one given
abbrev pub HasNoMoreEdges : {P : Type 0} → Stored P → ℕ → Option ℕ → Type 0
HasNoMoreEdges stored i after = (q : ℕ) → stored.has_edge i q ≡ true → IsAfter after q → ⊥
