-- How far the edges to one number are copied.
use Rattle.std.specs.Prelude.{ℕ, suc, nat_lt, ◌==◌, ◌&&◌, ◌||◌, Option, Some, None, List, []}
use Rattle.retrograde.specs.Stored.{Stored}

-- the least number that a look after this one can give
abbrev pub bound_of : Option ℕ → ℕ
bound_of None = 0
bound_of (Some p) = suc p

-- all positions with their records, and the edges to the numbers below n, and those to n from the numbers below a bound
abbrev pub edges_to : ℕ → ℕ → Stored (List ℕ) → Stored (List ℕ)
edges_to n bound source = record source { has_edge = λ i p. (nat_lt i n || (i == n && nat_lt p bound)) && source.has_edge i p; order = [] }
