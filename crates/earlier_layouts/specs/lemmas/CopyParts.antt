-- How far a table is copied, and what is left of the one that is written.
use Rattle.std.specs.Prelude.{◌↔◌, ℕ, nat_lt, ◌&&◌, false, List, [], take}
use Rattle.retrograde.specs.Stored.{Stored}

-- a table that is written goes on, and is as honest as it was
pub record HasGoneOn {T : Type 0} (IsHonest : T → Type 0) (GoesOn : T → T → Type 0) (old new : T) : Type 0 where
  pub honest : IsHonest old ↔ IsHonest new
  pub ahead : GoesOn old new

-- the positions below this number with their records, and nothing else
abbrev pub with_positions : ℕ → Stored (List ℕ) → Stored (List ℕ)
with_positions n source = record {
  positions = take n source.positions;
  records = take n source.records;
  has_edge = λ i p. false;
  order = [];
}

-- all positions with their records, and the edges to the numbers below this one
abbrev pub with_edges : ℕ → Stored (List ℕ) → Stored (List ℕ)
with_edges n source = record source { has_edge = λ i p. nat_lt i n && source.has_edge i p; order = [] }

-- all but the settled order, and of that the places below this one
abbrev pub with_order : ℕ → Stored (List ℕ) → Stored (List ℕ)
with_order n source = record source { order = take n source.order }
