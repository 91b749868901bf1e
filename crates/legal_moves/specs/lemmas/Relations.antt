-- Relations of numbers as rows of marks.
use Rattle.std.specs.Prelude.{ℕ, Bool, List, [], option_map, unwrap_or, slice_get}
use Rattle.legal_moves.specs.lemmas.Marks.{IsMarkSet}
use Rattle.legal_moves.specs.declared.automaton.relation.Relation.{Relation}

-- the marks of the numbers that are related to this one
abbrev pub row_of : Relation → ℕ → List Bool
row_of r i = unwrap_or (option_map (λ row. row.items) (slice_get r.rows.items i)) []

-- the two numbers are related
abbrev pub IsRelated : Relation → ℕ → ℕ → Type 0
IsRelated r i j = IsMarkSet (row_of r i) j
