-- The ranks of a list of positions.
use Rattle.std.specs.Prelude.{ℕ, List, map, Contains}
use Rattle.certificate.specs.Format.{Line}
use Rattle.certificate.specs.declared.ranked.Ranked.{Ranked}

-- the position with these bytes stands in the list with this rank
abbrev pub Has : List Line → List ℕ → ℕ → Type 0
Has list x n = Contains list (record { at = x; rank = n })

-- what was read of a line
abbrev pub line_of : Ranked → Line
line_of r = record { at = r.at.items; rank = r.rank }

abbrev pub lines_in : List Ranked → List Line
lines_in = map line_of

-- a list that was read has this line, by its number
abbrev pub HasRankedLine : List Ranked → List ℕ → ℕ → Type 0
HasRankedLine list = Has (lines_in list)
