-- The commas of a list whose items are written one by one.
use Rattle.std.specs.Prelude.{ℕ, zero, suc, List, [], ◌∷◌}

-- a comma before each item but the first
abbrev pub comma_before : ℕ → List ℕ
comma_before zero = []
comma_before (suc k) = 44 ∷ []
