-- Words of a command line that are no options.
use Rattle.std.specs.Prelude.{◌≢◌, ℕ, List, [], ◌∷◌}

-- the word does not begin with `-`
abbrev pub IsNoOption : List ℕ → Type 0
IsNoOption [] = Unit {0}
IsNoOption (byte ∷ bytes) = byte ≢ 45
