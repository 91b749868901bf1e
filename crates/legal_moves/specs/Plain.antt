-- Actions that need no search, with names that the game has.
use Rattle.std.specs.Prelude.{ℕ, ◌<◌, List, length, ⊤}
use Rattle.rbg_game.specs.Expressions.{HasSmallParts, NamesBelow}
use Rattle.rbg_game.specs.Rules.{Action, shift, on, off, assignment, comparison, switch, pattern}

-- no pattern; its expressions are small and name only the given values
abbrev pub IsPlain : List ℕ → Action → Type 0
IsPlain values (shift l) = ⊤
IsPlain values (on xs) = ⊤
IsPlain values (off x) = ⊤
IsPlain values (assignment v r) =
    (v < length values) × NamesBelow (length values) r × HasSmallParts values r
IsPlain values (comparison a op b) =
    (NamesBelow (length values) a × HasSmallParts values a) × (NamesBelow (length values) b × HasSmallParts values b)
IsPlain values (switch r) = ⊤
IsPlain values (pattern positive e) = ⊥
