-- The lines of a session's replies.
use Rattle.std.specs.Prelude.{ℕ, ◌-◌, List, [], ◌∷◌, ◌++◌, codes}
use Rattle.std.specs.List.{flat_map}
use Rattle.std.specs.Fmt.{decimal}
use Rattle.rbg_game.specs.Games.{Game}
use Rattle.rbg_game.specs.declared.roles.Role.TheVariants.{Player}
use Rattle.position_pack.specs.Texts.{role_text}
use Rattle.best_line.specs.declared.answers.Value.{Value}
use Rattle.best_line.specs.declared.answers.Value.TheVariants as value
use Rattle.best_line.specs.declared.answers.Row.{Row}

-- `NAME in N` with the winner's name and the number of moves, or `drawn`, or `open`
abbrev pub value_text : Game → Value → List ℕ
value_text game (value.Won player moves) = role_text game (Player player) ++ codes " in " ++ decimal moves
value_text game value.Drawn = codes "drawn"
value_text game value.Open = codes "open"

-- the number of a position and its value, as a line
abbrev pub row_line : Game → Row → List ℕ
row_line game row = decimal row.number ++ 32 ∷ value_text game row.value ++ 10 ∷ []

-- a space and the number
abbrev pub spaced : ℕ → List ℕ
spaced number = 32 ∷ decimal number

-- `line` and the numbers
abbrev pub line_line : List ℕ → List ℕ
line_line numbers = codes "line" ++ flat_map spaced numbers ++ 10 ∷ []

-- how many pages there are, and how many of them are used, and how many free
abbrev pub pages_line : ℕ → ℕ → List ℕ
pages_line pages free =
    codes "pages " ++ (decimal pages ++ (codes " used " ++ (decimal (pages - free) ++ (codes " free " ++ (decimal free ++ 10 ∷ [])))))
