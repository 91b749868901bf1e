-- The lines of the moves of a known position.
use Rattle.std.specs.Prelude.{ℕ, List, [], ◌∷◌, ◌++◌, codes, Option, None, Some}
use Rattle.std.specs.List.{flat_map}
use Rattle.std.specs.Fmt.{decimal}
use Rattle.rbg_game.specs.Games.{Game}
use Rattle.best_line.specs.Moves.{modifiers_of}
use Rattle.best_line.specs.declared.known.KnownMove.{KnownMove}
use Rattle.session_lines.specs.Lines.{modifier_text}
use Rattle.session_lines.specs.Replies.{value_text}

-- the number of a position, or `?` where it is not known
abbrev pub number_text : Option ℕ → List ℕ
number_text None = 63 ∷ []
number_text (Some number) = decimal number

-- the number and the value of the position that is led to, the modifiers of the word, `=>`, and the text of that position
abbrev pub known_line : Game → KnownMove → List ℕ
known_line game move =
    number_text move.number ++ (32 ∷ (value_text game move.value ++ (32 ∷ (flat_map (modifier_text game) (modifiers_of move)
    ++ (codes "=> " ++ (move.text.items ++ 10 ∷ []))))))

-- a line for each move, or `ended` where there is none
abbrev pub known_lines : Game → List KnownMove → List ℕ
known_lines game [] = codes "ended" ++ 10 ∷ []
known_lines game (move ∷ moves) = flat_map (known_line game) (move ∷ moves)
