-- The lines of moves.
use Rattle.std.specs.Prelude.{◌≡◌, ℕ, List, [], ◌∷◌, ◌++◌, codes}
use Rattle.std.specs.List.{flat_map}
use Rattle.std.specs.Fmt.{decimal}
use Rattle.rbg_game.specs.Games.{Game}
use Rattle.rbg_game.specs.Positions.{IsPositionOf}
use Rattle.rbg_game.specs.declared.position.Position.{Position}
use Rattle.position_pack.specs.Bytes.{bytes_of}
use Rattle.position_pack.specs.Texts.{vertex_name, text_of}
use Rattle.legal_moves.specs.Listed.{ShownMove}

-- `NUMBER@VERTEX` and a space
abbrev pub modifier_text : Game → ℕ × ℕ → List ℕ
modifier_text game m = decimal m.0 ++ 64 ∷ vertex_name game m.1 ++ 32 ∷ []

-- the modifiers, `=>`, and the position
abbrev pub line_of : Game → List (ℕ × ℕ) → Position → List ℕ
line_of game shown next = flat_map (modifier_text game) shown ++ codes "=> " ++ text_of game next ++ 10 ∷ []

-- the line of a move
pub record IsMoveLine (game : Game) (move : ShownMove) (line : List ℕ) : Type 0 where
  pub next : Position
  pub position : IsPositionOf game next
  pub bytes_are : move.next ≡ bytes_of next
  pub written : line ≡ line_of game move.shown next

-- the lines of moves, one after the other
abbrev pub AreLinesOfMoves : Game → List ShownMove → List ℕ → Type 0
AreLinesOfMoves game [] text = text ≡ []
AreLinesOfMoves game (m ∷ ms) text = (line : List ℕ) × (rest : List ℕ) × (text ≡ line ++ rest) × IsMoveLine game m line × AreLinesOfMoves game ms rest
