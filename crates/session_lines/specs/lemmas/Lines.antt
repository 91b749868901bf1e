-- What the steps tell that write the lines of moves.
use Rattle.std.specs.Prelude.{◌≡◌, ℕ, List, [], ◌∷◌, ◌++◌, ◌⊎◌, ◌≢◌, codes}
use Rattle.rbg_game.specs.Games.{Game}
use Rattle.rbg_game.specs.Positions.{IsPositionOf}
use Rattle.rbg_game.specs.declared.position.Position.{Position}
use Rattle.position_pack.specs.Bytes.{bytes_of}
use Rattle.legal_moves.specs.Listed.{ShownMove}
use Rattle.session_lines.specs.Lines.{AreLinesOfMoves}

-- the bytes are those of a position of the game
abbrev pub HasPosition : Game → ShownMove → Type 0
HasPosition game move = (next : Position) × IsPositionOf game next × (move.next ≡ bytes_of next)

-- the lines of the moves, or `ended` where there is none
abbrev pub SaysMoves : Game → List ShownMove → List ℕ → Type 0
SaysMoves game moves text = ((moves ≡ []) × (text ≡ codes "ended" ++ 10 ∷ [])) ⊎ ((moves ≢ []) × AreLinesOfMoves game moves text)
