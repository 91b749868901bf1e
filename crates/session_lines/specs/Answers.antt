-- What `moves` answers to a game text, and to the text of a position of the game.
use Rattle.std.specs.Prelude.{◌≡◌, ◌≢◌, ℕ, ⊤, ◌⊎◌, List, [], ◌∷◌, ◌++◌, All, take, codes}
use Rattle.rbg_game.specs.Games.{Game}
use Rattle.rbg_game.specs.declared.position.Position.{Position}
use Rattle.rbg_text.specs.Token.{Text}
use Rattle.rbg_read.specs.Reads.{Reads, Fault}
use Rattle.rbg_read.specs.declared.fault.GameFault.TheVariants as faults
use Rattle.position_pack.specs.Spelled.{IsSpelled}
use Rattle.legal_moves.specs.Moves.{HasNoMove}
use Rattle.legal_moves.specs.Searches.{IsWide}
use Rattle.legal_moves.specs.Listed.{ShownMove, AreMoves, IsShortestMove}
use Rattle.session_lines.specs.Lines.{AreLinesOfMoves}
use Rattle.session_lines.specs.Told.{fault_line}
use Rattle.solver.specs.Faults.{status_of}
use Rattle.solver.specs.declared.fault.SolverFault.{SolverFault}
use Rattle.solver.specs.declared.fault.SolverFault.TheVariants.{OutOfMemory, TooWide, BadPosition, Game as GameRefused}

-- the status and the line of a refusal
abbrev pub TellsRefusal : SolverFault → ℕ → List ℕ → Type 0
TellsRefusal why status text = (status ≡ status_of why) × (text ≡ fault_line why)

-- all moves of a position, each with a shortest word
pub record IsListing (game : Game) (at : Position) (moves : List ShownMove) : Type 0 where
  pub moves_are : AreMoves game at moves
  pub shortest : All (IsShortestMove game at) moves

-- why the moves of a position are not all told, and the lines that were written before
abbrev pub IsUntold : Game → Position → SolverFault → List ℕ → Type 0
IsUntold game at OutOfMemory lines =
    (lines ≡ []) ⊎ ((moves : List ShownMove) × (k : ℕ) × IsListing game at moves × AreLinesOfMoves game (take k moves) lines)
IsUntold game at TooWide lines = (lines ≡ []) × IsWide game at
IsUntold game at _ lines = ⊥

-- the status and what is written of a position: the lines of its moves; `ended` where there is none; or why not all are told
pub data TellsMoves (game : Game) (at : Position) : ℕ → List ℕ → Type 0 where
  listed : (moves : List ShownMove) (lines : List ℕ) → IsListing game at moves → moves ≢ [] → AreLinesOfMoves game moves lines
      → TellsMoves game at 0 lines
  ended : HasNoMove game at → TellsMoves game at 0 (codes "ended" ++ 10 ∷ [])
  untold : (why : SolverFault) (lines : List ℕ) → IsUntold game at why lines → TellsMoves game at (status_of why) (lines ++ fault_line why)

-- the moves of the position that a text spells are told, or that it spells none of the game
pub data TellsMovesAt (game : Game) (position : List ℕ) : ℕ → List ℕ → Type 0 where
  spelled : (at : Position) (status : ℕ) (lines : List ℕ) → IsSpelled game at position → TellsMoves game at status lines
      → TellsMovesAt game position status lines
  bad_position : ((at : Position) → ¬ IsSpelled game at position) → TellsMovesAt game position (status_of BadPosition) (fault_line BadPosition)

-- why a game text is refused
abbrev pub IsTextRefused : Text → SolverFault → Type 0
IsTextRefused text OutOfMemory = ⊤
IsTextRefused text (GameRefused faults.OutOfMemory) = ⊤
IsTextRefused text (GameRefused fault) = Fault text fault
IsTextRefused text _ = ⊥

-- the status and what is written: what is told of the game that the text reads to, or why the text is refused
pub data IsMovesAnswer (text : Text) (Tells : Game → ℕ → List ℕ → Type 0) : ℕ → List ℕ → Type 0 where
  told : (game : Game) (status : ℕ) (lines : List ℕ) → Reads text game → Tells game status lines → IsMovesAnswer text Tells status lines
  refused : (why : SolverFault) → IsTextRefused text why → IsMovesAnswer text Tells (status_of why) (fault_line why)
