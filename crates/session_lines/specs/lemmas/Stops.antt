-- What was written where the moves were not written to their end.
use Rattle.std.specs.Prelude.{◌≡◌, ℕ, List, take}
use Rattle.rbg_game.specs.Games.{Game}
use Rattle.rbg_game.specs.declared.position.Position.{Position}
use Rattle.legal_moves.specs.Listed.{ShownMove}
use Rattle.session_lines.specs.Lines.{AreLinesOfMoves}
use Rattle.session_lines.specs.Answers.{IsUntold, TellsMoves}
use Rattle.session_lines.specs.declared.move_lines.Stop.{Stop}
use Rattle.session_lines.specs.declared.move_lines.Stop.TheVariants.{Refused, Output}
use Rattle.solver.specs.declared.fault.SolverFault.TheVariants.{OutOfMemory}

-- some lines were written, and then memory ran out; or the output failed, and a part of what says the moves was written
abbrev pub IsStoppedLine : Game → List ShownMove → (List ℕ → Type 0) → (List ℕ → Type 0) → (List ℕ → Type 0) → Stop → Type 0
IsStoppedLine game moves Says Written Part (Refused why) = (why ≡ OutOfMemory)
    × ((k : ℕ) × (lines : List ℕ) × AreLinesOfMoves game (take k moves) lines × Written lines)
IsStoppedLine game moves Says Written Part Output = (text : List ℕ) × Says text × Part text

-- the moves of the position are not all told, perhaps after some lines; or the output failed, and a part of what tells them was written
abbrev pub IsStopped : Game → Position → (List ℕ → Type 0) → (List ℕ → Type 0) → Stop → Type 0
IsStopped game at Written Part (Refused why) = (lines : List ℕ) × IsUntold game at why lines × Written lines
IsStopped game at Written Part Output = (text : List ℕ) × TellsMoves game at 0 text × Part text
