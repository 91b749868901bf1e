-- What is told of a line that is played, and of moves.
use Rattle.std.proofs.Common.{◌≡◌, ℕ, List, Option, Some, None, subst}
use Rattle.std.specs.Prelude.{IsTrue}
use Rattle.rbg_game.specs.Games.{Game}
use Rattle.best_line.specs.Order.{IsBestFirst}
use Rattle.best_line.specs.declared.known.KnownMove.{KnownMove}
use Rattle.best_line.specs.declared.known.KnownMoves.{KnownMoves}
use Rattle.game_file.specs.Kept.{Kept}
use Rattle.game_file.specs.State.{State}
use Rattle.solver.specs.Held.{IsSound}
use Rattle.solver.specs.Moves.{HasMoves}
use Rattle.solver.specs.Queries.{IsGameOf, OfKept, Tells, HasLine, HasToldLine}
use Rattle.session_lines.specs.Known.{known_lines}
use Rattle.session_lines.specs.Replies.{line_line}
use Rattle.session_lines.specs.Answered.{AreMoveLines, IsPlayLine}

-- the line of a play's numbers, of the table that they are told of
pub line_told : (number : ℕ) (numbers text : List ℕ) (state : State) → Tells (HasToldLine number numbers) state
    → (IsSound state.kept → Tells (HasLine number numbers) state)
    → text ≡ line_line numbers → Tells (IsPlayLine number text) state
line_told number numbers text state told so is = λ honest. go state.kept (told honest) (λ sound. so sound honest)
  where
    go : (kept : Option Kept) → OfKept (HasToldLine number numbers) kept → (IsSound kept → OfKept (HasLine number numbers) kept)
        → OfKept (IsPlayLine number text) kept
    go None none so = none
    go (Some k) told so = record { numbers = numbers; told = told; so = so; text_is = is }

-- the lines of moves, best first, of the table that they are told of, in the game that is kept after the question
pub moves_told : (number : ℕ) (game : Game) (known : KnownMoves) (sorted : List KnownMove) (text : List ℕ) (old new : State) → IsTrue old.disk.honest
    → Tells (HasMoves number known) old → (IsTrue old.disk.honest → new.kept ≡ old.kept) → OfKept (IsGameOf game) new.kept
    → IsBestFirst known.mover known.moves.items sorted → text ≡ known_lines game sorted → OfKept (AreMoveLines number text) old.kept
moves_told number game known sorted text old new honest told same of_game best is =
    go old.kept (told honest) (subst (λ kept. OfKept (IsGameOf game) kept) (same honest) of_game)
  where
    go : (kept : Option Kept) → OfKept (HasMoves number known) kept → OfKept (IsGameOf game) kept → OfKept (AreMoveLines number text) kept
    go None none of = none
    go (Some k) has of = record { game = game; of_game = of; known = known; has = has; sorted = sorted; best = best; text_is = is }
