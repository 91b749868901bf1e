use Rattle.std.proofs.Common.{◌≡◌, ◌+◌, ◌*◌, ◌<◌, ℕ, Some, length, slice_get}
use Rattle.rbg_game.specs.Meaning.{game_of}
use Rattle.legal_moves.specs.Jumps.{IsRow}
use Rattle.legal_moves.specs.lemmas.Configurations.{expression_at}
use Rattle.legal_moves.specs.declared.automaton.jumps.JumpRow.{JumpRow}
use Rattle.legal_moves.proofs.automaton.jumps.rows_of.Given as goal

abbrev pub invariant-loop-at : goal.invariant-loop-at
invariant-loop-at l = record {
  many : length l.rows.items ≡ l.at;
  each : (p v : ℕ) (row : JumpRow) → v < length (game_of l.game).vertices → slice_get l.rows.items (p * length (game_of l.game).vertices + v) ≡ Some row
      → IsRow (game_of l.game) (expression_at (game_of l.game) l.index) p v row;
}
