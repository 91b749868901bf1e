use Rattle.std.proofs.Common.{◌≡◌, ◌<◌, ℕ, Some, slice_get}
use Rattle.rbg_game.specs.Meaning.{game_of}
use Rattle.legal_moves.specs.lemmas.Configurations.{expression_at}
use Rattle.legal_moves.specs.lemmas.Walks.{IsLed, IsGoneOn}
use Rattle.legal_moves.proofs.automaton.jumps.walk_from.Given as goal

abbrev pub invariant-loop-at : goal.invariant-loop-at
invariant-loop-at l = record {
  first : slice_get l.walk.met.items 0 ≡ Some l.fn.start;
  led : IsLed (game_of l.game) (expression_at (game_of l.game) l.index) l.fn.start.number l.fn.start.vertex l.walk;
  gone : (j : ℕ) → j < l.at → IsGoneOn (game_of l.game) (expression_at (game_of l.game) l.index) l.walk j;
}
