use Rattle.std.proofs.Common.{◌≡◌, ◌<◌, ℕ, Some, slice_get}
use Rattle.rbg_game.specs.Meaning.{game_of}
use Rattle.legal_moves.specs.lemmas.Configurations.{expression_at}
use Rattle.legal_moves.specs.lemmas.Walks.{KeepsClosure, IsLed, HasNoted}
use Rattle.legal_moves.proofs.automaton.jumps.go_on.Given as goal

abbrev pub invariant-loop-next : goal.invariant-loop-next
invariant-loop-next l = record {
  kept : KeepsClosure l.initial.walk l.walk;
  noted : (i k : ℕ) → i < l.next-index → slice_get l.next-items i ≡ Some k
      → HasNoted (game_of l.game) (expression_at (game_of l.game) l.index) l.walk l.here.vertex k;
  led : (p v : ℕ) → IsLed (game_of l.game) (expression_at (game_of l.game) l.index) p v l.initial.walk
      → IsLed (game_of l.game) (expression_at (game_of l.game) l.index) p v l.walk;
}
