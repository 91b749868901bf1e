use Rattle.std.proofs.Common.{◌≡◌, ℕ, map, length, slice_get, Some}
use Rattle.rbg_game.specs.Meaning.{regex_of}
use Rattle.legal_moves.proofs.automaton.patterns.same_patterns.Given as goal

abbrev pub invariant-loop-number : goal.invariant-loop-number
invariant-loop-number l = record {
  many : length l.same.items ≡ l.number;
  each : (i j : ℕ) → slice_get l.same.items i ≡ Some j
      → slice_get (map (λ r. regex_of r.now) l.patterns.items) j ≡ slice_get (map (λ r. regex_of r.now) l.patterns.items) i;
}
