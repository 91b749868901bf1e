use Rattle.std.proofs.Common.{◌≡◌, ℕ, ◌<◌, slice_index}
use Rattle.std.specs.Int.{bit_at}
use Rattle.legal_moves.proofs.automaton.table.bits_of.Given as goal

abbrev pub invariant-loop-piece : goal.invariant-loop-piece
invariant-loop-piece l = (k : ℕ) → k < l.piece-index → slice_index l.pieces k < 64 → bit_at l.bits (slice_index l.pieces k) ≡ 1
