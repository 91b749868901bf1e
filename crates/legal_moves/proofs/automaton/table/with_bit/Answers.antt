use Rattle.std.proofs.Common.{◌*◌, ◌^◌, ◌%◌, arith, w64}
use Rattle.std.proofs.lemmas.Nat.Bits.{bit_at_set_same, bit_at_or, bit_at-lt}
use Rattle.legal_moves.proofs.automaton.table.with_bit.Goals as goal

pub returns-then-piece-lt64-clause-kept : goal.returns-then-piece-lt64-clause-kept
returns-then-piece-lt64-clause-kept c = λ k h.
    let m = 1 * 2 ^ c.args.piece % 2 ^ 64 in
    omega (arith, bit_at_or c.args.bits m k, h, bit_at-lt m k)

pub returns-then-piece-lt64-clause-set : goal.returns-then-piece-lt64-clause-set
returns-then-piece-lt64-clause-set c = λ low. bit_at_set_same w64 c.args.bits c.args.piece low
