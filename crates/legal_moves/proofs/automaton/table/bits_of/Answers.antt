use Rattle.legal_moves.proofs.automata.SetLemmas.{bits_more}
use Rattle.legal_moves.proofs.automaton.table.bits_of.Goals as goal

pub loop-piece-preserved : goal.loop-piece-preserved
loop-piece-preserved c =
    bits_more c.args.pieces.now c.loop-piece.piece-index c.loop-piece.bits c.with_bit-bits.result c.loop-piece.invariant c.with_bit-bits.ensures.kept c.with_bit-bits.ensures.set
