use Rattle.std.proofs.Common.{ap, length, take, get_or, ◌∙◌, arith}
use Rattle.std.specs.List.{flat_map}
use Rattle.std.proofs.lemmas.List.{length-append}
use Rattle.std.proofs.lemmas.List.Folds.{length-flat_map-take}
use Rattle.position_pack.specs.Bits.{bits_of}
use Rattle.position_pack.specs.lemmas.Streams.{written}
use Rattle.position_pack.proofs.BitLemmas.{length-bits}
use Rattle.position_pack.proofs.PieceBits.{length-piece_bits}
use Rattle.position_pack.proofs.fields.put_piece_bits.Goals as goal

pub put-requires-clause-room : goal.put-requires-clause-room
put-requires-clause-room c =
    let w = c.args.width in
    let ps = c.args.pieces.now in
    let rest = c.put_eights-rest.result.now in
    let first = written c.put_eights-rest.new.writer in
    let i = c.loop-piece.piece-index in
    let both = ap length c.put_eights-rest.ensures.bits in
    let before = length-append first (flat_map (bits_of w) rest) in
    let behind = length-append (written c.args.writer.now) (flat_map (bits_of w) ps) in
    let bits = ap length c.loop-piece.invariant.bits ∙ length-append first (flat_map (bits_of w) (take i rest)) in
    let one = length-flat_map-take (bits_of w) rest i 0 c.loop-piece-test.true in
    let long = length-bits w (get_or rest i 0) in
    let all = length-piece_bits w ps in
    omega (arith, both, before, behind, bits, one, long, all, c.requires.room)
