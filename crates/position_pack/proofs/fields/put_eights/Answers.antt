use Rattle.std.proofs.Common.{◌≤◌, ◌*◌, length, ap, arith}
use Rattle.std.specs.List.{flat_map}
use Rattle.std.proofs.Math.Nat.{mul-le-mul_right}
use Rattle.std.proofs.lemmas.List.{length-append}
use Rattle.position_pack.specs.Bits.{bits_of}
use Rattle.position_pack.specs.lemmas.Streams.{written}
use Rattle.position_pack.proofs.PieceBits.{length-piece_bits}
use Rattle.position_pack.proofs.fields.put_eights.Goals as goal

pub put_low-requires-clause-room : goal.put_low-requires-clause-room
put_low-requires-clause-room c =
    let w = c.args.width in
    let ps = c.args.pieces.now in
    let rest = c.loop-rest.rest.now in
    let eight : 8 * w ≤ length rest * w = mul-le-mul_right w (omega (arith, c.if-rest-ge8.true)) in
    let bits = ap length c.loop-rest.invariant.bits in
    let one = length-append (written c.loop-rest.writer) (flat_map (bits_of w) rest) in
    let two = length-append (written c.args.writer.now) (flat_map (bits_of w) ps) in
    let left = length-piece_bits w rest in
    let all = length-piece_bits w ps in
    omega (arith, eight, bits, one, two, left, all, c.requires.room)
