use Rattle.std.proofs.Common.{◌++◌, ap, length, ◌∙◌, arith}
use Rattle.position_pack.specs.Bits.{field_bits}
use Rattle.position_pack.proofs.ReadLemmas.{length-field_bits}
use Rattle.position_pack.proofs.fields.bytes_of_fields.Goals as goal

pub finish-requires-clause-room : goal.finish-requires-clause-room
finish-requires-clause-room c =
    let greatest = c.args.greatest.now in
    let fields = c.args.fields.now in
    let bits = ap length (c.put_fields.ensures.bits ∙ ap (λ xs. xs ++ field_bits greatest fields) c.new_writer-writer.ensures.empty) in
    omega (arith, bits, length-field_bits greatest fields, c.requires)
