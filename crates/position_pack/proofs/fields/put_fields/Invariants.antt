use Rattle.std.proofs.Common.{◌≡◌, ◌++◌, take}
use Rattle.position_pack.specs.Bits.{field_bits}
use Rattle.position_pack.specs.lemmas.Streams.{written, IsWriter}
use Rattle.position_pack.proofs.fields.put_fields.Given as goal

abbrev pub invariant-loop-index : goal.invariant-loop-index
invariant-loop-index l = record {
  writer : IsWriter l.writer;
  bits : written l.writer ≡ written l.fn.writer ++ field_bits (take l.index l.greatest) l.fields;
}
