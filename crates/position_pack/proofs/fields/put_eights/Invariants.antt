use Rattle.std.proofs.Common.{◌≡◌, ◌++◌, length}
use Rattle.std.specs.List.{flat_map}
use Rattle.position_pack.specs.Bits.{bits_of}
use Rattle.position_pack.specs.lemmas.Streams.{written, IsWriter}
use Rattle.position_pack.proofs.fields.put_eights.Given as goal

abbrev pub invariant-loop-rest : goal.invariant-loop-rest
invariant-loop-rest l = record {
  writer : IsWriter l.writer;
  bits : written l.writer ++ flat_map (bits_of l.width) l.rest ≡ written l.fn.writer ++ flat_map (bits_of l.width) l.pieces;
}

abbrev pub decreases-loop-rest : goal.decreases-loop-rest
decreases-loop-rest l = length l.rest
