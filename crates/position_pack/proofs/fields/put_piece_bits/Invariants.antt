use Rattle.std.proofs.Common.{◌≡◌, ◌++◌, take}
use Rattle.std.specs.List.{flat_map}
use Rattle.position_pack.specs.Bits.{bits_of}
use Rattle.position_pack.specs.lemmas.Streams.{written, IsWriter}
use Rattle.position_pack.proofs.fields.put_piece_bits.Given as goal

abbrev pub invariant-loop-piece : goal.invariant-loop-piece
invariant-loop-piece l = record {
  writer : IsWriter l.writer;
  bits : written l.writer ≡ written l.initial.writer ++ flat_map (bits_of l.width) (take l.piece-index l.rest);
}
