use Rattle.std.proofs.Common.{◌≡◌, ◌-◌, ◌<◌, ◌^◌}
use Rattle.position_pack.specs.Bits.{number_at}
use Rattle.position_pack.proofs.reader.number_at.Given as goal

abbrev pub invariant-loop-index : goal.invariant-loop-index
invariant-loop-index l = record {
  low : l.number < 2 ^ (l.index - l.fn.place);
  is : l.number ≡ number_at l.fn.place (l.index - l.fn.place) l.bytes;
}
