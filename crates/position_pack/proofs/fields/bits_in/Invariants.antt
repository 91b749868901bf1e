use Rattle.std.proofs.Common.{◌≡◌, ◌≤◌, ◌*◌, take}
use Rattle.std.specs.List.{sum_by}
use Rattle.position_pack.specs.Bits.{width}
use Rattle.position_pack.proofs.fields.bits_in.Given as goal

abbrev pub invariant-loop-most : goal.invariant-loop-most
invariant-loop-most l = record {
  few : l.bits ≤ 32 * l.most-index;
  are : l.bits ≡ sum_by width (take l.most-index l.greatest);
}
