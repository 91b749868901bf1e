use Rattle.std.proofs.Common.{◌≡◌, ◌≤◌, ◌<◌, ℕ, get_or}
use Rattle.arrayvec.specs.ArrayVec.{array_vec_len}
use Rattle.position_pack.proofs.ValueBytes.{three_at}
use Rattle.position_pack.proofs.parts.values_of.Given as goal

abbrev pub invariant-loop-index : goal.invariant-loop-index
invariant-loop-index l = record {
  as_many : array_vec_len l.values ≡ l.index;
  values_are : (k : ℕ) → k < l.index → get_or l.values.items k 0 ≡ three_at l.bytes k;
  within : (k : ℕ) → k < l.index → get_or l.values.items k 0 ≤ get_or l.bounds.items k 0;
}
