use Rattle.std.proofs.Common.{◌≡◌, ◌+◌, ◌*◌, ◌++◌, take}
use Rattle.std.specs.List.{flat_map}
use Rattle.std.specs.Int.{bytes_high_first}
use Rattle.arrayvec.specs.ArrayVec.{array_vec_len}
use Rattle.position_pack.proofs.parts.put_values.Given as goal

abbrev pub invariant-loop-value : goal.invariant-loop-value
invariant-loop-value l =
    (l.bytes.items ≡ l.fn.bytes.items ++ flat_map (bytes_high_first 3) (take l.value-index l.values))
    × (array_vec_len l.bytes ≡ array_vec_len l.fn.bytes + 3 * l.value-index)
