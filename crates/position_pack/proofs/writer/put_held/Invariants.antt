use Rattle.std.proofs.Common.{◌≡◌, ℕ, get_or, ◌^◌, ◌≤◌, ◌<◌, ◌++◌, ◌+◌, ◌-◌}
use Rattle.position_pack.specs.Bits.{bits_of}
use Rattle.position_pack.specs.lemmas.Streams.{written}
use Rattle.position_pack.proofs.ByteLemmas.{all_bits}
use Rattle.position_pack.proofs.writer.put_held.Given as goal

-- the bits of the bytes and those that are held are the old ones
abbrev pub invariant-loop-count : goal.invariant-loop-count
invariant-loop-count l = record {
  wide : l.count ≤ 63;
  low : l.held < 2 ^ l.count;
  bytes : (i : ℕ) → get_or l.writer.bytes.items i 0 < 256;
  bits : all_bits l.writer.bytes.items ++ bits_of l.count l.held ≡ written l.fn.writer;
}

abbrev pub decreases-loop-count : goal.decreases-loop-count
decreases-loop-count l = l.count + 1 - 8
