use Rattle.std.proofs.Common.{◌≡◌, ◌^◌, ◌≤◌, ◌<◌, ◌++◌, ◌+◌, ◌-◌, length, drop}
use Rattle.position_pack.specs.Bits.{bits_of}
use Rattle.position_pack.specs.lemmas.Streams.{left}
use Rattle.position_pack.proofs.ByteLemmas.{all_bits}
use Rattle.position_pack.proofs.reader.take.Given as goal

-- what is held and what is after it are the bits that were left; no more than a byte is read too many
abbrev pub invariant-loop-count : goal.invariant-loop-count
invariant-loop-count l = record {
  wide : l.count < l.fn.width + 8;
  low : l.held < 2 ^ l.count;
  within : l.next ≤ length l.bytes;
  bits : bits_of l.count l.held ++ all_bits (drop l.next l.bytes) ≡ left l.bytes l.fn.reader;
}

abbrev pub decreases-loop-count : goal.decreases-loop-count
decreases-loop-count l = l.fn.width - l.count
