use Rattle.std.proofs.Common.{◌≡◌, ℕ, ◌+◌, ◌*◌, ◌/◌, ◌%◌, ◌-◌, ◌^◌, ◌<◌, ◌++◌, length, get_or, ap, sym, ◌∙◌, subst, arith}
use Rattle.position_pack.specs.Bits.{bits_of}
use Rattle.position_pack.proofs.ByteLemmas.{all_bits, low_push}
use Rattle.position_pack.proofs.ShiftLemmas.{one_shifted, below_power, high_bits, byte_out, length-written}
use Rattle.position_pack.proofs.writer.put_held.Goals as goal

pub loop-count-init : goal.loop-count-init
loop-count-init c = record {
  wide = omega (arith, c.requires.holds.few);
  low = subst (λ n. n < 2 ^ c.args.writer.now.count) (sym c.from-held.ensures) c.requires.holds.low;
  bytes = c.requires.holds.bytes;
  bits = ap (λ n. all_bits c.args.writer.now.bytes.items ++ bits_of c.args.writer.now.count n) c.from-held.ensures;
}

pub overflow_cast-held : goal.overflow_cast-held
overflow_cast-held c =
    let d = c.loop-count.count - 8 in
    let many : c.loop-count.count ≡ 8 + d = omega (arith, c.loop-count-test.true) in
    let small : c.loop-count.held / 2 ^ d < 2 ^ 8 = high_bits c.loop-count.held 8 d (subst (λ n. c.loop-count.held < 2 ^ n) many c.loop-count.invariant.low) in
    omega (arith, small)

pub push-requires : goal.push-requires
push-requires c =
    let all = sym (length-written c.loop-count.writer.bytes.items c.loop-count.count c.loop-count.held) ∙ ap length c.loop-count.invariant.bits in
    let room : length c.loop-count.writer.bytes.items < 240 = omega (arith, all, c.requires.room, c.loop-count-test.true) in
    (omega arith, room)

pub loop-count-preserved : goal.loop-count-preserved
loop-count-preserved c =
    let d = c.loop-count.count - 8 in
    let held = c.loop-count.held in
    let many : c.loop-count.count ≡ 8 + d = omega (arith, c.loop-count-test.true) in
    let one : 1 * 2 ^ d % 18446744073709551616 ≡ 2 ^ d = one_shifted d (omega (arith, c.loop-count.invariant.wide)) in
    let number : held % 2 ^ d ≡ held % (1 * 2 ^ d % 18446744073709551616) = ap (λ n. held % n) (sym one) in
    let small : held / 2 ^ d < 2 ^ 8 = high_bits held 8 d (subst (λ n. held < 2 ^ n) many c.loop-count.invariant.low) in
    record {
      wide = omega (arith, c.loop-count.invariant.wide);
      low = subst (λ n. n < 2 ^ d) number (below_power held d);
      bytes = subst (λ xs. (i : ℕ) → get_or xs i 0 < 256) (sym c.push.ensures.items)
          (low_push c.loop-count.writer.bytes.items (held / 2 ^ d) c.loop-count.invariant.bytes small);
      bits = ap (λ n. all_bits c.push.new.self.items ++ bits_of d n) (sym number)
          ∙ byte_out c.loop-count.writer.bytes.items c.push.new.self.items c.loop-count.count d held _ many c.push.ensures.items c.loop-count.invariant.bits;
    }
