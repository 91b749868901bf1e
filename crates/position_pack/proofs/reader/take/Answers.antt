use Rattle.std.proofs.Common.{◌≡◌, ◌+◌, ◌*◌, ◌/◌, ◌%◌, ◌-◌, ◌^◌, ◌<◌, ◌≤◌, ◌++◌, length, drop, ap, sym, ◌∙◌, subst, arith}
use Rattle.std.proofs.Math.Pow.{pow_mono}
use Rattle.position_pack.specs.Bits.{bits_of}
use Rattle.position_pack.proofs.ByteLemmas.{all_bits}
use Rattle.position_pack.proofs.ShiftLemmas.{high_low, one_shifted, high_bits, byte_in, length-left, value_out}
use Rattle.position_pack.proofs.reader.take.Goals as goal

pub bounds-bytes-next : goal.bounds-bytes-next
bounds-bytes-next c =
    let all = sym (length-left c.args.bytes.now c.loop-count.next c.loop-count.count c.loop-count.held c.loop-count.invariant.within)
    ∙ ap length c.loop-count.invariant.bits in
    omega (arith, all, c.requires.enough, c.loop-count-test.true, c.loop-count.invariant.within)

pub loop-count-preserved : goal.loop-count-preserved
loop-count-preserved c =
    let all = sym (length-left c.args.bytes.now c.loop-count.next c.loop-count.count c.loop-count.held c.loop-count.invariant.within)
    ∙ ap length c.loop-count.invariant.bits in
    let there : c.loop-count.next < length c.args.bytes.now = omega (arith, all, c.requires.enough, c.loop-count-test.true, c.loop-count.invariant.within) in
    let byte : c.from.result < 256 = omega (arith, c.from.ensures, c.type_inv.bytes c.loop-count.next) in
    record {
      wide = omega (arith, c.loop-count-test.true);
      low = high_low c.loop-count.held c.from.result c.loop-count.count 8 c.loop-count.invariant.low byte;
      within = omega (arith, there);
      bits = byte_in c.args.bytes.now c.loop-count.next c.loop-count.count c.loop-count.held c.from.result _ there c.from.ensures byte c.loop-count.invariant.bits;
    }

pub returns-clause-low : goal.returns-clause-low
returns-clause-low c =
    let k = c.loop-count.count - c.args.width in
    let many : c.loop-count.count ≡ c.args.width + k = omega (arith, c.loop-count-test.false) in
    high_bits c.loop-count.held c.args.width k (subst (λ n. c.loop-count.held < 2 ^ n) many c.loop-count.invariant.low)

pub overflow_cast-value-2 : goal.overflow_cast-value-2
overflow_cast-value-2 c =
    let k = c.loop-count.count - c.args.width in
    let many : c.loop-count.count ≡ c.args.width + k = omega (arith, c.loop-count-test.false) in
    let small : c.loop-count.held / 2 ^ k < 2 ^ c.args.width = high_bits c.loop-count.held c.args.width k
    (subst (λ n. c.loop-count.held < 2 ^ n) many c.loop-count.invariant.low) in
    let most : 2 ^ c.args.width ≤ 2 ^ 32 = pow_mono {i = c.args.width} {j = 32} c.requires.width in
    omega (arith, small, most)

pub returns-clause-bits : goal.returns-clause-bits
returns-clause-bits c =
    let k = c.loop-count.count - c.args.width in
    let held = c.loop-count.held in
    let many : c.loop-count.count ≡ c.args.width + k = omega (arith, c.loop-count-test.false) in
    let one : 1 * 2 ^ k % 18446744073709551616 ≡ 2 ^ k = one_shifted k (omega (arith, c.loop-count.invariant.wide, many)) in
    let rest = all_bits (drop c.loop-count.next c.args.bytes.now) in
    sym c.loop-count.invariant.bits ∙ value_out c.args.width k c.loop-count.count held rest many
    ∙ ap (λ n. bits_of c.args.width (held / 2 ^ k) ++ (bits_of k (held % n) ++ rest)) (sym one)
