use Rattle.std.proofs.Common.{◌≡◌, ℕ, ◌+◌, ◌*◌, ◌%◌, ◌-◌, ◌^◌, ◌<◌, ◌++◌, length, get_or, ap, ◌∙◌, sym, subst, arith}
use Rattle.position_pack.specs.Bits.{bits_of, bytes_of_bits}
use Rattle.position_pack.proofs.ByteLemmas.{all_bits, low_bytes, low_push}
use Rattle.position_pack.proofs.ShiftLemmas.{high_low, shifted, power_positive, length-written, last_out, none_out}
use Rattle.position_pack.proofs.writer.put_last.Goals as goal

pub overflow_cast-last-then-writer-gt0 : goal.overflow_cast-last-then-writer-gt0
overflow_cast-last-then-writer-gt0 c =
    let held = c.args.writer.now.held in
    let k = 8 - c.args.writer.now.count in
    let many : c.args.writer.now.count + k ≡ 8 = omega (arith, c.requires.writer.few) in
    let number : c.from.result * 2 ^ k % 18446744073709551616 ≡ held * 2 ^ k = ap (λ n. n * 2 ^ k % 18446744073709551616) c.from.ensures
    ∙ shifted held c.args.writer.now.count k c.requires.writer.low (omega (arith, many)) in
    let small : held * 2 ^ k + 0 < 2 ^ 8 = subst (λ n. held * 2 ^ k + 0 < 2 ^ n) many
    (high_low held 0 c.args.writer.now.count k c.requires.writer.low (power_positive k)) in
    omega (arith, number, small)

pub push-requires : goal.push-requires
push-requires c =
    let all = length-written c.args.writer.now.bytes.items c.args.writer.now.count c.args.writer.now.held in
    let room : length c.args.writer.now.bytes.items < 240 = omega (arith, all, c.requires.room, c.if-writer-gt0.true) in
    (omega arith, room)

pub returns-then-writer-gt0 : goal.returns-then-writer-gt0
returns-then-writer-gt0 c =
    let held = c.args.writer.now.held in
    let count = c.args.writer.now.count in
    let k = 8 - count in
    let many : count + k ≡ 8 = omega (arith, c.requires.writer.few) in
    let number : c.from.result * 2 ^ k % 18446744073709551616 ≡ held * 2 ^ k = ap (λ n. n * 2 ^ k % 18446744073709551616) c.from.ensures
    ∙ shifted held count k c.requires.writer.low (omega (arith, many)) in
    let small : held * 2 ^ k + 0 < 2 ^ 8 = subst (λ n. held * 2 ^ k + 0 < 2 ^ n) many (high_low held 0 count k c.requires.writer.low (power_positive k)) in
    let low : (i : ℕ) → get_or c.push.new.self.items i 0 < 256 =
    subst (λ xs. (i : ℕ) → get_or xs i 0 < 256) (sym c.push.ensures.items)
    (low_push c.args.writer.now.bytes.items _ c.requires.writer.bytes (omega (arith, number, small))) in
    last_out c.args.writer.now.bytes.items c.push.new.self.items count k held _ many
    (omega (arith, c.if-writer-gt0.true)) number c.push.ensures.items (low_bytes c.push.new.self.items low)

pub returns-else-writer-gt0 : goal.returns-else-writer-gt0
returns-else-writer-gt0 c =
    let none : 0 ≡ c.args.writer.now.count = omega (arith, c.if-writer-gt0.false) in
    subst (λ n. c.args.writer.now.bytes.items ≡ bytes_of_bits (all_bits c.args.writer.now.bytes.items ++ bits_of n c.args.writer.now.held)) none
    (none_out c.args.writer.now.bytes.items c.args.writer.now.held (low_bytes c.args.writer.now.bytes.items c.requires.writer.bytes))
