use Rattle.std.proofs.Common.{◌≡◌, ◌+◌, ◌*◌, ◌/◌, ◌%◌, ◌-◌, ◌^◌, ◌<◌, ◌++◌, refl, ap, ◌∙◌, subst, arith}
use Rattle.position_pack.specs.Bits.{bits_of}
use Rattle.position_pack.proofs.ByteLemmas.{all_bits}
use Rattle.position_pack.proofs.ShiftLemmas.{one_shifted, high_bits}
use Rattle.position_pack.proofs.JoinLemmas.{four_out}
use Rattle.position_pack.proofs.writer.put_four.Goals as goal

pub overflow_cast-four-2 : goal.overflow_cast-four-2
overflow_cast-four-2 c =
    let held = c.args.held in
    let d = c.args.count - 32 in
    let many : c.args.count ≡ 32 + d = omega (arith, c.requires.four) in
    let small : held / 2 ^ d < 2 ^ 32 = high_bits held 32 d (subst (λ n. held < 2 ^ n) many c.requires.low) in
    omega (arith, small)

pub returns-clause-bits : goal.returns-clause-bits
returns-clause-bits c =
    let held = c.args.held in
    let d = c.args.count - 32 in
    let many : c.args.count ≡ 32 + d = omega (arith, c.requires.four) in
    let one : 1 * 2 ^ d % 18446744073709551616 ≡ 2 ^ d = one_shifted d (omega (arith, c.requires.few)) in
    ap (λ n. all_bits c.put_bytes.new.bytes.items ++ bits_of d (held % n)) one
    ∙ four_out c.args.writer.now.bytes.items c.put_bytes.new.bytes.items c.args.count d held _ many
    (c.put_bytes.ensures.items ∙ ap (λ xs. c.args.writer.now.bytes.items ++ xs) c.to_be_bytes.ensures) refl
