use Rattle.std.proofs.Common.{◌≡◌, ℕ, ◌+◌, ◌*◌, ◌-◌, ◌^◌, ◌≤◌, ap, arith}
use Rattle.std.proofs.Math.Pow.{pow_mono}
use Rattle.position_pack.proofs.ShiftLemmas.{one_shifted}
use Rattle.position_pack.proofs.fields.halved.Goals as goal

-- high parts moved down from beside p to beside q
moved : (x e o p q : ℕ) → q ≤ p → x ≡ e * p + o → x - e * (p - q) ≡ e * q + o
moved x e o p q le is =
    let d = p - q in
    let whole : p ≡ d + q = omega (arith, le) in
    let out : e * (d + q) ≡ e * d + e * q = omega arith in
    let same = ap (λ n. e * n) whole in
    omega (arith, is, same, out)

pub overflow_sub-result : goal.overflow_sub-result
overflow_sub-result c =
    let one = one_shifted c.args.shift (omega (arith, c.requires.shift)) in
    let two = one_shifted c.args.width (omega (arith, c.requires.shift, c.requires.width)) in
    let more : 2 ^ c.args.width ≤ 2 ^ c.args.shift = pow_mono {i = c.args.width} {j = c.args.shift} c.requires.width in
    omega (arith, one, two, more)

pub returns : goal.returns
returns c =
    let one = one_shifted c.args.shift (omega (arith, c.requires.shift)) in
    let two = one_shifted c.args.width (omega (arith, c.requires.shift, c.requires.width)) in
    let more : 2 ^ c.args.width ≤ 2 ^ c.args.shift = pow_mono {i = c.args.width} {j = c.args.shift} c.requires.width in
    rw (one, two) (moved _ _ _ (2 ^ c.args.shift) (2 ^ c.args.width) more c.requires.parts)
