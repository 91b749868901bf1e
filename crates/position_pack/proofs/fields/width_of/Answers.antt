use Rattle.std.proofs.Common.{◌≡◌, ℕ, zero, suc, ◌+◌, ◌*◌, ◌^◌, ◌<◌, ◌≤◌, ap, sym, ◌∙◌, arith}
use Rattle.position_pack.specs.Bits.{width}
use Rattle.position_pack.proofs.BitLemmas.{width_zero, width_between, width_least, double}
use Rattle.position_pack.proofs.fields.width_of.Goals as goal

-- the width of a number from the powers of two around its double and one
width_is : (k n m : ℕ) → m < 2 ^ 32 → n ≡ 2 * m + 1 → 2 ^ k ≤ n → n < 2 * 2 ^ k → k ≡ width m
width_is zero n m word is low high =
    let none : m ≡ 0 = omega (arith, is, high) in
    sym (ap width none ∙ width_zero)
width_is (suc j) n m word is low high =
    let next : suc j ≡ j + 1 = omega arith in
    next ∙ width_between m j (omega (arith, is, low, double j)) (omega (arith, is, high, double j)) word

pub returns-clause-is : goal.returns-clause-is
returns-clause-is c =
    width_is c.ilog2.result _ c.args.most (omega (arith, c.ranges.most.fits)) (omega (arith, c.from.ensures)) c.ilog2.ensures.power_le c.ilog2.ensures.next_power_gt

pub returns-clause-word : goal.returns-clause-word
returns-clause-word c =
    let is : c.ilog2.result ≡ width c.args.most = width_is c.ilog2.result _ c.args.most (omega (arith, c.ranges.most.fits)) (omega (arith, c.from.ensures))
    c.ilog2.ensures.power_le c.ilog2.ensures.next_power_gt in
    omega (arith, is, width_least c.args.most 32 (omega (arith, c.ranges.most.fits)))
