use Rattle.std.proofs.Common.{◌≡◌, suc, ◌+◌, ◌*◌, ◌/◌, ◌%◌, ◌-◌, ◌^◌, ◌<◌, ◌≤◌, get_or, ap, sym, ◌∙◌, subst, arith}
use Rattle.std.proofs.Math.Pow.{pow_mono}
use Rattle.position_pack.specs.Bits.{number_at}
use Rattle.position_pack.proofs.BitLemmas.{double}
use Rattle.position_pack.proofs.NumberLemmas.{bit_more, bit_none}
use Rattle.position_pack.proofs.reader.number_at.Goals as goal
use Rattle.position_pack.proofs.reader.number_at.Goals.{then-index-bytes, else-index-bytes}

pub loop-index-preserved : goal.loop-index-preserved
loop-index-preserved c =
    let i = c.loop-index.index in
    let place = c.args.place in
    let bytes = c.args.bytes.now in
    let j = i - place in
    let at : i ≡ place + j = omega (arith, c.loop-index.auto.index) in
    let next : j + 1 ≡ i + 1 - place = omega (arith, at) in
    let power : 2 ^ (j + 1) ≡ 2 * 2 ^ j = (let one : j + 1 ≡ suc j = omega arith in ap (λ n. 2 ^ n) one ∙ double j) in
    elim c.if-index-bytes.branch [
      | then-index-bytes w ↦
          let byte : get_or bytes (i / 8) 0 < 256 = omega (arith, c.type_inv.bytes (i / 8)) in
          let e = 7 - i % 8 in
          let low_power : 2 ^ e ≤ 2 ^ 7 = pow_mono {i = e} {j = 7} (omega arith) in
          let one : 1 * 2 ^ e % 4294967296 ≡ 2 ^ e = omega (arith, low_power) in
          let bit = get_or bytes (i / 8) 0 / 2 ^ e % 2 in
          let is : c.if-index-bytes.number ≡ c.loop-index.number * 2 + bit =
          w.number-is ∙ ap (λ n. c.loop-index.number * 2 + w.from.result / n % 2) one ∙ ap (λ n. c.loop-index.number * 2 + n / 2 ^ e % 2) w.from.ensures in
          let more = bit_more bytes place i j at w.if-index-bytes.true byte in
          let small : bit < 2 = omega arith in
          record {
            low = subst (λ n. c.if-index-bytes.number < 2 ^ n) next (omega (arith, is, small, c.loop-index.invariant.low, power));
            is = is ∙ ap (λ n. n * 2 + bit) c.loop-index.invariant.is ∙ sym more ∙ ap (λ n. number_at place n bytes) next;
          }
      | else-index-bytes w ↦
          let none = bit_none bytes place i j at (omega (arith, w.if-index-bytes.false)) in
          record {
            low = subst (λ n. c.if-index-bytes.number < 2 ^ n) next (omega (arith, w.number-is, c.loop-index.invariant.low, power));
            is = w.number-is ∙ c.loop-index.invariant.is ∙ sym none ∙ ap (λ n. number_at place n bytes) next;
          }
    ]
