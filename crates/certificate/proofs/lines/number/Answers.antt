use Rattle.std.proofs.Common.{◌<◌, ◌^◌, arith}
use Rattle.position_pack.proofs.WordLemmas.{decimal_begins, digits_told}
use Rattle.certificate.proofs.lines.number.Goals as goal

pub returns-then-not-begins_plainly : goal.returns-then-not-begins_plainly
returns-then-not-begins_plainly c = λ n lt is.
    let small : n < 2 ^ 64 = omega arith in
    let plain = c.begins_plainly.ensures.1 (decimal_begins n _ small is) in
    let not_plain = c.if-not-begins_plainly.true in
    cc

pub returns : goal.returns
returns c = (
  omega arith,
  digits_told _ _ (c.begins_plainly.ensures.0 c.if-not-begins_plainly.false) c.in_ok-number.ensures.0 c.in_ok-number.ensures.1 (omega arith),
)
