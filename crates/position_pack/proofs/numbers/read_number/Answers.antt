use Rattle.std.proofs.Common.{◌<◌, ◌^◌, arith}
use Rattle.position_pack.proofs.WordLemmas.{decimal_begins, value_told, digits_told}
use Rattle.position_pack.proofs.numbers.read_number.Goals as goal

pub returns-then-not-begins_plainly : goal.returns-then-not-begins_plainly
returns-then-not-begins_plainly c = λ n is.
    let small : n < 2 ^ 64 = omega (arith, is.allowed) in
    let plain = c.begins_plainly.ensures.1 (decimal_begins n _ small is.text_is) in
    let not_plain = c.if-not-begins_plainly.true in
    cc

pub returns-then-number-most : goal.returns-then-number-most
returns-then-number-most c = λ n is.
    let small : n < 2 ^ 64 = omega (arith, is.allowed) in
    omega (arith, is.allowed, c.in_ok-number.ensures.1, value_told n _ small is.text_is)

pub returns : goal.returns
returns c = record {
  allowed = omega arith;
  text_is = digits_told _ _ (c.begins_plainly.ensures.0 c.if-not-begins_plainly.false) c.in_ok-number.ensures.0 c.in_ok-number.ensures.1 (omega arith);
}
