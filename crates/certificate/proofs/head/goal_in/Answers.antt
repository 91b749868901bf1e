use Rattle.std.proofs.Common.{◌∙◌, ◌++◌, sym, subst, codes, arith}
use Rattle.std.specs.Fmt.{decimal}
use Rattle.rbg_game.specs.Goals.{CanBeGoal}
use Rattle.position_pack.proofs.WordLemmas.{refused}
use Rattle.certificate.proofs.HeadLemmas.{goal_digits, some_goal}
use Rattle.certificate.proofs.LineLemmas.{decimal_tells, digits_in_line}
use Rattle.certificate.proofs.head.goal_in.Goals as goal

pub returns-in_err-digits-in-Some : goal.returns-in_err-digits-in-Some
returns-in_err-digits-in-Some c =
    refused _ _ c.from_residual.result c.from_residual.ensures
    (λ g rest is_goal same.
    let (n, can, opens) = some_goal c.args.bytes.now c.in-Some.field-0.now c.in-Some.ensures g rest is_goal same in
    c.in_err-digits-in-Some.ensures (decimal n) (codes "text " ++ rest) (digits_in_line n (omega (arith, can.1))) opens)

pub returns-in_err-number-in-Some : goal.returns-in_err-number-in-Some
returns-in_err-number-in-Some c =
    refused _ _ c.from_residual-in_err-number-in-Some.result c.from_residual-in_err-number-in-Some.ensures
    (λ g rest is_goal same.
    let line = c.in_ok-digits-in-Some.ensures in
    let (n, can, digits) = goal_digits c.args.bytes.now c.in_ok-digits-in-Some.digits.now c.in_ok-digits-in-Some.rest.now line.0 line.1 g rest is_goal same in
    c.in_err-number-in-Some.ensures n (omega (arith, can.1)) digits)

pub returns-in_err-goal-in-Some : goal.returns-in_err-goal-in-Some
returns-in_err-goal-in-Some c =
    refused _ _ c.from_residual-in_err-goal-in-Some.result c.from_residual-in_err-goal-in-Some.ensures
    (λ g rest is_goal same.
    let line = c.in_ok-digits-in-Some.ensures in
    let (n, can, digits) = goal_digits c.args.bytes.now c.in_ok-digits-in-Some.digits.now c.in_ok-digits-in-Some.rest.now line.0 line.1 g rest is_goal same in
    let number = c.in_ok-number-in-Some.ensures in
    let one = decimal_tells n c.in_ok-number-in-Some.field-0 (omega (arith, can.1)) number.0 (sym digits ∙ number.1) in
    c.in_err-goal-in-Some.ensures.none (subst CanBeGoal one can))
