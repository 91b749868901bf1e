use Rattle.std.proofs.Common.{get_or, [], Some, None, refl, sym, ap, ◌∙◌, not, is_some}
use Rattle.std.proofs.lemmas.Bool.{cond-true, cond-false}
use Rattle.rbg_text.specs.View.{step_view}
use Rattle.rbg_read.specs.lemmas.Switches.{next_flags, has_inner_switch}
use Rattle.rbg_read.proofs.Defaults.{no_step}
use Rattle.rbg_read.proofs.Lists.{fold_turn, fold_stops, fold_end}
use Rattle.rbg_read.proofs.switches.has_inner_switch.Goals as goal

pub returns-then-branch : goal.returns-then-branch
unfolding has_inner_switch
returns-then-branch c =
    let bad = c.in_ok-step_on.ensures ∙ cond-true _ _ _ c.if-branch.true in
    let stop = fold_stops next_flags None (λ y. refl)
    (Some []) step_view c.args.steps.now c.loop-step.step-index no_step c.loop-step-test.true
    (ap (λ o. next_flags o (step_view (get_or c.args.steps.now c.loop-step.step-index no_step))) c.loop-step.invariant ∙ bad) in
    ap (λ o. not (is_some o)) (sym stop)

pub loop-step-preserved : goal.loop-step-preserved
loop-step-preserved c =
    let good = c.in_ok-step_on.ensures ∙ cond-false _ _ _ c.if-branch.false in
    fold_turn next_flags (Some []) step_view c.args.steps.now c.loop-step.step-index no_step c.loop-step-test.true
    ∙ (ap (λ o. next_flags o (step_view (get_or c.args.steps.now c.loop-step.step-index no_step))) c.loop-step.invariant ∙ good)

pub returns : goal.returns
unfolding has_inner_switch
returns c =
    let end = fold_end next_flags (Some []) step_view c.args.steps.now c.loop-step.step-index c.loop-step-test.false in
    ap (λ o. not (is_some o)) (sym (sym end ∙ c.loop-step.invariant))
