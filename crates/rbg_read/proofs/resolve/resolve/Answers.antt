use Rattle.std.proofs.Common.{get_or, sym, ap, ◌∙◌, arith}
use Rattle.rbg_text.specs.View.{step_view}
use Rattle.rbg_read.specs.lemmas.Flat.{is_large_number}
use Rattle.rbg_read.specs.lemmas.Parts.{known_view}
use Rattle.rbg_read.specs.lemmas.Resolve.{finished, first_rules, after_step, empty_stack, resolved}
use Rattle.rbg_read.proofs.Defaults.{no_step}
use Rattle.rbg_read.proofs.FlatNodes.{rules_whole}
use Rattle.rbg_read.proofs.Lists.{fold_turn, fold_end, none_at}
use Rattle.rbg_read.proofs.resolve.resolve.Goals as goal

pub step-requires-clause-within : goal.step-requires-clause-within
step-requires-clause-within c = none_at is_large_number step_view c.args.steps.now c.loop-step.step-index no_step c.loop-step-test.true c.requires.within

pub loop-step-preserved : goal.loop-step-preserved
loop-step-preserved c =
    let next = after_step (known_view c.args.names.now) in
    c.in_ok-step.ensures
    ∙ ap (λ s. next s (step_view (get_or c.args.steps.now c.loop-step.step-index no_step))) c.loop-step.invariant
    ∙ sym (fold_turn next empty_stack step_view c.args.steps.now c.loop-step.step-index no_step c.loop-step-test.true)

pub returns-clause-means : goal.returns-clause-means
unfolding resolved
returns-clause-means c =
    let end = fold_end (after_step (known_view c.args.names.now)) empty_stack step_view c.args.steps.now c.loop-step.step-index c.loop-step-test.false in
    c.pop_rules.ensures.value ∙ ap (λ s. first_rules s.rules) (c.in_ok-finish_set.ensures ∙ ap finished (c.loop-step.invariant ∙ end))

pub returns-clause-shallow : goal.returns-clause-shallow
returns-clause-shallow c = omega (arith, rules_whole c.pop_rules.result.rules, c.pop_rules.result.flat.whole)
