use Rattle.std.proofs.Common.{get_or, [], Some, None, refl, sym, ap, ◌∙◌, not, is_some}
use Rattle.std.proofs.lemmas.Bool.{cond-true, cond-false}
use Rattle.rbg_text.specs.View.{step_view}
use Rattle.rbg_read.specs.lemmas.Flat.{is_large_number}
use Rattle.rbg_read.specs.lemmas.Parts.{known_view}
use Rattle.rbg_read.specs.lemmas.Sizes.{next_sizes, has_large_size}
use Rattle.rbg_read.proofs.Defaults.{no_step}
use Rattle.rbg_read.proofs.Lists.{fold_turn, fold_stops, fold_end, none_at}
use Rattle.rbg_read.proofs.sizes.has_large_size.Goals as goal

pub step_on-requires-clause-within : goal.step_on-requires-clause-within
step_on-requires-clause-within c = none_at is_large_number step_view c.args.steps.now c.loop-step.step-index no_step c.loop-step-test.true c.requires.within

pub returns-then-branch : goal.returns-then-branch
unfolding has_large_size
returns-then-branch c =
    let next = next_sizes (known_view c.args.names.now).values c.args.bounds.now in
    let bad = c.in_ok-step_on.ensures ∙ cond-true _ _ _ c.if-branch.true in
    let stop = fold_stops next None (λ y. refl) (Some []) step_view c.args.steps.now c.loop-step.step-index no_step c.loop-step-test.true
    (ap (λ o. next o (step_view (get_or c.args.steps.now c.loop-step.step-index no_step))) c.loop-step.invariant ∙ bad) in
    ap (λ o. not (is_some o)) (sym stop)

pub loop-step-preserved : goal.loop-step-preserved
loop-step-preserved c =
    let next = next_sizes (known_view c.args.names.now).values c.args.bounds.now in
    let good = c.in_ok-step_on.ensures ∙ cond-false _ _ _ c.if-branch.false in
    fold_turn next (Some []) step_view c.args.steps.now c.loop-step.step-index no_step c.loop-step-test.true
    ∙ (ap (λ o. next o (step_view (get_or c.args.steps.now c.loop-step.step-index no_step))) c.loop-step.invariant ∙ good)

pub returns : goal.returns
unfolding has_large_size
returns c =
    let next = next_sizes (known_view c.args.names.now).values c.args.bounds.now in
    let end = fold_end next (Some []) step_view c.args.steps.now c.loop-step.step-index c.loop-step-test.false in
    ap (λ o. not (is_some o)) (sym (sym end ∙ c.loop-step.invariant))
