use Rattle.std.proofs.Common.{rules, ap, sym, map, ◌∙◌, arith}
use Rattle.std.specs.Prelude.{sum_by}
use Rattle.std.proofs.lemmas.List.{take_all}
use Rattle.rbg_game.specs.Rules.{count, cat_all, alt_all}
use Rattle.rbg_game.specs.Meaning.{regex_of}
use Rattle.rbg_game.specs.declared.rules.Rules.{the_lemmas}
use Rattle.rbg_game.proofs.MeaningLemmas.{regex_of-Concat, regex_of-Sum}
use Rattle.rbg_game.proofs.CountLemmas.{actions, cats_count, alts_count, within}
use Rattle.rbg_game.proofs.count.+action_count.Goals as goal

pub action_count-total-requires : goal.action_count-total-requires
action_count-total-requires t c =
    let items = c.deref-part-items.result.now in
    let whole = sym (cats_count items) ∙ ap (λ xs. count (cat_all (map regex_of xs))) c.deref-part-items.ensures.value
    ∙ sym (ap count (regex_of-Concat c.in-Concat.parts)) ∙ sym (ap actions c.in-Concat.is) in
    (search (rules, the_lemmas), omega (arith, within items c.loop-part.part-index c.part-item.result _ c.loop-part-test.true c.part-item.is whole, c.requires))

pub overflow_add-total : goal.overflow_add-total
overflow_add-total t c =
    let items = c.deref-part-items.result.now in
    let whole = sym (cats_count items) ∙ ap (λ xs. count (cat_all (map regex_of xs))) c.deref-part-items.ensures.value
    ∙ sym (ap count (regex_of-Concat c.in-Concat.parts)) ∙ sym (ap actions c.in-Concat.is) in
    omega (
      arith,
      within items c.loop-part.part-index c.part-item.result _ c.loop-part-test.true c.part-item.is whole,
      c.requires,
      c.loop-part.invariant,
      c.action_count-total.ensures,
    )

pub returns-after-loop-part : goal.returns-after-loop-part
returns-after-loop-part t c =
    let items = c.deref-part-items.result.now in
    let whole = sym (cats_count items) ∙ ap (λ xs. count (cat_all (map regex_of xs))) c.deref-part-items.ensures.value
    ∙ sym (ap count (regex_of-Concat c.in-Concat.parts)) ∙ sym (ap actions c.in-Concat.is) in
    let all = take_all c.loop-part.part-index items (omega arith) in
    c.loop-part.invariant ∙ ap (sum_by actions) all ∙ whole

pub action_count-total-requires-in-loop-branch : goal.action_count-total-requires-in-loop-branch
action_count-total-requires-in-loop-branch t c =
    let items = c.deref-branch-items.result.now in
    let whole = sym (alts_count items) ∙ ap (λ xs. count (alt_all (map regex_of xs))) c.deref-branch-items.ensures.value
    ∙ sym (ap count (regex_of-Sum c.in-Sum.branches)) ∙ sym (ap actions c.in-Sum.is) in (
      search (rules, the_lemmas),
      omega
          (arith, within items c.loop-branch.branch-index c.branch-item.result _ c.loop-branch-test.true c.branch-item.is whole, c.requires),
    )

pub overflow_add-total-in-loop-branch : goal.overflow_add-total-in-loop-branch
overflow_add-total-in-loop-branch t c =
    let items = c.deref-branch-items.result.now in
    let whole = sym (alts_count items) ∙ ap (λ xs. count (alt_all (map regex_of xs))) c.deref-branch-items.ensures.value
    ∙ sym (ap count (regex_of-Sum c.in-Sum.branches)) ∙ sym (ap actions c.in-Sum.is) in
    omega (
      arith,
      within items c.loop-branch.branch-index c.branch-item.result _ c.loop-branch-test.true c.branch-item.is whole,
      c.requires,
      c.loop-branch.invariant,
      c.action_count-total-in-loop-branch.ensures,
    )

pub returns-after-loop-branch : goal.returns-after-loop-branch
returns-after-loop-branch t c =
    let items = c.deref-branch-items.result.now in
    let whole = sym (alts_count items) ∙ ap (λ xs. count (alt_all (map regex_of xs))) c.deref-branch-items.ensures.value
    ∙ sym (ap count (regex_of-Sum c.in-Sum.branches)) ∙ sym (ap actions c.in-Sum.is) in
    let all = take_all c.loop-branch.branch-index items (omega arith) in
    c.loop-branch.invariant ∙ ap (sum_by actions) all ∙ whole
