use Rattle.std.proofs.Common.{◌≡◌, ◌<◌, ◌∙◌, ℕ, false, length, ap, arith}
use Rattle.std.proofs.lemmas.List.{length-set, get_or_default}
use Rattle.page_store.specs.declared.holds.Holders.{Holders}
use Rattle.page_store.specs.Holds.{holders_at, none, with_need}
use Rattle.page_store.proofs.ChangedMarks.{each_done, each_ahead}
use Rattle.page_store.proofs.Unused.{each_upto, unheld_from, unheld_same}
use Rattle.page_store.proofs.marks.end_hold.Goals as goal

pub loop-page-preserved : goal.loop-page-preserved
loop-page-preserved c =
    let kept = c.loop-page.invariant in
    let f : ℕ → Holders → Holders = λ (p : ℕ) (h : Holders). with_need h c.args.place false in
    let here : c.loop-page.page < length c.loop-page.holders.items = omega
    (arith, c.len.ensures, c.min-page-end.ensures, kept.same_length, c.loop-page-test.true) in
    let is : c.with.result ≡ f c.loop-page.page (holders_at c.args.holders.now.items c.loop-page.page) =
    c.with.ensures
    ∙ ap (λ (h : Holders). with_need h c.args.place false) (c.index.ensures ∙ get_or_default _ _ _ none here ∙ kept.ahead c.loop-page.page (omega arith)) in
    record {
      same_length = length-set _ _ _ ∙ kept.same_length;
      done = each_done none f _ _ _ _ here is kept.done kept.ahead;
      ahead = each_ahead none f _ _ _ _ here is kept.done kept.ahead;
    }

pub returns-clause-each : goal.returns-clause-each
returns-clause-each c =
    let kept = c.loop-page.invariant in
    let f : ℕ → Holders → Holders = λ (p : ℕ) (h : Holders). with_need h c.args.place false in
    each_upto none f _ _ c.loop-page.page (λ p from. unheld_same c.args.place _ (unheld_from _ _ c.requires p
    (omega (arith, from, c.len.ensures, c.min-page-end.ensures, c.loop-page-test.false)))) kept.done kept.ahead
