use Rattle.std.proofs.Common.{◌≡◌, ◌<◌, ◌≤◌, ◌∙◌, inl, inr, ℕ, Bool, length, min, ap, sym, arith}
use Rattle.std.proofs.lemmas.List.{length-set, get_or_default}
use Rattle.std.proofs.lemmas.Bool.{cases_lt}
use Rattle.page_store.specs.declared.holds.Holders.{Holders}
use Rattle.page_store.specs.Holds.{holders_at, none, with_need}
use Rattle.page_store.specs.Marks.{mark, is_rooted}
use Rattle.page_store.proofs.ChangedMarks.{each_done, each_ahead}
use Rattle.page_store.proofs.Unused.{unheld_same}
use Rattle.page_store.proofs.marks.take_hold.Goals as goal

pub loop-page-preserved : goal.loop-page-preserved
loop-page-preserved c =
    let kept = c.loop-page.invariant in
    let f : ℕ → Holders → Holders = λ (p : ℕ) (h : Holders). with_need h c.args.place (is_rooted (mark c.args.marks.now p)) in
    let here : c.loop-page.page < length c.loop-page.holders.items = omega
    (arith, c.len.ensures, c.min-page-end.ensures, kept.same_length, c.loop-page-test.true) in
    let is : c.with.result ≡ f c.loop-page.page (holders_at c.args.holders.now.items c.loop-page.page) =
    c.with.ensures
    ∙ ap (λ (h : Holders). with_need h c.args.place c.is_rooted.result)
    (c.index.ensures ∙ get_or_default _ _ _ none here ∙ kept.ahead c.loop-page.page (omega arith))
    ∙ ap (λ (b : Bool). with_need (holders_at c.args.holders.now.items c.loop-page.page) c.args.place b) c.is_rooted.ensures in
    record {
      same_length = length-set _ _ _ ∙ kept.same_length;
      done = each_done none f _ _ _ _ here is kept.done kept.ahead;
      ahead = each_ahead none f _ _ _ _ here is kept.done kept.ahead;
    }

pub returns-clause-each : goal.returns-clause-each
returns-clause-each c = λ p low.
    let kept = c.loop-page.invariant in
    elim (cases_lt p c.loop-page.page) [
      | inl done ↦ kept.done p done
      | inr ahead ↦
          let from : min c.args.high (length c.args.marks.now) ≤ p =
          omega (arith, ahead, c.requires.same_length, c.len.ensures, c.min-page-end.ensures, c.loop-page-test.false) in
          let unrooted = ap is_rooted (c.requires.free.each p (omega (arith, from, low)) low) in
          kept.ahead p ahead ∙ sym (ap (λ (b : Bool). with_need (holders_at c.args.holders.now.items p) c.args.place b) unrooted
          ∙ unheld_same c.args.place _ (c.requires.unheld p (omega (arith, from, low))))
    ]
