use Rattle.std.proofs.Common.{◌∙◌, ◌∷◌, [], inl, inr, ap, arith, List, length, length-append, sym, ℕ, ◌≤◌}
use Rattle.page_store.specs.declared.marks.Mark.{Mark}
use Rattle.page_store.specs.Holds.{holders_at}
use Rattle.page_store.specs.Marks.{mark, committed}
use Rattle.page_store.proofs.Growth.{mark_more}
use Rattle.page_store.proofs.marks.grown_marks.Goals as goal

pub loop-page-preserved : goal.loop-page-preserved
loop-page-preserved c =
    let so_far = c.loop-page.invariant in
    let items = c.in_ok-push.ensures.items in
    record {
      size = ap (λ (ms : List Mark). length ms) items ∙ length-append c.loop-page.grown.items (c.grown_mark.result ∷ []) ∙ omega (arith, so_far.size);
      each = λ p below within. ap (λ (ms : List Mark). mark ms p) items
          ∙ elim (mark_more c.loop-page.grown.items c.grown_mark.result c.loop-page.page p so_far.size below) [
            | inl before ↦ before.1 ∙ so_far.each p before.0 within
            | inr here ↦ here.1 ∙ c.grown_mark.ensures.each (omega (arith, here.0, within))
                ∙ ap (λ (k : ℕ). committed (holders_at c.args.holders.now k) (mark c.args.marks.now k)) (sym here.0)
          ];
      added = λ p below past. ap (λ (ms : List Mark). mark ms p) items
          ∙ elim (mark_more c.loop-page.grown.items c.grown_mark.result c.loop-page.page p so_far.size below) [
            | inl before ↦ before.1 ∙ so_far.added p before.0 past
            | inr here ↦ here.1 ∙ c.grown_mark.ensures.added (omega (arith, here.0, past))
          ];
    }

pub returns : goal.returns
returns c =
    let done : c.args.pages ≤ c.loop-page.page = omega (arith, c.loop-page-test.false) in
    let most : c.loop-page.page ≤ c.args.pages = omega (arith, c.loop-page.auto.page-end) in
    record {
      long = omega (arith, c.loop-page.invariant.size, done, most);
      each = λ p within. c.loop-page.invariant.each p (omega (arith, within, c.requires.many, done)) within;
      added = λ p past below. c.loop-page.invariant.added p (omega (arith, below, done)) past;
    }
