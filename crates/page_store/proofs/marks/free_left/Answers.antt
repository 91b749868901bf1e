use Rattle.std.proofs.Common.{◌≡◌, ◌<◌, ◌∙◌, ℕ, length, ap, arith}
use Rattle.std.proofs.lemmas.List.{length-set, get_or_default}
use Rattle.page_store.specs.declared.marks.Mark.{Mark}
use Rattle.page_store.specs.declared.marks.Mark.TheVariants.{Committed}
use Rattle.page_store.specs.Holds.{holders_at}
use Rattle.page_store.specs.Marks.{mark, left}
use Rattle.page_store.proofs.ChangedMarks.{each_done, each_ahead}
use Rattle.page_store.proofs.Unused.{each_upto, unused_left_same}
use Rattle.page_store.proofs.marks.free_left.Goals as goal

pub loop-page-preserved : goal.loop-page-preserved
loop-page-preserved c =
    let kept = c.loop-page.invariant in
    let f : ℕ → Mark → Mark = λ (p : ℕ) (m : Mark). left (holders_at c.args.holders.now p) m in
    let here : c.loop-page.page < length c.loop-page.marks.items = omega
    (arith, c.len.ensures, c.min-page-end.ensures, kept.same_length, c.loop-page-test.true) in
    let is : c.left.result ≡ f c.loop-page.page (mark c.args.marks.now.items c.loop-page.page) =
    c.left.ensures ∙ ap (f c.loop-page.page) (c.index.ensures ∙ get_or_default _ _ _ Committed here ∙ kept.ahead c.loop-page.page (omega arith)) in
    record {
      same_length = length-set _ _ _ ∙ kept.same_length;
      done = each_done Committed f _ _ _ _ here is kept.done kept.ahead;
      ahead = each_ahead Committed f _ _ _ _ here is kept.done kept.ahead;
    }

pub returns : goal.returns
returns c =
    let kept = c.loop-page.invariant in
    let f : ℕ → Mark → Mark = λ (p : ℕ) (m : Mark). left (holders_at c.args.holders.now p) m in
    record {
      same_length = kept.same_length;
      each = each_upto Committed f _ _ c.loop-page.page (λ p from. unused_left_same (holders_at c.args.holders.now p) _ _ c.requires.free p
          (omega (arith, from, c.len.ensures, c.min-page-end.ensures, c.loop-page-test.false))) kept.done kept.ahead;
    }
