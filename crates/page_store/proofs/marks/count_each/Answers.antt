use Rattle.std.proofs.Common.{◌∙◌, get_or, ap, arith}
use Rattle.std.proofs.lemmas.List.{take_more}
use Rattle.page_store.specs.declared.marks.Mark.TheVariants.{Committed}
use Rattle.page_store.specs.Marks.{free_count}
use Rattle.page_store.proofs.ChangedMarks.{free_count-more, one_at_most}
use Rattle.page_store.proofs.marks.count_each.Goals as goal

pub loop-mark-preserved : goal.loop-mark-preserved
loop-mark-preserved c =
    let more = ap free_count (take_more c.args.marks.now c.loop-mark.mark-index Committed c.loop-mark-test.true) ∙ free_count-more _ _ in
    record {
      is = omega (arith, more, c.loop-mark.invariant.is, c.free_one-count.ensures);
      below = omega (arith, c.loop-mark.invariant.below, c.free_one-count.ensures, one_at_most (get_or c.args.marks.now c.loop-mark.mark-index Committed));
    }
