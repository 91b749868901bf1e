use Rattle.std.proofs.Common.{rules, sym, ◌∙◌}
use Rattle.table.proofs.OrderMarks.{in_some, parts_if}
use Rattle.table.proofs.fitting.parts_fit.Goals as goal

pub returns-in-Some : goal.returns-in-Some
returns-in-Some c =
    parts_if c.args.expanded c.args.processed c.args.records.now c.args.order.now c.deref.result.now c.all_listed.result
    (search rules) (c.records_fit.ensures.0 c.if-not-records_fit.false) (sym c.if-settled_count-order.false ∙ c.settled_count.ensures)
    (rw c.deref.ensures.value (in_some _ _ _ c.in-Some.is c.in_ok-marks.ensures.fits))
    (rw c.deref.ensures.value (in_some _ _ _ c.in-Some.is c.in_ok-marks.ensures.marks))
    c.all_listed.ensures
