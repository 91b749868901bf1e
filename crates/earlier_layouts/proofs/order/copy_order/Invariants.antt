use Rattle.std.proofs.Common.{◌≡◌}
use Rattle.earlier_layouts.specs.lemmas.CopyParts.{with_order}
use Rattle.table.specs.Frames.{IsRead, IsWritten}
use Rattle.earlier_layouts.proofs.order.copy_order.Given as goal

abbrev pub invariant-loop-place : goal.invariant-loop-place
invariant-loop-place g l = record {
  copied : g.B.Table.is_honest l.fn.to → g.B.Table.stored l.to ≡ with_order l.place (g.A.Table.stored l.fn.from);
  read : IsRead g.A.Table.stored g.A.Table.is_honest g.A.Table.counted g.A.Table.stays l.fn.from l.from;
  written : IsWritten g.B.Table.is_honest g.B.Table.counted g.B.Table.goes_on l.fn.to l.to;
}
