use Rattle.std.proofs.Common.{◌≡◌}
use Rattle.earlier_layouts.specs.lemmas.CopyParts.{HasGoneOn, with_positions}
use Rattle.table.specs.Frames.{IsRead}
use Rattle.earlier_layouts.proofs.positions.copy_positions.Given as goal

abbrev pub invariant-loop-number : goal.invariant-loop-number
invariant-loop-number g l = record {
  next : (g.B.Table.counted l.to).known ≡ l.number;
  copied : g.B.Table.is_honest l.fn.to → g.B.Table.stored l.to ≡ with_positions l.number (g.A.Table.stored l.fn.from);
  read : IsRead g.A.Table.stored g.A.Table.is_honest g.A.Table.counted g.A.Table.stays l.fn.from l.from;
  written : HasGoneOn g.B.Table.is_honest g.B.Table.goes_on l.fn.to l.to;
}
