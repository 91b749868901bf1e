use Rattle.std.proofs.Common.{◌≡◌, ◌-◌, ◌≤◌}
use Rattle.earlier_layouts.proofs.Bounds.{bound_of, edges_to}
use Rattle.table.specs.Frames.{IsRead, IsWritten}
use Rattle.earlier_layouts.proofs.edges.copy_edges_to.Given as goal

abbrev pub invariant-loop-predecessor : goal.invariant-loop-predecessor
invariant-loop-predecessor g l = record {
  within : bound_of l.after ≤ (g.A.Table.counted l.fn.from).known;
  copied : g.B.Table.is_honest l.fn.to → g.B.Table.stored l.to ≡ edges_to l.successor (bound_of l.after) (g.A.Table.stored l.fn.from);
  read : IsRead g.A.Table.stored g.A.Table.is_honest g.A.Table.counted g.A.Table.stays l.fn.from l.from;
  written : IsWritten g.B.Table.is_honest g.B.Table.counted g.B.Table.goes_on l.fn.to l.to;
}

abbrev pub decreases-loop-predecessor : goal.decreases-loop-predecessor
decreases-loop-predecessor g l = (g.A.Table.counted l.fn.from).known - bound_of l.after
