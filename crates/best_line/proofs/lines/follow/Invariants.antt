use Rattle.std.proofs.Common.{◌≡◌, ◌-◌, ◌<◌, Some, slice_get}
use Rattle.retrograde.specs.Stored.{IsTable, view_of}
use Rattle.best_line.specs.Lines.{IsLineTo}
use Rattle.table.specs.Frames.{IsRead}
use Rattle.best_line.proofs.lines.follow.Given as goal

abbrev pub invariant-loop-step : goal.invariant-loop-step
invariant-loop-step g l = record {
  known : l.at < (g.T.Table.counted l.fn.table).known;
  source : l.source ≡ l.fn.source;
  read : IsRead g.T.Table.stored g.T.Table.is_honest g.T.Table.counted g.T.Table.stays l.fn.table l.table;
  begins : slice_get l.numbers.items 0 ≡ Some l.fn.number;
  line : g.T.Table.is_honest l.fn.table → IsTable (g.T.Table.stored l.fn.table)
      → (view_of (g.T.Table.stored l.fn.table)).value l.fn.number ≡ Some (l.winner, l.distance)
      → IsLineTo (g.M.GameGraph.graph l.fn.source) (view_of (g.T.Table.stored l.fn.table)) l.winner l.distance l.numbers.items l.at (l.distance - l.step);
}
