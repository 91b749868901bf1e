use Rattle.std.proofs.Common.{◌≡◌, ◌+◌, ◌*◌, ◌-◌, ◌≤◌}
use Rattle.retrograde.specs.lemmas.ProcessSteps.{lowered_below}
use Rattle.table.specs.Frames.{IsWritten}
use Rattle.table.specs.declared.limits.TheConstants.{PAGES_PER_ENTRY}
use Rattle.frontier.specs.Entries.{edges_below}
use Rattle.settle.proofs.Bounds.{bound_of}
use Rattle.settle.proofs.lower.lower_all.Given as goal

abbrev pub invariant-loop-predecessor : goal.invariant-loop-predecessor
invariant-loop-predecessor g l = record {
  within : bound_of l.after ≤ (g.T.Table.counted l.fn.table).known;
  written : IsWritten g.T.Table.is_honest g.T.Table.counted g.T.Table.goes_on l.fn.table l.table;
  source : l.source ≡ l.fn.source;
  taken : g.T.Table.is_honest l.fn.table → g.T.Table.free l.fn.table
      ≤ g.T.Table.free l.table + PAGES_PER_ENTRY * (2 * edges_below (g.T.Table.stored l.fn.table) l.number (bound_of l.after));
  done : g.T.Table.is_honest l.fn.table → g.T.Table.stored l.table
      ≡ lowered_below (g.M.GameGraph.graph l.fn.source) l.number l.winner l.distance (bound_of l.after) (g.T.Table.stored l.fn.table);
}

abbrev pub decreases-loop-predecessor : goal.decreases-loop-predecessor
decreases-loop-predecessor g l = (g.T.Table.counted l.fn.table).known - bound_of l.after
