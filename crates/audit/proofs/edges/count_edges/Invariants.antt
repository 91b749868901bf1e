use Rattle.std.proofs.Common.{◌≡◌, ◌≤◌}
use Rattle.retrograde.specs.Stored.{count_below}
use Rattle.audit.proofs.EdgeLemmas.{bound_of}
use Rattle.table.specs.Frames.{IsRead}
use Rattle.audit.proofs.edges.count_edges.Given as goal

abbrev pub invariant-loop-count : goal.invariant-loop-count
invariant-loop-count g l = record {
  few : l.count ≤ bound_of l.after;
  within : bound_of l.after ≤ (g.T.Table.counted l.fn.table).known;
  read : IsRead g.T.Table.stored g.T.Table.is_honest g.T.Table.counted g.T.Table.stays l.fn.table l.table;
  counted : g.T.Table.is_honest l.fn.table → l.count ≡ count_below (bound_of l.after) (λ p. (g.T.Table.stored l.fn.table).has_edge l.to p);
}
