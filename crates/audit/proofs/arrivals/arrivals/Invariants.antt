use Rattle.std.proofs.Common.{◌≡◌, length}
use Rattle.retrograde.specs.Stored.{IsTable}
use Rattle.audit.specs.lemmas.Edges.{AreArrivals}
use Rattle.table.specs.Frames.{IsRead}
use Rattle.audit.proofs.arrivals.arrivals.Given as goal

abbrev pub invariant-loop-from : goal.invariant-loop-from
invariant-loop-from g l = record {
  source : l.source ≡ l.fn.source;
  lengths : length l.arrivals.items ≡ (g.T.Table.counted l.fn.table).known;
  read : IsRead g.T.Table.stored g.T.Table.is_honest g.T.Table.counted g.T.Table.stays l.fn.table l.table;
  arrivals : g.T.Table.is_honest l.fn.table → IsTable (g.T.Table.stored l.fn.table)
      → AreArrivals (g.M.GameGraph.graph l.fn.source) (g.T.Table.stored l.fn.table) l.from l.arrivals.items;
}
