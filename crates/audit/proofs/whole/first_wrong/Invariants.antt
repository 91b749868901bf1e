use Rattle.std.proofs.Common.{◌≡◌, length}
use Rattle.retrograde.specs.Stored.{IsTable, expanded_count}
use Rattle.audit.specs.lemmas.Conditions.{AreFloors}
use Rattle.audit.specs.lemmas.Edges.{AreArrivals}
use Rattle.audit.proofs.AnswerLemmas.{AreSound}
use Rattle.table.specs.Frames.{IsRead}
use Rattle.audit.proofs.whole.first_wrong.Given as goal

abbrev pub invariant-loop-number : goal.invariant-loop-number
invariant-loop-number g l = record {
  source : l.source ≡ l.fn.source;
  read : IsRead g.T.Table.stored g.T.Table.is_honest g.T.Table.counted g.T.Table.stays l.fn.table l.table;
  sound : g.T.Table.is_honest l.fn.table → IsTable (g.T.Table.stored l.fn.table)
      → AreFloors (g.T.Table.stored l.fn.table) (length (g.T.Table.stored l.fn.table).order) l.floors
      → AreArrivals (g.M.GameGraph.graph l.fn.source) (g.T.Table.stored l.fn.table) (expanded_count (g.T.Table.stored l.fn.table)) l.arrivals
      → AreSound (g.M.GameGraph.graph l.fn.source) (g.M.GameGraph.is_wide l.fn.source) (g.T.Table.stored l.fn.table) l.number;
}
