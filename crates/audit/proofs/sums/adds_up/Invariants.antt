use Rattle.std.proofs.Common.{◌≡◌, ◌≤◌, ◌*◌, length, slice_get}
use Rattle.retrograde.specs.Stored.{IsTable, count_below}
use Rattle.audit.specs.lemmas.Conditions.{AreFloors, sum_below, successors_in}
use Rattle.audit.proofs.AnswerLemmas.{OwnSound}
use Rattle.table.specs.Frames.{IsRead}
use Rattle.audit.proofs.sums.adds_up.Given as goal

abbrev pub invariant-loop-number : goal.invariant-loop-number
invariant-loop-number g l = record {
  source : l.source ≡ l.fn.source;
  few_moves : l.moves ≤ l.number * 4294967295;
  few_edges : l.edges ≤ l.number * 4294967295;
  read : IsRead g.T.Table.stored g.T.Table.is_honest g.T.Table.counted g.T.Table.stays l.fn.table l.table;
  moves : g.T.Table.is_honest l.fn.table → l.moves ≡ sum_below l.number (λ i. successors_in (slice_get (g.T.Table.stored l.fn.table).records i));
  edges : g.T.Table.is_honest l.fn.table → l.edges ≡ sum_below l.number (λ i.
      count_below (length (g.T.Table.stored l.fn.table).positions) (λ p. (g.T.Table.stored l.fn.table).has_edge i p));
  sound : g.T.Table.is_honest l.fn.table → IsTable (g.T.Table.stored l.fn.table)
      → AreFloors (g.T.Table.stored l.fn.table) (length (g.T.Table.stored l.fn.table).order) l.floors
      → OwnSound (g.M.GameGraph.graph l.fn.source) (g.M.GameGraph.is_wide l.fn.source) (g.T.Table.stored l.fn.table) l.number;
}
