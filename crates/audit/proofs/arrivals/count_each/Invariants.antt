use Rattle.std.proofs.Common.{◌≡◌, ℕ, List, true, length}
use Rattle.std.specs.Prelude.{AllPairs, ◌≢◌}
use Rattle.retrograde.specs.View.{HasNumber}
use Rattle.retrograde.specs.Stored.{IsTable, view_of}
use Rattle.table.specs.Memory.{bytes_of_each}
use Rattle.audit.specs.lemmas.Edges.{CountsIf}
use Rattle.audit.proofs.ArrivalLemmas.{IsBefore}
use Rattle.table.specs.Frames.{IsRead}
use Rattle.audit.proofs.arrivals.count_each.Given as goal

abbrev pub invariant-loop-position : goal.invariant-loop-position
invariant-loop-position g l = record {
  lengths : length l.arrivals.items ≡ length l.fn.arrivals.items;
  read : IsRead g.T.Table.stored g.T.Table.is_honest g.T.Table.counted g.T.Table.stays l.fn.table l.table;
  counted : g.T.Table.is_honest l.fn.table → IsTable (g.T.Table.stored l.fn.table) → AllPairs ◌≢◌ (bytes_of_each l.positions)
      → (i : ℕ) (x : List ℕ) → HasNumber (view_of (g.T.Table.stored l.fn.table)) i x
      → CountsIf (IsBefore (bytes_of_each l.positions) l.position-index x × ((g.T.Table.stored l.fn.table).has_edge i l.from ≡ true))
      l.fn.arrivals.items l.arrivals.items i;
}
