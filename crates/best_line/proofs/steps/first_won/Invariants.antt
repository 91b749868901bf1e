use Rattle.std.proofs.Common.{◌≡◌, ◌<◌, ℕ, List, Some, slice_get}
use Rattle.table.specs.Memory.{bytes_of_each}
use Rattle.retrograde.specs.View.{HasValue}
use Rattle.retrograde.specs.Stored.{IsTable, view_of}
use Rattle.table.specs.Frames.{IsRead}
use Rattle.best_line.proofs.steps.first_won.Given as goal

abbrev pub invariant-loop-position : goal.invariant-loop-position
invariant-loop-position g l = record {
  read : IsRead g.T.Table.stored g.T.Table.is_honest g.T.Table.counted g.T.Table.stays l.fn.table l.table;
  passed : g.T.Table.is_honest l.fn.table → IsTable (g.T.Table.stored l.fn.table)
      → (k : ℕ) (y : List ℕ) → k < l.position-index → slice_get (bytes_of_each l.positions) k ≡ Some y
      → HasValue (view_of (g.T.Table.stored l.fn.table)) y l.winner l.distance → ⊥;
}
