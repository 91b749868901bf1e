use Rattle.std.proofs.Common.{◌≡◌, ◌+◌, ℕ, Some, length, slice_get}
use Rattle.retrograde.specs.Stored.{IsTable, view_of}
use Rattle.table.specs.Frames.{IsRead}
use Rattle.best_line.specs.declared.answers.Row.{Row}
use Rattle.best_line.specs.Values.{IsValue}
use Rattle.best_line.proofs.rows.list.Given as goal

abbrev pub invariant-loop-number : goal.invariant-loop-number
invariant-loop-number g l = record {
  read : IsRead g.T.Table.stored g.T.Table.is_honest g.T.Table.counted g.T.Table.stays l.fn.table l.table;
  lengths : l.from + length l.rows.items ≡ l.number;
  numbers : (k : ℕ) (row : Row) → slice_get l.rows.items k ≡ Some row → row.number ≡ l.from + k;
  values : g.T.Table.is_honest l.fn.table → IsTable (g.T.Table.stored l.fn.table)
      → (k : ℕ) (row : Row) → slice_get l.rows.items k ≡ Some row → IsValue (view_of (g.T.Table.stored l.fn.table)) row.number row.value;
}
