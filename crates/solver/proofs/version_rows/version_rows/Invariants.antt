use Rattle.std.proofs.Common.{◌≡◌, ◌+◌, ℕ, List, Some, length, slice_get}
use Rattle.std.specs.Prelude.{IsTrue}
use Rattle.retrograde.specs.Stored.{Stored, IsTable, view_of}
use Rattle.best_line.specs.declared.answers.Row.{Row}
use Rattle.best_line.specs.Values.{IsValue}
use Rattle.solver.proofs.version_rows.version_rows.Given as goal

abbrev pub invariant-loop-number : goal.invariant-loop-number
invariant-loop-number g l = record {
  stays : g.F.Table.stays l.fn.file l.file;
  lengths : l.from + length l.rows.items ≡ l.number;
  numbers : (k : ℕ) (row : Row) → slice_get l.rows.items k ≡ Some row → row.number ≡ l.from + k;
  values : IsTrue (g.F.GameFile.state l.fn.file).disk.honest → (table : Stored (List ℕ)) → IsTable table
      → g.F.Versions.is_version l.version table l.fn.file
      → (k : ℕ) (row : Row) → slice_get l.rows.items k ≡ Some row → IsValue (view_of table) row.number row.value;
}
