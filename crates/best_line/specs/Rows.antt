-- What a list of rows says of the table.
use Rattle.std.specs.Prelude.{◌≡◌, ◌+◌, ◌-◌, ℕ, List, Some, length, min, slice_get}
use Rattle.retrograde.specs.View.{View}
use Rattle.best_line.specs.declared.answers.Row.{Row}
use Rattle.best_line.specs.Values.{IsValue}

-- these are the rows of the numbers from the given one on, ascending: this many, or up to the last known one
pub record AreRows {P : Type 0} (view : View P) (from count : ℕ) (rows : List Row) : Type 0 where
  pub all : length rows ≡ min count (length view.known - from)
  pub numbers : (k : ℕ) (row : Row) → slice_get rows k ≡ Some row → row.number ≡ from + k
  pub values : (k : ℕ) (row : Row) → slice_get rows k ≡ Some row → IsValue view row.number row.value
