-- What a session prints of one listing of a table.
use Rattle.std.specs.Prelude.{◌≡◌, ◌+◌, ℕ, List, ◌++◌, Option}
use Rattle.retrograde.specs.Stored.{Stored, view_of}
use Rattle.best_line.specs.Rows.{AreRows}
use Rattle.best_line.specs.declared.answers.Row.{Row}
use Rattle.game_file.specs.Kept.{Kept}
use Rattle.session_lines.specs.Printed.{IsNextPrinted}

-- two lines `next` of one listing have printed this text: the rows of the table from the first on, one behind the
-- other, as many as the two asked for or up to the last
pub record IsPrintedInTwo (table : Stored (List ℕ)) (first second : ℕ) (text : List ℕ) : Type 0 where
  pub one : List ℕ
  pub other : List ℕ
  pub here : List Row
  pub there : List Row
  pub next : ℕ
  pub end : ℕ
  pub at_first : Option Kept
  pub at_last : Option Kept
  pub begins : IsNextPrinted table 0 next first one here at_first
  pub ends : IsNextPrinted table next end second other there at_last
  pub are : AreRows (view_of table) 0 (first + second) (here ++ there)
  pub text_is : text ≡ one ++ other
