-- The rows that a session prints of one listing are those of its table.
use Rattle.std.specs.Prelude.{ℕ, List, [], Option, None, Some, IsTrue}
use Rattle.std.proofs.Common.{refl, subst, inl, inr, arith}
use Rattle.retrograde.specs.Stored.{Stored, view_of}
use Rattle.best_line.specs.declared.answers.Row.{Row}
use Rattle.best_line.specs.Rows.{AreRows}
use Rattle.best_line.proofs.RowLists.{rows_join}
use Rattle.game_file.specs.Kept.{Kept}
use Rattle.game_file.specs.State.{State}
use Rattle.session_lines.specs.Listed.{IsNextText}
use Rattle.session_lines.specs.Printed.{IsNextPrinted, ArePrinted, no_line, another_line, its_next}

-- what an answered `next` prints are rows
pub next_printed : (table : Stored (List ℕ)) (place next count : ℕ) (text : List ℕ) (kept : Option Kept) → IsNextText table place next count text kept
    → (rows : List Row) × IsNextPrinted table place next count text rows kept
next_printed table place next count text kept (inl (are, same, is_done)) =
    ([], record { are = are; next_is = omega (arith, same); text_is = inl (refl, is_done) })
next_printed table place next count text None (inr told) = absurd told
next_printed table place next count text (Some kept) (inr told) =
    (told.rows, record { are = told.are; next_is = told.next_is; text_is = inr (told.some, (told.game, told.of_game, told.text_is)) })

module _ {F Version : Type 0} (state : F → State) (IsVersion : Version → Stored (List ℕ) → F → Type 0) (version : Version) (table : Stored (List ℕ)) where
  pub printed_rows : {file : F} {place asked : ℕ} {rows : List Row} → ArePrinted state IsVersion version table file place asked rows
      → IsTrue (state file).disk.honest → IsVersion version table file → AreRows (view_of table) place asked rows
  printed_rows no_line honest it = record { all = omega arith; numbers = λ k row at. cc; values = λ k row at. cc }
  printed_rows (another_line over rest) honest it = let (still, there) = over table honest it in printed_rows rest still there
  printed_rows (its_next {old} {new} {place} {next} {count} {asked} {text} {here} {rows} over printed rest) honest it =
      let (still, there) = over table honest it in
      let later = subst (λ (n : ℕ). AreRows (view_of table) n asked rows) printed.next_is (printed_rows rest still there) in
      rows_join (view_of table) place count asked here rows printed.are later
