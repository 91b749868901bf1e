-- What a listing has given, call by call.
use Rattle.std.proofs.Common.{ℕ, ◌+◌, List, [], ◌∷◌, length, subst, arith}
use Rattle.std.specs.Prelude.{IsTrue}
use Rattle.retrograde.specs.Stored.{Stored, IsTable, view_of}
use Rattle.best_line.specs.Rows.{AreRows}
use Rattle.best_line.proofs.RowLists.{rows_join}
use Rattle.game_file.specs.State.{State}
use Rattle.solver.specs.Listings.{Given, IsListed, asked_in, rows_in}

module _ {F Version : Type 0} (state : F → State) (IsVersion : Version → Stored (List ℕ) → F → Type 0) (version : Version)
    (table : Stored (List ℕ)) (fits : IsTable table) where
  -- no rows are those of none that were asked for
  no_rows : (place : ℕ) → AreRows (view_of table) place 0 []
  no_rows place = record { all = omega arith; numbers = λ k row at. cc; values = λ k row at. cc }

  -- from each place on
  pub all_listed : (given : List (Given F)) (file : F) (place : ℕ) → IsTrue (state file).disk.honest → IsVersion version table file
      → IsListed state IsVersion version file place given → AreRows (view_of table) place (asked_in given) (rows_in given)
  all_listed [] file place honest it listed = no_rows place
  all_listed (one ∷ rest) file place honest it (before, is, at, then) =
      let (still, here) = before table honest it in
      let (now, there) = is.kept table still here in
      let rows = subst (λ (p : ℕ). AreRows (view_of table) p one.count one.rows) at (is.rows_are table still fits here) in
      rows_join (view_of table) place one.count (asked_in rest) one.rows (rows_in rest) rows
      (all_listed rest one.new (place + length one.rows) now there then)
