-- What the lines of a session print of one listing.
use Rattle.std.specs.Prelude.{◌≡◌, ◌≢◌, ◌⊎◌, ◌+◌, ℕ, List, [], ◌++◌, length, Option}
use Rattle.std.specs.List.{flat_map}
use Rattle.rbg_game.specs.Games.{Game}
use Rattle.retrograde.specs.Stored.{Stored, view_of}
use Rattle.best_line.specs.declared.answers.Row.{Row}
use Rattle.best_line.specs.Rows.{AreRows}
use Rattle.game_file.specs.Kept.{Kept}
use Rattle.game_file.specs.State.{State}
use Rattle.session_lines.specs.Listed.{done_line}
use Rattle.session_lines.specs.Replies.{row_line}
use Rattle.solver.specs.Listings.{IsKeptOver}
use Rattle.solver.specs.Queries.{OfKept, IsGameOf}

-- what `next` printed: these rows of the table from this place on, a line each, with the players of the game that is loaded; or `done`, where none
-- is left
pub record IsNextPrinted (table : Stored (List ℕ)) (place next count : ℕ) (text : List ℕ) (rows : List Row) (kept : Option Kept) : Type 0 where
  pub are : AreRows (view_of table) place count rows
  pub next_is : next ≡ place + length rows
  pub text_is : ((rows ≡ []) × (text ≡ done_line))
      ⊎ ((rows ≢ []) × ((game : Game) × OfKept (IsGameOf game) kept × (text ≡ flat_map (row_line game) rows)))

module _ {F Version : Type 0} (state : F → State) (IsVersion : Version → Stored (List ℕ) → F → Type 0) (version : Version) (table : Stored (List ℕ)) where
  -- lines from this file and this place of the listing on: how many rows its lines `next` asked for, up to the first that was refused, and which
  -- rows they printed, one behind the other. Whatever lines come between keep the listing
  pub data ArePrinted : F → ℕ → ℕ → List Row → Type 0 where
    no_line : {file : F} {place : ℕ} → ArePrinted file place 0 []
    another_line : {old new : F} {place asked : ℕ} {rows : List Row} → IsKeptOver state IsVersion version old new → ArePrinted new place asked rows
        → ArePrinted old place asked rows
    its_next : {old new : F} {place next count asked : ℕ} {text : List ℕ} {here rows : List Row} → IsKeptOver state IsVersion version old new
        → IsNextPrinted table place next count text here (state old).kept → ArePrinted new next asked rows
        → ArePrinted old place (count + asked) (here ++ rows)
