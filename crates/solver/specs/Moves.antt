-- The moves of a known position, and why they are not given; and the value of one that is found by its text.
use Rattle.std.specs.Prelude.{ℕ, List}
use Rattle.rbg_game.specs.Games.{Game}
use Rattle.rbg_read.specs.Reads.{Reads}
use Rattle.legal_moves.specs.Sources.{IsPositionBytes}
use Rattle.retrograde.specs.Stored.{view_of}
use Rattle.retrograde.specs.View.{HasNumber}
use Rattle.best_line.specs.declared.answers.Value.{Value}
use Rattle.best_line.specs.Moves.{AreKnownMoves}
use Rattle.best_line.specs.declared.known.KnownMoves.{KnownMoves}
use Rattle.game_file.specs.Kept.{Kept}
use Rattle.game_file.specs.State.{State}
use Rattle.solver.specs.declared.fault.SolverFault.{SolverFault}
use Rattle.solver.specs.declared.fault.SolverFault.TheVariants.{TooWide, Inconsistent}
use Rattle.solver.specs.Held.{wide_in}
use Rattle.solver.specs.Queries.{HasText, HasValueAt, Tells, NumberCause}
use Rattle.solver.specs.State.{IsOfOtherOrigin}

-- these are all moves of the position with this number, in the game that the text reads to, with what the table tells of each
pub record HasMoves (number : ℕ) (known : KnownMoves) (kept : Kept) : Type 0 where
  pub game : Game
  pub reads : Reads kept.text game
  pub moves : AreKnownMoves kept.packing game (view_of kept.table) number known

-- the position with this number is too wide
abbrev pub HasWideNumber : ℕ → Kept → Type 0
HasWideNumber number kept =
    (game : Game) → Reads kept.text game → (bytes : List ℕ) × HasNumber (view_of kept.table) number bytes × wide_in game kept bytes

-- what has this number is no position of the game
abbrev pub HasNoPosition : ℕ → Kept → Type 0
HasNoPosition number kept =
    (game : Game) → Reads kept.text game
    → (bytes : List ℕ) × HasNumber (view_of kept.table) number bytes × (¬ IsPositionBytes kept.packing game bytes)

-- why the moves are not given: those of a sound table may be refused as too wide, and never as inconsistent
abbrev pub MovesCause : ℕ → State → State → SolverFault → Type 0
MovesCause number old new TooWide = Tells (HasWideNumber number) old
MovesCause number old new Inconsistent = IsOfOtherOrigin old × Tells (HasNoPosition number) old
MovesCause number old new fault = NumberCause number old new fault

-- the position with this text has this value
pub record HasValueByText (text : List ℕ) (value : Value) (kept : Kept) : Type 0 where
  pub number : ℕ
  pub has_text : HasText number text kept
  pub has_value : HasValueAt number value kept
