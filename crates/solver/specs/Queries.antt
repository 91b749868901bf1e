-- What is asked of a solver, what it answers, and why not.
use Rattle.std.specs.Prelude.{◌≡◌, ◌<◌, ◌≤◌, ℕ, List, length, true, false, Option, None, Some, IsTrue, IfSome}
use Rattle.sector_disk.specs.Disk.{Grew}
use Rattle.rbg_game.specs.Games.{Game}
use Rattle.rbg_read.specs.Reads.{Reads}
use Rattle.retrograde.specs.Stored.{view_of}
use Rattle.retrograde.specs.View.{HasNumber}
use Rattle.game_table.specs.Texts.{IsText}
use Rattle.best_line.specs.declared.answers.Value.{Value}
use Rattle.best_line.specs.declared.answers.Row.{Row}
use Rattle.best_line.specs.Values.{IsValue}
use Rattle.best_line.specs.Rows.{AreRows}
use Rattle.best_line.specs.Lines.{IsBestPlay, IsToldLine, BreaksOff, MeetsWide}
use Rattle.game_file.specs.Kept.{Kept}
use Rattle.game_file.specs.State.{State}
use Rattle.solver.specs.declared.fault.SolverFault.{SolverFault}
use Rattle.solver.specs.declared.fault.SolverFault.TheVariants.{Disk, Damaged, OutOfMemory, Closed, NoGame, TooWide, Inconsistent}
use Rattle.solver.specs.declared.fault.SolverFault.TheVariants.{NoSuchPosition, NotSettled, BadPosition}
use Rattle.solver.specs.Held.{graph_in, wide_in}
use Rattle.solver.specs.State.{IsOfOtherOrigin}

-- a game is loaded, and this holds of what is kept
abbrev pub OfKept : (Kept → Type 0) → Option Kept → Type 0
OfKept Such None = ⊥
OfKept Such (Some kept) = Such kept

-- it is so of the table that a state keeps, where the disk is honest
abbrev pub Tells : (Kept → Type 0) → State → Type 0
Tells Such state = IsTrue state.disk.honest → OfKept Such state.kept

-- the number is that of a known position
abbrev pub IsThere : ℕ → Kept → Type 0
IsThere number kept = number < length kept.table.positions

-- the text of what is kept reads to this game
abbrev pub IsGameOf : Game → Kept → Type 0
IsGameOf game kept = Reads kept.text game

-- the position with this number has this value
pub record HasValueAt (number : ℕ) (value : Value) (kept : Kept) : Type 0 where
  pub there : IsThere number kept
  pub value_is : IsValue (view_of kept.table) number value

-- these are the rows from this number on: this many, or up to the last
pub record HasRows (from count : ℕ) (rows : List Row) (kept : Kept) : Type 0 where
  pub there : IsThere from kept
  pub rows_are : AreRows (view_of kept.table) from count rows

-- the numbers are a best line from this one by the moves of the game
abbrev pub HasLine : ℕ → List ℕ → Kept → Type 0
HasLine number numbers kept = (game : Game) → Reads kept.text game → IsBestPlay (graph_in game kept) (view_of kept.table) number numbers

-- the numbers are the line that the table tells from this one to its end, whether or not what it tells is so
abbrev pub HasToldLine : ℕ → List ℕ → Kept → Type 0
HasToldLine number numbers kept = (game : Game) → Reads kept.text game → IsToldLine (graph_in game kept) (view_of kept.table) number numbers

-- the line that the table tells from this number comes to one from which no move leads to where the same player wins in one fewer
abbrev pub HasBrokenLine : ℕ → Kept → Type 0
HasBrokenLine number kept = (game : Game) → Reads kept.text game → BreaksOff (graph_in game kept) (view_of kept.table) number

-- it comes to one whose position is too wide
abbrev pub HasWideLine : ℕ → Kept → Type 0
HasWideLine number kept = (game : Game) → Reads kept.text game → MeetsWide (graph_in game kept) (wide_in game kept) (view_of kept.table) number

-- the position with this number has this text
pub record HasText (number : ℕ) (text : List ℕ) (kept : Kept) : Type 0 where
  pub game : Game
  pub reads : Reads kept.text game
  pub bytes : List ℕ
  pub number_is : HasNumber (view_of kept.table) number bytes
  pub text_is : IsText kept.packing game bytes text

-- the text is that of a position of the game which is not known
pub record IsOfUnknown (text : List ℕ) (kept : Kept) : Type 0 where
  pub game : Game
  pub reads : Reads kept.text game
  pub bytes : List ℕ
  pub text_is : IsText kept.packing game bytes text
  pub unknown : (number : ℕ) → ¬ HasNumber (view_of kept.table) number bytes

-- the text is that of a position of the game
pub record IsOfSome (text : List ℕ) (kept : Kept) : Type 0 where
  pub game : Game
  pub reads : Reads kept.text game
  pub bytes : List ℕ
  pub text_is : IsText kept.packing game bytes text

-- the text is that of no position of the game
pub record IsOfNone (text : List ℕ) (kept : Kept) : Type 0 where
  pub game : Game
  pub reads : Reads kept.text game
  pub none : (bytes : List ℕ) → ¬ IsText kept.packing game bytes text

-- why no question can be asked: the disk failed, or is not honest, memory is short, the solver is closed, or no game is loaded
abbrev pub AskCause : State → State → SolverFault → Type 0
AskCause old new Disk = Grew old.failures new.failures
AskCause old new Damaged = ¬ IsTrue old.disk.honest
AskCause old new OutOfMemory = Unit {0}
AskCause old new Closed = old.closed ≡ true
AskCause old new NoGame = (old.closed ≡ false) × (old.kept ≡ None)
AskCause old new _ = ⊥

-- why `value` and `list` are refused: by the counts that the file tells, on any disk, no known position has the number
abbrev pub NumberCause : ℕ → State → State → SolverFault → Type 0
NumberCause number old new NoSuchPosition = IfSome old.counts (λ counts. counts.known ≤ number) × Tells (λ kept. ¬ IsThere number kept) old
NumberCause number old new fault = AskCause old new fault

-- why `line` is refused; S6 and S4 never come of a sound table on an honest disk, and of any other where its line breaks off or
-- comes to a position that is too wide
abbrev pub LineCause : ℕ → State → State → SolverFault → Type 0
LineCause number old new NotSettled = Tells (λ kept. IsThere number kept × ((view_of kept.table).value number ≡ None)) old
LineCause number old new Inconsistent = IsOfOtherOrigin old × Tells (HasBrokenLine number) old
LineCause number old new TooWide = IsOfOtherOrigin old × Tells (HasWideLine number) old
LineCause number old new fault = NumberCause number old new fault

-- why `show` is refused; S6 never comes of a sound table on an honest disk
abbrev pub ShowCause : ℕ → State → State → SolverFault → Type 0
ShowCause number old new Inconsistent = IsOfOtherOrigin old
ShowCause number old new fault = NumberCause number old new fault

-- why `find` is refused; which texts are those of positions is said of any disk
abbrev pub FindCause : List ℕ → State → State → SolverFault → Type 0
FindCause text old new BadPosition = OfKept (IsOfNone text) old.kept
FindCause text old new NoSuchPosition = OfKept (IsOfSome text) old.kept × Tells (IsOfUnknown text) old
FindCause text old new fault = AskCause old new fault
