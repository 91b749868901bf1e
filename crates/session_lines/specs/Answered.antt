-- What a session answers to a line, and what the line does.
use Rattle.std.specs.Prelude.{◌≡◌, ◌⊎◌, ◌<◌, ℕ, List, [], ◌∷◌, ◌++◌, codes, Option, None, Some, option_map, IsTrue, Result, Ok, Err}
use Rattle.std.specs.Global.{Vec}
use Rattle.std.specs.List.{flat_map}
use Rattle.std.specs.Fmt.{decimal}
use Rattle.rbg_game.specs.Games.{Game}
use Rattle.retrograde.specs.Changes.{counts_of}
use Rattle.retrograde.specs.declared.records.Counts.{Counts}
use Rattle.best_line.specs.declared.answers.Value.{Value as Worth}
use Rattle.best_line.specs.declared.answers.Row.{Row}
use Rattle.best_line.specs.Order.{IsBestFirst}
use Rattle.best_line.specs.declared.known.KnownMove.{KnownMove}
use Rattle.best_line.specs.declared.known.KnownMoves.{KnownMoves}
use Rattle.game_file.specs.Calls.{IsAsked}
use Rattle.game_file.specs.Kept.{Kept, Layout, text_kept}
use Rattle.game_file.specs.State.{State}
use Rattle.solver.specs.Faults.{status_of}
use Rattle.solver.specs.declared.fault.SolverFault.{SolverFault}
use Rattle.solver.specs.declared.fault.SolverFault.TheVariants as fault
use Rattle.solver.specs.declared.replies.Reply.{Reply}
use Rattle.solver.specs.declared.replies.Reply.TheVariants as answer
use Rattle.solver.specs.Held.{IsSound}
use Rattle.solver.specs.Machine.{work}
use Rattle.solver.specs.Moves.{HasMoves, HasValueByText, MovesCause}
use Rattle.solver.specs.Queries.{Tells, IsGameOf, HasValueAt, HasRows, HasLine, HasToldLine, HasText, NumberCause, LineCause, ShowCause, FindCause}
use Rattle.solver.specs.Runs.{IsTurnWithCause}
use Rattle.solver.specs.Units.{units_in}
use Rattle.session_lines.specs.declared.input.Asked.{Asked}
use Rattle.session_lines.specs.declared.input.Asked.TheVariants as asked
use Rattle.session_lines.specs.declared.input.Question.{Question}
use Rattle.session_lines.specs.declared.input.Question.TheVariants as question
use Rattle.session_lines.specs.Known.{known_lines}
use Rattle.session_lines.specs.Replies.{value_text, row_line, line_line, pages_line}
use Rattle.session_lines.specs.Counted.{IsStatusLine}
use Rattle.session_lines.specs.Told.{IsReplyLine, fault_line}

-- the value of the position with this number, as a line
pub record IsValueLine (number : ℕ) (text : List ℕ) (kept : Kept) : Type 0 where
  pub game : Game
  pub of_game : IsGameOf game kept
  pub value : Worth
  pub has : HasValueAt number value kept
  pub text_is : text ≡ value_text game value ++ 10 ∷ []

-- the value of the position with this text, as a line
pub record IsValueLineOf (position text : List ℕ) (kept : Kept) : Type 0 where
  pub game : Game
  pub of_game : IsGameOf game kept
  pub value : Worth
  pub has : HasValueByText position value kept
  pub text_is : text ≡ value_text game value ++ 10 ∷ []

-- the rows from this number on, a line each: this many, or up to the last
pub record AreRowLines (from count : ℕ) (text : List ℕ) (kept : Kept) : Type 0 where
  pub game : Game
  pub of_game : IsGameOf game kept
  pub rows : List Row
  pub has : HasRows from count rows kept
  pub text_is : text ≡ flat_map (row_line game) rows

-- the numbers of the line that the table tells from this one, as a line; of a sound table they are a best line in the game
pub record IsPlayLine (number : ℕ) (text : List ℕ) (kept : Kept) : Type 0 where
  pub numbers : List ℕ
  pub told : HasToldLine number numbers kept
  pub so : IsSound (Some kept) → HasLine number numbers kept
  pub text_is : text ≡ line_line numbers

-- all moves of the position with this number, the best first for who has the turn, a line each; or `ended`, where there is none
pub record AreMoveLines (number : ℕ) (text : List ℕ) (kept : Kept) : Type 0 where
  pub game : Game
  pub of_game : IsGameOf game kept
  pub known : KnownMoves
  pub has : HasMoves number known kept
  pub sorted : List KnownMove
  pub best : IsBestFirst known.mover known.moves.items sorted
  pub text_is : text ≡ known_lines game sorted

-- the text of the position with this number, as a line
pub record IsShownLine (number : ℕ) (text : List ℕ) (kept : Kept) : Type 0 where
  pub shown : List ℕ
  pub has : HasText number shown kept
  pub text_is : text ≡ shown ++ 10 ∷ []

-- the number of the position with this text, as a line
pub record IsFoundLine (position text : List ℕ) (kept : Kept) : Type 0 where
  pub number : ℕ
  pub has : HasText number position kept
  pub text_is : text ≡ codes "number " ++ decimal number ++ 10 ∷ []

-- the answer to a question, in whole lines
abbrev pub IsAnswerTo : Question → List ℕ → Kept → Type 0
IsAnswerTo (question.Value number) text kept = IsValueLine number text kept
IsAnswerTo (question.ValueOf position) text kept = IsValueLineOf position.now text kept
IsAnswerTo (question.Line number) text kept = IsPlayLine number text kept
IsAnswerTo (question.List from count) text kept = AreRowLines from (units_in count) text kept
IsAnswerTo (question.Moves number) text kept = AreMoveLines number text kept
IsAnswerTo (question.Show number) text kept = IsShownLine number text kept
IsAnswerTo (question.Find position) text kept = IsFoundLine position.now text kept

-- why a question is refused
abbrev pub QuestionCause : Question → State → State → SolverFault → Type 0
QuestionCause (question.Value number) = NumberCause number
QuestionCause (question.ValueOf position) = FindCause position.now
QuestionCause (question.Line number) = LineCause number
QuestionCause (question.List from count) = NumberCause from
QuestionCause (question.Moves number) = MovesCause number
QuestionCause (question.Show number) = ShowCause number
QuestionCause (question.Find position) = FindCause position.now

-- the exit status of a reply
abbrev pub status_of_reply : Reply → ℕ
status_of_reply (answer.Refused fault) = status_of fault
status_of_reply _ = 0

-- these bytes with status 0, or this refusal with its own
abbrev pub IsTextOrRefusal : Result (Vec ℕ) SolverFault → ℕ → List ℕ → Type 0
IsTextOrRefusal (Ok text) status line = (status ≡ 0) × (line ≡ text.items)
IsTextOrRefusal (Err why) status line = (status ≡ status_of why) × (line ≡ fault_line why)

-- the text of the game byte for byte, on any disk; or that none is loaded
abbrev pub IsGameReplied : State → ℕ → List ℕ → Type 0
IsGameReplied old status line =
    ((status ≡ 0) × (text_kept old.kept ≡ Some line))
    ⊎ ((old.kept ≡ None) × (status ≡ status_of fault.NoGame) × (line ≡ fault_line fault.NoGame))

-- a line that neither works nor asks about positions
abbrev pub IsNoCall : Asked → Type 0
IsNoCall (asked.Work units) = ⊥
IsNoCall (asked.Question about) = ⊥
IsNoCall _ = Unit {0}

-- the counts of the table that is kept, in a line; said of an honest disk
pub record SaysStatus (state : State) (line : List ℕ) : Type 0 where
  pub counts : Option Counts
  pub are : IsTrue state.disk.honest → counts ≡ option_map (λ kept. counts_of kept.table) state.kept
  pub line_is : IsStatusLine counts line

-- how many pages there are, and how many of them are free, never all; which number that is, `pages` of `put_answer` and `put_looked` say
pub record TellsPages (state : State) (line : List ℕ) : Type 0 where
  pub free : ℕ
  pub some : free < state.capacity
  pub line_is : line ≡ pages_line state.capacity free

-- it is answered so, or refused with its cause
abbrev pub IsAnsweredOrRefused : (List ℕ → Kept → Type 0) → (SolverFault → Type 0) → State → ℕ → List ℕ → Type 0
IsAnsweredOrRefused Answers Cause old status line =
    ((status ≡ 0) × Tells (Answers line) old)
    ⊎ ((why : SolverFault) × (status ≡ status_of why) × (line ≡ fault_line why) × Cause why)

module _ (Stores : ℕ → Layout) where
  -- this many units are asked for: their reply as a line, and what was done is the turn of that command
  pub record IsWorkReplied (units : ℕ) (old new : State) (status : ℕ) (line : List ℕ) : Type 0 where
    pub reply : Reply
    pub turn : IsTurnWithCause Stores (work units) reply old new
    pub status_is : status ≡ status_of_reply reply
    pub line_is : IsReplyLine reply line

  -- what is done for a line that asks this, whether its reply can be written or not: units are worked; a question changes nothing
  -- that is kept; and else nothing is done
  abbrev pub IsDoneFor : Asked → State → State → Type 0
  IsDoneFor (asked.Work units) old new = (reply : Reply) × IsTurnWithCause Stores (work (units_in units)) reply old new
  IsDoneFor (asked.Question about) old new = IsAsked Stores old new
  IsDoneFor _ old new = new ≡ old

  -- what is done for a line that asks this, with which exit status, and what is written; where no listings are kept, a line about them
  -- is no command
  abbrev pub IsReplied : Asked → State → State → ℕ → List ℕ → Type 0
  IsReplied asked.Nothing old new status line = (new ≡ old) × (status ≡ 0) × (line ≡ [])
  IsReplied asked.Quit old new status line = (new ≡ old) × (status ≡ 0) × (line ≡ [])
  IsReplied asked.Usage old new status line = (new ≡ old) × (status ≡ 0) × (line ≡ codes "usage" ++ 10 ∷ [])
  IsReplied (asked.Listing about) old new status line = (new ≡ old) × (status ≡ 0) × (line ≡ codes "usage" ++ 10 ∷ [])
  IsReplied asked.Help old new status line = (new ≡ old) × (status ≡ 0) × (line ≡ codes "usage" ++ 10 ∷ [])
  IsReplied asked.Status old new status line = (new ≡ old) × (status ≡ 0) × SaysStatus old line
  IsReplied asked.Pages old new status line = (new ≡ old) × (status ≡ 0) × TellsPages old line
  IsReplied asked.Game old new status line = (new ≡ old) × IsGameReplied old status line
  IsReplied (asked.Work units) old new status line = IsWorkReplied (units_in units) old new status line
  IsReplied (asked.Question about) old new status line =
      IsAsked Stores old new × IsAnsweredOrRefused (IsAnswerTo about) (QuestionCause about old new) old status line
