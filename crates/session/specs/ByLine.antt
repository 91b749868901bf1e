-- What `moves --at -` reads and writes: a position on each line, and behind each its moves and an empty line.
use Rattle.std.specs.Prelude.{◌≡◌, ◌≢◌, ◌<◌, ◌≤◌, ℕ, false, List, [], ◌∷◌, ◌++◌, length, Option, None, Some, IsTrue}
use Rattle.std.specs.Io.KnownBytes.{Appends, IsAtEnd}
use Rattle.rbg_game.specs.Games.{Game}
use Rattle.session_lines.specs.Answers.{TellsMovesAt, TellsRefusal}
use Rattle.session_lines.specs.Asked.{IsBare}
use Rattle.session_lines.specs.Parts.{IsTextWritten}
use Rattle.solver.specs.declared.fault.SolverFault.TheVariants.{BadPosition, OutOfMemory}
use Rattle.session.specs.Cut.{IsCutInto, HasNoLineFeed}
use Rattle.session.specs.declared.position_line.PositionLine.{PositionLine}
use Rattle.session.specs.declared.position_line.TheConstants.{MOST_BYTES}

-- these bytes have come for the line, and it keeps them; of more than it keeps it knows that they are too many
pub record HasTaken (line : PositionLine) (bytes : List ℕ) : Type 0 where
  pub kept : line.is_too_long ≡ false → line.bytes.items ≡ bytes
  pub few : length line.bytes.items ≤ MOST_BYTES
  pub long : IsTrue line.is_too_long → (MOST_BYTES < length bytes) × (length line.bytes.items ≡ MOST_BYTES)

module _ (game : Game) where
  -- what is told of a line: the moves of the position with this text; of more bytes than any position's text has, that it is none
  pub record TellsPosition (line : List ℕ) (status : ℕ) (text : List ℕ) : Type 0 where
    pub short : length line ≤ MOST_BYTES → (bare : List ℕ) × IsBare line bare × TellsMovesAt game bare status text
    pub long : MOST_BYTES < length line → TellsRefusal BadPosition status text

  -- with an empty line behind it
  abbrev pub AnswersPosition : List ℕ → ℕ → List ℕ → Type 0
  AnswersPosition line status text = (answer : List ℕ) × TellsPosition line status answer × (text ≡ answer ++ 10 ∷ [])

  -- the lines were answered one after another, and this was written
  pub data AnswersPositions : List (List ℕ) → List ℕ → Type 0 where
    none : AnswersPositions [] []
    more : {lines : List (List ℕ)} {text : List ℕ} (line : List ℕ) (status : ℕ) (reply : List ℕ) → AnswersPositions lines text
        → AnswersPosition line status reply → status ≤ 1 → AnswersPositions (lines ++ line ∷ []) (text ++ reply)

  -- behind this text a line is answered
  abbrev pub AnswersBehind : List ℕ → List ℕ → ℕ → List ℕ → Type 0
  AnswersBehind text line status whole = (reply : List ℕ) × AnswersPosition line status reply × (whole ≡ text ++ reply)

  -- behind this text it is told that memory ran out
  abbrev pub TellsNoMemory : List ℕ → ℕ → List ℕ → Type 0
  TellsNoMemory text status whole = (reply : List ℕ) × TellsRefusal OutOfMemory status reply × (whole ≡ text ++ reply)

  -- these bytes were read, and the answers ended within them:
  --   answered   with that to a line, by its status, or since the output failed
  --   no_memory  since memory ran out for the bytes of a line
  pub data EndByLine (bytes : List ℕ) (before after : Option (List ℕ)) (status : ℕ) : Type 0 where
    answered : (lines : List (List ℕ)) (line behind text : List ℕ) → IsCutInto bytes (lines ++ line ∷ []) behind → AnswersPositions lines text
        → IsTextWritten (AnswersBehind text line) before after status → 1 < status → EndByLine bytes before after status
    no_memory : (lines : List (List ℕ)) (rest text : List ℕ) → IsCutInto bytes lines rest → AnswersPositions lines text
        → IsTextWritten (TellsNoMemory text) before after status → EndByLine bytes before after status

  -- these bytes were read of an input in which this is left, and the answers ended with this status:
  --   within     within the bytes
  --   at_end     the input ended behind a line
  --   last       it ended within a line, which was answered too; the status is that of its answer where that is more than 1, and else 0
  --   unread     the input failed
  pub data AreMovesByLine (bytes : List ℕ) (left before after : Option (List ℕ)) (status : ℕ) : Type 0 where
    within : EndByLine bytes before after status → AreMovesByLine bytes left before after status
    at_end : (lines : List (List ℕ)) (text : List ℕ) → IsAtEnd left → IsCutInto bytes lines [] → AnswersPositions lines text
        → Appends before after text → status ≡ 0 → AreMovesByLine bytes left before after status
    last : (lines : List (List ℕ)) (rest text : List ℕ) (own : ℕ) → IsAtEnd left → IsCutInto bytes lines rest → HasNoLineFeed rest → rest ≢ []
        → AnswersPositions lines text → IsTextWritten (AnswersBehind text rest) before after own
        → (1 < own → status ≡ own) → (own ≤ 1 → status ≡ 0) → AreMovesByLine bytes left before after status
    unread : (lines : List (List ℕ)) (rest text : List ℕ) → IsCutInto bytes lines rest → AnswersPositions lines text
        → Appends before after text → status ≡ 4 → AreMovesByLine bytes left before after status

  -- these bytes were read so far: all lines in them are answered, and the rest waits in the line
  pub record ArePositionsUnderWay (bytes : List ℕ) (before : Option (List ℕ)) (line : PositionLine) (after : Option (List ℕ)) : Type 0 where
    pub lines : List (List ℕ)
    pub rest : List ℕ
    pub text : List ℕ
    pub cut : IsCutInto bytes lines rest
    pub single : HasNoLineFeed rest
    pub taken : HasTaken line rest
    pub answers : AnswersPositions lines text
    pub wrote : Appends before after text

  -- it goes on, or has ended
  abbrev pub GoesOnByLine : List ℕ → Option (List ℕ) → PositionLine → Option (List ℕ) → Option ℕ → Type 0
  GoesOnByLine bytes before line after None = ArePositionsUnderWay bytes before line after
  GoesOnByLine bytes before line after (Some status) = EndByLine bytes before after status
