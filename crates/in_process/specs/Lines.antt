-- What a call that answers lines does.
use Rattle.std.specs.Prelude.{◌≡◌, ℕ, ◌<◌, ◌≤◌, List, [], ◌++◌, length, Bool, false, true, Option, Some}
use Rattle.game_file.specs.Kept.{Layout}
use Rattle.game_file.specs.State.{State}
use Rattle.retrograde.specs.Stored.{Stored}
use Rattle.sector_disk.specs.Disk.{Disk}
use Rattle.session.specs.Commands.{IsPrinted, refused}
use Rattle.session.specs.Seen.{Moment, Seen}
use Rattle.session.specs.Sessions.{IsSession, IsSessionOver, SessionState, first_state}
use Rattle.session.specs.declared.line_by_line.Lines.{Lines}
use Rattle.session.specs.declared.line_by_line.Lines.TheVariants.{Session, Look}
use Rattle.solver.specs.declared.fault.SolverFault.{SolverFault}
use Rattle.in_process.specs.Calls.{IsDiskOf, bytes_of}
use Rattle.in_process.specs.Given.{over}
use Rattle.in_process.specs.Kept.{IsAskable, IsFoundIn, IsKeptUnopened, IsLeftIn}
use Rattle.in_process.specs.declared.held.HeldTable.{HeldTable}
use Rattle.in_process.specs.declared.kept.Kept.{Kept}

-- lines are answered on the table of these bytes, for a caller whose bytes of the table are those before and then those after, with bytes for the
-- answers, out and then told; Answers says of a disk that never failed, and of the lines that are read, what is told, with which status, and
-- which disk comes back:
--   answered   the answers are told, and the bytes of the table are those of the disk that came back
--   too_long   the answers would be longer than the bytes for them: their length is told, and nothing is done
--   no_memory  memory ran out: nothing is done
pub data AreLinesAnswered (Answers : Disk → List ℕ → Option (List ℕ) → List ℕ → ℕ → Disk → ℕ → Type 0) (lines before after out told : List ℕ) (count : ℕ)
    : ℕ → Type 0 where
  answered : (disk back : Disk) (now : ℕ) (read left text : List ℕ) (status : ℕ) → IsDiskOf before disk → lines ≡ read ++ left
      → Answers disk read (Some left) text status back now → length text ≤ length out → count ≡ length text → told ≡ over text out
      → after ≡ over (bytes_of back) before → AreLinesAnswered Answers lines before after out told count status
  too_long : (disk back : Disk) (now : ℕ) (read left text : List ℕ) (status : ℕ) → IsDiskOf before disk → lines ≡ read ++ left
      → Answers disk read (Some left) text status back now → length out < length text → count ≡ length text → told ≡ out → after ≡ before
      → AreLinesAnswered Answers lines before after out told count 6
  no_memory : count ≡ 0 → told ≡ out → after ≡ before → AreLinesAnswered Answers lines before after out told count 5

-- an output that holds this text, and these moments that were noted
abbrev pub seen_with : List ℕ → List Moment → Seen
seen_with text moments = record { written = Some text; moments = moments }

-- which lines are taken
abbrev pub lines_taken : Bool → Lines
lines_taken true = Look
lines_taken false = Session

module _ {F Version : Type 0} (Stores : ℕ → Layout) (state : F → State) (IsVersion : Version → Stored (List ℕ) → F → Type 0)
    (AreTwo : Version → Version → Type 0) (IsUsedUp : F → Type 0) (Lasts : F → F → Type 0) where
  -- a session, or a look, on a disk that never failed, of which this text is all that was written
  abbrev pub OverBytes : Lines → Disk → List ℕ → Option (List ℕ) → List ℕ → ℕ → Disk → ℕ → Type 0
  OverBytes manner disk read left text status back now =
      (moments : List Moment) × IsSessionOver Stores state IsVersion AreTwo IsUsedUp Lasts manner disk 0 read left (seen_with [] [])
      (seen_with text moments) status back now

  -- lines were answered on a table that is kept, behind the answers that waited, with this status:
  --   answered  as a session, or a look, from the state in which they found it
  --   unopened  the table could not be opened, which is their answer; none of them was read
  pub data IsAnsweredOn (manner : Lines) (lines : List ℕ) (was is : Kept) (before after : List ℕ) (status : ℕ) : Type 0 where
    answered : (begins : F) (ends : SessionState F Version) (read left : List ℕ) (moments : List Moment) → lines ≡ read ++ left
        → IsFoundIn Stores (state begins) was
        → IsSession Stores state IsVersion AreTwo IsUsedUp Lasts read (first_state begins manner) ends (Some left) (seen_with before [])
        (seen_with after moments) status → IsLeftIn (state ends.file) status is → IsAnsweredOn manner lines was is before after status
    unopened : (why : SolverFault) → IsKeptUnopened Stores why was is → IsPrinted (Some before) (Some after) (refused why) status
        → IsAnsweredOn manner lines was is before after status

  -- lines are answered on a held table that can be asked, which leaves it so; and it is told how many bytes of answers wait
  pub record AnswersLinesOn (manner : Lines) (lines : List ℕ) (count : ℕ) (was is : HeldTable) (status : ℕ) : Type 0 where
    pub answered : IsAskable was.kept → IsAnsweredOn manner lines was.kept is.kept was.answers.items is.answers.items status
    pub again : IsAskable was.kept → IsAskable is.kept
    pub waits : count ≡ length is.answers.items
