-- What a session reads, answers and writes, line by line.
use Rattle.std.specs.Prelude.{◌≡◌, ◌≢◌, ◌<◌, ◌≤◌, ℕ, List, [], ◌∷◌, ◌++◌, Option, None, Some, nat_lt, if◌then◌else◌}
use Rattle.std.specs.Io.KnownBytes.{IsAtEnd}
use Rattle.game_file.specs.Calls.{IsAsked}
use Rattle.game_file.specs.Kept.{Layout}
use Rattle.game_file.specs.State.{State}
use Rattle.retrograde.specs.Stored.{Stored}
use Rattle.sector_disk.specs.Disk.{Disk}
use Rattle.solver.specs.Opened.{IsOpened}
use Rattle.solver.specs.declared.fault.SolverFault.{SolverFault}
use Rattle.solver.specs.declared.fault.SolverFault.TheVariants.{OutOfMemory}
use Rattle.solver.specs.declared.listing.Listing.{Listing}
use Rattle.session_lines.specs.Answered.{IsReplied}
use Rattle.session_lines.specs.Asked.{Asks, IsBare, in_look}
use Rattle.session_lines.specs.Listed.{IsListingReplied}
use Rattle.session_lines.specs.Told.{fault_line}
use Rattle.session_lines.specs.declared.input.Asked.{Asked}
use Rattle.session_lines.specs.declared.input.Asked.TheVariants as asked
use Rattle.session_lines.specs.declared.input.Line.{Line}
use Rattle.session_lines.specs.declared.input.ListingLine.{ListingLine}
use Rattle.session.specs.Commands.{GivesBack, IsPrinted, IsUnopened, refused}
use Rattle.session.specs.Cut.{IsCutInto, HasRead, HasNoLineFeed}
use Rattle.session.specs.Seen.{BeginsAt, Moment, Seen, Wrote, WrotePart, moment_at}
use Rattle.session.specs.declared.line_by_line.Lines.{Lines}
use Rattle.session.specs.declared.line_by_line.Lines.TheVariants.{Session, Look}
use Rattle.session.specs.declared.dialogue.Manner.{Manner}
use Rattle.session.specs.declared.dialogue.Manner.TheVariants as manner

-- a line that is neither about listings nor the end of the session
abbrev pub NeedsNoListings : Asked → Type 0
NeedsNoListings (asked.Listing about) = ⊥
NeedsNoListings asked.Quit = ⊥
NeedsNoListings _ = Unit {0}

-- where a session stands: the table's file, and the listings that are open; a session that only looks keeps none
pub record SessionState (F Version : Type 0) : Type 0 where
  pub file : F
  pub listings : Option (List (Listing Version))

-- the listings that a session keeps
abbrev pub listings_kept : {Version : Type 0} → Manner Version → Option (List (Listing Version))
listings_kept (manner.Work listings) = Some listings.items
listings_kept manner.Look = None

-- where a session stands on this file
abbrev pub session_state : {F Version : Type 0} → F → Manner Version → SessionState F Version
session_state file of_manner = record { file = file; listings = listings_kept of_manner }

-- the listings that it begins with
abbrev pub first_listings : {Version : Type 0} → Lines → Option (List (Listing Version))
first_listings Session = Some []
first_listings Look = None

-- where it begins
abbrev pub first_state : {F Version : Type 0} → F → Lines → SessionState F Version
first_state file lines = record { file = file; listings = first_listings lines }

-- what the bytes of a line say, where LF has ended it: a CR before that belongs to the end
abbrev pub WithEnd : List ℕ → List ℕ → Type 0
WithEnd = IsBare

-- the line with which the input ends has all its bytes
abbrev pub AsItIs : List ℕ → List ℕ → Type 0
AsItIs bytes line = line ≡ bytes

-- the line asks for the end of the session
abbrev pub QuitsIn : (List ℕ → List ℕ → Type 0) → List ℕ → Type 0
QuitsIn Says bytes = (line : List ℕ) × Says bytes line × Asks line asked.Quit

-- what an answer leaves of a session, where this is the disk behind the line: it goes on, or ends with a status. A
-- reply begins at one moment that is noted: with the output as it was before, and the disk as it is behind the line
--   goes_on    this was written, and the status is 0 or 1
--   quits      the line asks for the end, and has no reply
--   refuses    this was written, and the status ends the session
--   unwritten  the output failed, and a part of this was written, from its start on
pub data LineOutcome (Replies : ℕ → List ℕ → Type 0) (Quits : Type 0) (disk : Disk) (before after : Seen)
    : Option ℕ → Type 0 where
  goes_on : (status : ℕ) (text : List ℕ) → Replies status text → status ≤ 1
      → Wrote before after text (moment_at before disk ∷ []) → LineOutcome Replies Quits disk before after None
  quits : Quits → after ≡ before → LineOutcome Replies Quits disk before after (Some 0)
  refuses : (status : ℕ) (text : List ℕ) → Replies status text → 1 < status
      → Wrote before after text (moment_at before disk ∷ []) → LineOutcome Replies Quits disk before after (Some status)
  unwritten : (status : ℕ) (text : List ℕ) → Replies status text
      → WrotePart before after text (moment_at before disk ∷ []) → LineOutcome Replies Quits disk before after (Some 4)

module _ {F Version : Type 0} (Stores : ℕ → Layout) (state : F → State)
    (IsVersion : Version → Stored (List ℕ) → F → Type 0) (AreTwo : Version → Version → Type 0) (IsUsedUp : F → Type 0)
    (Lasts : F → F → Type 0) where
  -- the answer to what a line of a session asks: about listings by those that are open, and any other leaves them as
  -- they are
  pub data IsLineAnswered (old new : F) (before after : List (Listing Version)) (status : ℕ) (text : List ℕ)
      : Asked → Type 0 where
    about_listings : (about : ListingLine) → IsAsked Stores (state old) (state new)
        → IsListingReplied state IsVersion AreTwo about (IsUsedUp old) old new before after status text
        → IsLineAnswered old new before after status text (asked.Listing about)
    plain : (about : Asked) → NeedsNoListings about → IsReplied Stores about (state old) (state new) status text
        → Lasts old new → after ≡ before → IsLineAnswered old new before after status text about

  -- the answer to what a line asks where a session only looks: that of a session, to what it asks for in a look
  pub record IsLookAnswered (about : Asked) (old new : F) (status : ℕ) (text : List ℕ) : Type 0 where
    pub goes_on : about ≢ asked.Quit
    pub replied : IsReplied Stores (in_look about) (state old) (state new) status text

  -- the answer to what a line asks, with these listings open before it and after it; a look keeps none
  abbrev pub IsAnswered : Asked → F → F → Option (List (Listing Version)) → Option (List (Listing Version)) → ℕ
      → List ℕ → Type 0
  IsAnswered about old new (Some before) (Some after) status text =
      IsLineAnswered old new before after status text about
  IsAnswered about old new None None status text = IsLookAnswered about old new status text
  IsAnswered about old new _ _ status text = ⊥

  -- the bytes of a line, of which Says tells what they say, are answered
  abbrev pub AnswersIn : (List ℕ → List ℕ → Type 0) → List ℕ → F → F → Option (List (Listing Version))
      → Option (List (Listing Version)) → ℕ → List ℕ → Type 0
  AnswersIn Says bytes old new before after status text =
      (line : List ℕ) × Says bytes line
      × (about : Asked) × Asks line about × IsAnswered about old new before after status text

  abbrev pub IsAnswerToLine : (List ℕ → List ℕ → Type 0) → List ℕ → SessionState F Version → SessionState F Version → ℕ
      → List ℕ → Type 0
  IsAnswerToLine Says bytes old new = AnswersIn Says bytes old.file new.file old.listings new.listings

  -- what came of a line
  abbrev pub OutcomeOf : (List ℕ → List ℕ → Type 0) → List ℕ → SessionState F Version → SessionState F Version → Seen
      → Seen → Option ℕ → Type 0
  OutcomeOf Says bytes old new =
      LineOutcome (IsAnswerToLine Says bytes old new) (QuitsIn Says bytes × (new ≡ old))
      (state new.file).disk

  -- these lines were answered one behind the other, and this was written behind what the output held before; the reply
  -- to each began at one of these moments, in their order: behind the replies to the lines before it, and with the disk
  -- as it has left it. The session goes on
  pub data AnswersLines (begins : SessionState F Version) (before : Option (List ℕ))
      : List (List ℕ) → List ℕ → List Moment → SessionState F Version → Type 0 where
    none : AnswersLines begins before [] [] [] begins
    more : {lines : List (List ℕ)} {text : List ℕ} {moments : List Moment} {old new : SessionState F Version}
        (line : List ℕ) (status : ℕ) (reply : List ℕ) (moment : Moment)
        → AnswersLines begins before lines text moments old → IsAnswerToLine WithEnd line old new status reply
        → status ≤ 1 → BeginsAt before text (state new.file).disk moment
        → AnswersLines begins before (lines ++ line ∷ []) (text ++ reply) (moments ++ moment ∷ []) new

  -- these bytes were read, and with the status a session has ended within them; what is seen behind was told after what
  -- was seen before:
  --   quits      a line asks for the end
  --   refuses    the answer to a line ends the session
  --   no_memory  memory ran out for the bytes of a line, and that is told
  --   unwritten  the output failed in the answer to a line, of which a part was written; the lines before were answered
  --   untold     memory ran out, and the output failed where that was told
  pub data EndsWithin (bytes : List ℕ) (begins ends : SessionState F Version) (before after : Seen) : ℕ → Type 0 where
    quits : (lines : List (List ℕ)) (line behind text : List ℕ) (moments : List Moment)
        → IsCutInto bytes (lines ++ line ∷ []) behind → AnswersLines begins before.written lines text moments ends
        → QuitsIn WithEnd line → Wrote before after text moments
        → EndsWithin bytes begins ends before after 0
    refuses : (lines : List (List ℕ)) (line behind text reply : List ℕ) (moments : List Moment) (moment : Moment)
        (old : SessionState F Version) (status : ℕ) → IsCutInto bytes (lines ++ line ∷ []) behind
        → AnswersLines begins before.written lines text moments old → IsAnswerToLine WithEnd line old ends status reply
        → 1 < status → BeginsAt before.written text (state ends.file).disk moment
        → Wrote before after (text ++ reply) (moments ++ moment ∷ []) → EndsWithin bytes begins ends before after status
    no_memory : (lines : List (List ℕ)) (rest text : List ℕ) (moments : List Moment) → IsCutInto bytes lines rest
        → AnswersLines begins before.written lines text moments ends
        → Wrote before after (text ++ fault_line OutOfMemory) moments → EndsWithin bytes begins ends before after 5
    unwritten : (lines : List (List ℕ)) (line behind text reply : List ℕ) (moments : List Moment) (moment : Moment)
        (old : SessionState F Version) (status : ℕ) → IsCutInto bytes (lines ++ line ∷ []) behind
        → AnswersLines begins before.written lines text moments old → IsAnswerToLine WithEnd line old ends status reply
        → BeginsAt before.written text (state ends.file).disk moment
        → WrotePart before after (text ++ reply) (moments ++ moment ∷ []) → EndsWithin bytes begins ends before after 4
    untold : (lines : List (List ℕ)) (rest text : List ℕ) (moments : List Moment) → IsCutInto bytes lines rest
        → AnswersLines begins before.written lines text moments ends
        → WrotePart before after (text ++ fault_line OutOfMemory) moments → EndsWithin bytes begins ends before after 4

  -- what a line leaves as the status of a session that ends with the input
  abbrev pub status_at_end : ℕ → ℕ
  status_at_end status = if nat_lt 1 status then status else 0

  -- a session has read these bytes of its input, of which this is left, and has ended with a status:
  --   within          before the input ended
  --   at_end          the input ended: all lines are answered, and what stands behind the last LF is answered as a line
  --   last_quits      what stands behind the last LF asks for the end
  --   last_unwritten  the output failed in the answer to what stands behind the last LF, of which a part was written
  --   unread          the input failed: all lines that were read are answered
  pub data IsSession (bytes : List ℕ) (begins ends : SessionState F Version) (left : Option (List ℕ))
      (before after : Seen) : ℕ → Type 0 where
    within : (status : ℕ) → EndsWithin bytes begins ends before after status
        → IsSession bytes begins ends left before after status
    at_end : (lines : List (List ℕ)) (rest text reply : List ℕ) (moments : List Moment) (moment : Moment)
        (old : SessionState F Version) (status : ℕ) → IsCutInto bytes lines rest → HasNoLineFeed rest → IsAtEnd left
        → AnswersLines begins before.written lines text moments old → IsAnswerToLine AsItIs rest old ends status reply
        → BeginsAt before.written text (state ends.file).disk moment
        → Wrote before after (text ++ reply) (moments ++ moment ∷ [])
        → IsSession bytes begins ends left before after (status_at_end status)
    last_quits : (lines : List (List ℕ)) (rest text : List ℕ) (moments : List Moment) → IsCutInto bytes lines rest
        → HasNoLineFeed rest → IsAtEnd left → AnswersLines begins before.written lines text moments ends
        → QuitsIn AsItIs rest → Wrote before after text moments
        → IsSession bytes begins ends left before after 0
    last_unwritten : (lines : List (List ℕ)) (rest text reply : List ℕ) (moments : List Moment) (moment : Moment)
        (old : SessionState F Version) (status : ℕ) → IsCutInto bytes lines rest → HasNoLineFeed rest → IsAtEnd left
        → AnswersLines begins before.written lines text moments old → IsAnswerToLine AsItIs rest old ends status reply
        → BeginsAt before.written text (state ends.file).disk moment
        → WrotePart before after (text ++ reply) (moments ++ moment ∷ [])
        → IsSession bytes begins ends left before after 4
    unread : (lines : List (List ℕ)) (rest text : List ℕ) (moments : List Moment) → IsCutInto bytes lines rest
        → HasNoLineFeed rest → AnswersLines begins before.written lines text moments ends → Wrote before after text moments
        → IsSession bytes begins ends left before after 4

  -- a session is under way: these bytes were read, all their lines are answered, and what stands behind the last LF
  -- waits in the line
  pub record IsUnderWay (bytes : List ℕ) (begins : SessionState F Version) (before : Seen)
      (now : SessionState F Version) (line : Line) (after : Seen) : Type 0 where
    pub lines : List (List ℕ)
    pub rest : List ℕ
    pub text : List ℕ
    pub moments : List Moment
    pub are : IsCutInto bytes lines rest
    pub single : HasNoLineFeed rest
    pub come : HasRead line rest
    pub answers : AnswersLines begins before.written lines text moments now
    pub wrote : Wrote before after text moments

  -- it goes on, or has ended
  abbrev pub Continues : List ℕ → SessionState F Version → Seen → SessionState F Version → Line → Seen → Option ℕ
      → Type 0
  Continues bytes begins before now line after None = IsUnderWay bytes begins before now line after
  Continues bytes begins before now line after (Some status) = EndsWithin bytes begins now before after status

  -- a session on the table of a disk, which is given back:
  --   opened    the table was opened, and the session ended so
  --   unopened  it could not be opened, and that was written, or a part of it, where the output failed; nothing was
  --             read, and no moment noted
  pub data IsSessionOver (lines : Lines) (disk : Disk) (count : ℕ) (bytes : List ℕ) (left : Option (List ℕ))
      (before after : Seen) (status : ℕ) (back : Disk) (now : ℕ) : Type 0 where
    opened : (begins : F) (ends : SessionState F Version) → IsOpened Stores disk count (state begins)
        → IsSession bytes (first_state begins lines) ends left before after status
        → GivesBack (state ends.file) back now → IsSessionOver lines disk count bytes left before after status back now
    unopened : (why : SolverFault) → IsUnopened Stores disk count why back now → bytes ≡ []
        → IsPrinted before.written after.written (refused why) status → after.moments ≡ before.moments
        → IsSessionOver lines disk count bytes left before after status back now
