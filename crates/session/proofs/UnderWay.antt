-- A session that is under way goes on, or ends.
use Rattle.std.proofs.Common.{◌≡◌, ◌≢◌, ◌<◌, ◌≤◌, inl, inr, ℕ, List, [], ◌∷◌, ◌++◌, Option, Some, None, true, false, refl, ap, sym, ◌∙◌, subst}
use Rattle.std.specs.Prelude.{IfOk, OnErr, Result, Ok, Err}
use Rattle.std.specs.Option.{is_some}
use Rattle.std.proofs.lemmas.Bool.{cases_lt, le-ltb, lt-ltb}
use Rattle.std.specs.Io.KnownBytes.{Appends, IsAtEnd}
use Rattle.game_file.specs.Kept.{Layout}
use Rattle.game_file.specs.State.{State}
use Rattle.retrograde.specs.Stored.{Stored}
use Rattle.sector_disk.specs.Disk.{Disk}
use Rattle.solver.specs.declared.fault.SolverFault.TheVariants.{OutOfMemory}
use Rattle.session_lines.specs.Answered.{IsDoneFor}
use Rattle.session_lines.specs.Parts.{AppendsPart}
use Rattle.session_lines.specs.Told.{fault_line}
use Rattle.session_lines.specs.declared.input.Asked.{Asked}
use Rattle.session_lines.specs.declared.input.Asked.TheVariants as asked
use Rattle.session_lines.specs.declared.input.Line.{Line}
use Rattle.session_lines.specs.declared.input.ListingLine.{ListingLine}
use Rattle.session.specs.Commands.{IsPrinted, refused as refused_for}
use Rattle.session.specs.Cut.{HasRead}
use Rattle.session.specs.Seen.{Seen, Wrote, moment_at}
use Rattle.session.specs.Sessions.{SessionState, NeedsNoListings, LineOutcome, OutcomeOf, AnswersLines, IsUnderWay, Continues, EndsWithin, IsSession, WithEnd, AsItIs, status_at_end}
use Rattle.session.proofs.CutLines.{another_byte, another_line, more_bytes, no_lines, nothing_waits}
use Rattle.session.proofs.ToldTexts.{tells_nothing, tells_then, tells_part_then, tells_more, tells_part_more}

-- an honest disk stays so, whatever is done for a line
module _ (Stores : ℕ → Layout) where
  pub done_honest : (about : Asked) (old new : State) → IsDoneFor Stores about old new → new.disk.honest ≡ old.disk.honest
  done_honest asked.Nothing old new is = ap (λ s. s.disk.honest) is
  done_honest asked.Quit old new is = ap (λ s. s.disk.honest) is
  done_honest asked.Usage old new is = ap (λ s. s.disk.honest) is
  done_honest (asked.Listing about) old new is = ap (λ s. s.disk.honest) is
  done_honest asked.Help old new is = ap (λ s. s.disk.honest) is
  done_honest asked.Status old new is = ap (λ s. s.disk.honest) is
  done_honest asked.Pages old new is = ap (λ s. s.disk.honest) is
  done_honest asked.Game old new is = ap (λ s. s.disk.honest) is
  done_honest (asked.Work units) old new is = is.1.turn.ahead.goes_on.honest
  done_honest (asked.Question about) old new is = is.ahead.goes_on.honest

-- a line that is about no listing and not the end needs no listings
pub needs_none : (about : Asked) → ((line : ListingLine) → about ≢ asked.Listing line) → about ≢ asked.Quit → NeedsNoListings about
needs_none asked.Nothing listing quit = tt
needs_none asked.Quit listing quit = absurd (quit refl)
needs_none asked.Usage listing quit = tt
needs_none (asked.Listing line) listing quit = absurd (listing line refl)
needs_none asked.Help listing quit = tt
needs_none asked.Status listing quit = tt
needs_none asked.Pages listing quit = tt
needs_none asked.Game listing quit = tt
needs_none (asked.Work units) listing quit = tt
needs_none (asked.Question about) listing quit = tt

-- what came of a reply, of which the moment was noted
pub outcome_of : {E : Type 0} {P : ℕ → List ℕ → Type 0} {Quits : Type 0} {disk : Disk} {before after : Seen} {result : Option ℕ} (replied : Result ℕ E)
    → IfOk replied (λ status. (text : List ℕ) × P status text × Appends before.written after.written text)
    → OnErr replied ((status : ℕ) × (text : List ℕ) × P status text × AppendsPart before.written after.written text)
    → after.moments ≡ before.moments ++ moment_at before disk ∷ []
    → IfOk replied (λ status. (1 < status → result ≡ Some status) × (status ≤ 1 → result ≡ None)) → OnErr replied (result ≡ Some 4)
    → LineOutcome P Quits disk before after result
outcome_of {P = P} {Quits} {disk} {before} {after} (Ok status) (text, says, wrote) untold noted written unwritten = elim (cases_lt 1 status) [
  | inl high ↦ subst (LineOutcome P Quits disk before after) (sym (written.0 high))
      (LineOutcome.refuses status text says high (record { wrote = wrote; noted = noted }))
  | inr low ↦ subst (LineOutcome P Quits disk before after) (sym (written.1 low))
      (LineOutcome.goes_on status text says low (record { wrote = wrote; noted = noted }))
]
outcome_of {P = P} {Quits} {disk} {before} {after} (Err error) told (status, text, says, part) noted written unwritten =
    subst (LineOutcome P Quits disk before after) (sym unwritten) (LineOutcome.unwritten status text says (record { wrote = part; noted = noted }))

-- an outcome by other words
pub outcome_by : {P Q : ℕ → List ℕ → Type 0} {A B : Type 0} {disk : Disk} {before after : Seen} {result : Option ℕ}
    → ((status : ℕ) (text : List ℕ) → P status text → Q status text) → (A → B) → LineOutcome P A disk before after result
    → LineOutcome Q B disk before after result
outcome_by says quits (LineOutcome.goes_on status text replies low wrote) = LineOutcome.goes_on status text (says status text replies) low wrote
outcome_by says quits (LineOutcome.quits asks same) = LineOutcome.quits (quits asks) same
outcome_by says quits (LineOutcome.refuses status text replies high wrote) = LineOutcome.refuses status text (says status text replies) high wrote
outcome_by says quits (LineOutcome.unwritten status text replies part) = LineOutcome.unwritten status text (says status text replies) part

module _ {F Version : Type 0} (Stores : ℕ → Layout) (state : F → State) (IsVersion : Version → Stored (List ℕ) → F → Type 0)
    (AreTwo : Version → Version → Type 0) (IsUsedUp : F → Type 0) (Lasts : F → F → Type 0) where
  -- the line that LF has ended is answered
  pub line_answered : {bytes : List ℕ} {begins old new : SessionState F Version} {before at after : Seen} {line next : Line} {result : Option ℕ}
      → (way : IsUnderWay Stores state IsVersion AreTwo IsUsedUp Lasts bytes begins before old line at)
      → OutcomeOf Stores state IsVersion AreTwo IsUsedUp Lasts WithEnd way.rest old new at after result → HasRead next []
      → Continues Stores state IsVersion AreTwo IsUsedUp Lasts (bytes ++ 10 ∷ []) begins before new next after result
  line_answered {new = new} {at = at} way (LineOutcome.goes_on status text replies low wrote) come =
      let moment = moment_at at (state new.file).disk in record {
        lines = way.lines ++ way.rest ∷ [];
        rest = [];
        text = way.text ++ text;
        moments = way.moments ++ moment ∷ [];
        are = another_line way.are way.single;
        single = nothing_waits;
        come = come;
        answers = AnswersLines.more way.rest status text moment way.answers replies low (record { written = way.wrote.wrote; disk_is = refl });
        wrote = tells_then way.wrote wrote;
      }
  line_answered {begins = begins} {before = before} way (LineOutcome.quits (asks, same) kept) come =
      EndsWithin.quits way.lines way.rest [] way.text way.moments (another_line way.are way.single)
      (subst (AnswersLines Stores state IsVersion AreTwo IsUsedUp Lasts begins before.written way.lines way.text way.moments) (sym same) way.answers)
      asks
      (subst (λ o. Wrote before o way.text way.moments) (sym kept) way.wrote)
  line_answered {new = new} {at = at} way (LineOutcome.refuses status text replies high wrote) come =
      EndsWithin.refuses way.lines way.rest [] way.text text way.moments (moment_at at (state new.file).disk) _ status (another_line way.are way.single)
      way.answers replies high (record { written = way.wrote.wrote; disk_is = refl }) (tells_then way.wrote wrote)
  line_answered {new = new} {at = at} way (LineOutcome.unwritten status text replies part) come =
      EndsWithin.unwritten way.lines way.rest [] way.text text way.moments (moment_at at (state new.file).disk) _ status (another_line way.are way.single)
      way.answers replies (record { written = way.wrote.wrote; disk_is = refl }) (tells_part_then way.wrote part)

  -- a byte that is no LF waits in the line
  pub byte_waits : {bytes : List ℕ} {begins now : SessionState F Version} {before after : Seen} {line next : Line} {byte : ℕ}
      → (way : IsUnderWay Stores state IsVersion AreTwo IsUsedUp Lasts bytes begins before now line after) → byte ≢ 10
      → HasRead next (way.rest ++ byte ∷ []) → IsUnderWay Stores state IsVersion AreTwo IsUsedUp Lasts (bytes ++ byte ∷ []) begins before now next after
  byte_waits {byte = byte} way other come = record {
    lines = way.lines;
    rest = way.rest ++ byte ∷ [];
    text = way.text;
    moments = way.moments;
    are = more_bytes (byte ∷ []) way.are;
    single = another_byte way.rest byte way.single other;
    come = come;
    answers = way.answers;
    wrote = way.wrote;
  }

  -- memory ran out for a byte
  pub no_room : {bytes : List ℕ} {begins now : SessionState F Version} {before at after : Seen} {line : Line} {status : ℕ} (byte : ℕ)
      → IsUnderWay Stores state IsVersion AreTwo IsUsedUp Lasts bytes begins before now line at
      → IsPrinted at.written after.written (refused_for OutOfMemory) status → after.moments ≡ at.moments
      → EndsWithin Stores state IsVersion AreTwo IsUsedUp Lasts (bytes ++ byte ∷ []) begins now before after status
  no_room {bytes} {begins} {now} {before} {at} {after} byte way (IsPrinted.told line is wrote same) none =
      subst (EndsWithin Stores state IsVersion AreTwo IsUsedUp Lasts (bytes ++ byte ∷ []) begins now before after) (sym same)
      (EndsWithin.no_memory way.lines (way.rest ++ byte ∷ []) way.text way.moments (more_bytes (byte ∷ []) way.are) way.answers
      (tells_more (fault_line OutOfMemory) way.wrote (subst (Appends at.written after.written) is wrote) none))
  no_room {bytes} {begins} {now} {before} {at} {after} byte way (IsPrinted.untold line is part same) none =
      subst (EndsWithin Stores state IsVersion AreTwo IsUsedUp Lasts (bytes ++ byte ∷ []) begins now before after) (sym same)
      (EndsWithin.untold way.lines (way.rest ++ byte ∷ []) way.text way.moments (more_bytes (byte ∷ []) way.are) way.answers
      (tells_part_more (fault_line OutOfMemory) way.wrote (subst (AppendsPart at.written after.written) is part) none))

  -- what is read behind the end of a session is not looked at
  pub ended_before : {bytes : List ℕ} {begins ends : SessionState F Version} {before after : Seen} {status : ℕ} (more : List ℕ)
      → EndsWithin Stores state IsVersion AreTwo IsUsedUp Lasts bytes begins ends before after status
      → EndsWithin Stores state IsVersion AreTwo IsUsedUp Lasts (bytes ++ more) begins ends before after status
  ended_before more (EndsWithin.quits lines line behind text moments are answers asks wrote) =
      EndsWithin.quits lines line (behind ++ more) text moments (more_bytes more are) answers asks wrote
  ended_before more (EndsWithin.refuses lines line behind text reply moments moment old status are answers replies high begun wrote) =
      EndsWithin.refuses lines line (behind ++ more) text reply moments moment old status (more_bytes more are) answers replies high begun wrote
  ended_before more (EndsWithin.no_memory lines rest text moments are answers wrote) =
      EndsWithin.no_memory lines (rest ++ more) text moments (more_bytes more are) answers wrote
  ended_before more (EndsWithin.unwritten lines line behind text reply moments moment old status are answers replies begun part) =
      EndsWithin.unwritten lines line (behind ++ more) text reply moments moment old status (more_bytes more are) answers replies begun part
  ended_before more (EndsWithin.untold lines rest text moments are answers part) =
      EndsWithin.untold lines (rest ++ more) text moments (more_bytes more are) answers part

  -- nothing is read yet
  pub nothing_read : {begins : SessionState F Version} (before : Seen) {line : Line} → HasRead line []
      → IsUnderWay Stores state IsVersion AreTwo IsUsedUp Lasts [] begins before begins line before
  nothing_read before come = record {
    lines = [];
    rest = [];
    text = [];
    moments = [];
    are = no_lines;
    single = nothing_waits;
    come = come;
    answers = AnswersLines.none;
    wrote = tells_nothing before;
  }

  -- the status of a session whose last line is answered
  no_more : (status : ℕ) → status ≤ 1 → status_at_end Stores state IsVersion AreTwo IsUsedUp Lasts status ≡ 0
  no_more status low = rw (le-ltb 1 status low) refl

  one_more : (status : ℕ) → 1 < status → status_at_end Stores state IsVersion AreTwo IsUsedUp Lasts status ≡ status
  one_more status high = rw (lt-ltb 1 status high) refl

  -- the input has ended, and what stands behind its last LF is answered
  pub last_answered : {bytes : List ℕ} {begins old new : SessionState F Version} {left : Option (List ℕ)} {before at after : Seen} {line : Line}
      {result : Option ℕ} {status : ℕ}
      → (way : IsUnderWay Stores state IsVersion AreTwo IsUsedUp Lasts bytes begins before old line at) → IsAtEnd left
      → OutcomeOf Stores state IsVersion AreTwo IsUsedUp Lasts AsItIs way.rest old new at after result
      → (result ≡ None → status ≡ 0) → ((ended : ℕ) → result ≡ Some ended → status ≡ ended)
      → IsSession Stores state IsVersion AreTwo IsUsedUp Lasts bytes begins new left before after status
  last_answered {bytes} {begins} {old} {new} {left} {before} {at} {after} way at_end (LineOutcome.goes_on status text replies low wrote) none some =
      subst (IsSession Stores state IsVersion AreTwo IsUsedUp Lasts bytes begins new left before after) (no_more status low ∙ sym (none refl))
      (IsSession.at_end way.lines way.rest way.text text way.moments (moment_at at (state new.file).disk) old status way.are way.single at_end way.answers
      replies (record { written = way.wrote.wrote; disk_is = refl }) (tells_then way.wrote wrote))
  last_answered {bytes} {begins} {old} {new} {left} {before} {at} {after} way at_end (LineOutcome.quits (asks, same) kept) none some =
      subst (IsSession Stores state IsVersion AreTwo IsUsedUp Lasts bytes begins new left before after) (sym (some 0 refl))
      (IsSession.last_quits way.lines way.rest way.text way.moments way.are way.single at_end
      (subst (AnswersLines Stores state IsVersion AreTwo IsUsedUp Lasts begins before.written way.lines way.text way.moments) (sym same) way.answers)
      asks
      (subst (λ o. Wrote before o way.text way.moments) (sym kept) way.wrote))
  last_answered {bytes} {begins} {old} {new} {left} {before} {at} {after} way at_end (LineOutcome.refuses status text replies high wrote) none some =
      subst (IsSession Stores state IsVersion AreTwo IsUsedUp Lasts bytes begins new left before after) (one_more status high ∙ sym (some status refl))
      (IsSession.at_end way.lines way.rest way.text text way.moments (moment_at at (state new.file).disk) old status way.are way.single at_end way.answers
      replies (record { written = way.wrote.wrote; disk_is = refl }) (tells_then way.wrote wrote))
  last_answered {bytes} {begins} {old} {new} {left} {before} {at} {after} way at_end (LineOutcome.unwritten status text replies part) none some =
      subst (IsSession Stores state IsVersion AreTwo IsUsedUp Lasts bytes begins new left before after) (sym (some 4 refl))
      (IsSession.last_unwritten way.lines way.rest way.text text way.moments (moment_at at (state new.file).disk) old status way.are way.single at_end
      way.answers replies (record { written = way.wrote.wrote; disk_is = refl }) (tells_part_then way.wrote part))

  -- the input failed
  pub input_failed : {bytes : List ℕ} {begins now : SessionState F Version} {left : Option (List ℕ)} {before after : Seen} {line : Line}
      → IsUnderWay Stores state IsVersion AreTwo IsUsedUp Lasts bytes begins before now line after
      → IsSession Stores state IsVersion AreTwo IsUsedUp Lasts bytes begins now left before after 4
  input_failed way = IsSession.unread way.lines way.rest way.text way.moments way.are way.single way.answers way.wrote

  -- it has ended before the last of these bytes
  pub stopped_within : (first more all : List ℕ) (begins now : SessionState F Version) (before after : Seen) (line : Line) (result : Option ℕ)
      → first ++ more ≡ all → is_some result ≡ true → Continues Stores state IsVersion AreTwo IsUsedUp Lasts first begins before now line after result
      → Continues Stores state IsVersion AreTwo IsUsedUp Lasts all begins before now line after result
  stopped_within first more all begins now before after line None same some goes = absurd (nothing some)
    where
      nothing : false ≡ true → ⊥
      nothing e = cc
  stopped_within first more all begins now before after line (Some status) same some ended =
      subst (λ bs. EndsWithin Stores state IsVersion AreTwo IsUsedUp Lasts bs begins now before after status) same (ended_before more ended)

  -- it has not, and goes on with these
  pub still_under_way : (first all : List ℕ) (begins now : SessionState F Version) (before after : Seen) (line : Line) (result : Option ℕ)
      → first ≡ all → is_some result ≡ false → Continues Stores state IsVersion AreTwo IsUsedUp Lasts first begins before now line after result
      → IsUnderWay Stores state IsVersion AreTwo IsUsedUp Lasts all begins before now line after
  still_under_way first all begins now before after line None same none goes =
      subst (λ bs. IsUnderWay Stores state IsVersion AreTwo IsUsedUp Lasts bs begins before now line after) same goes
  still_under_way first all begins now before after line (Some status) same none ended = absurd (differ none)
    where
      differ : true ≡ false → ⊥
      differ e = cc
