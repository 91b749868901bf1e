-- Positions on an input are answered line by line.
use Rattle.std.proofs.Common.{◌≡◌, ◌≢◌, ◌<◌, ◌≤◌, inl, inr, ℕ, List, [], ◌∷◌, ◌++◌, length, Option, Some, None, true, false, refl, ap, sym, ◌∙◌, subst, arith}
use Rattle.std.specs.Prelude.{OnOk, Result, Ok, Err}
use Rattle.std.specs.Option.{is_some}
use Rattle.std.specs.Io.KnownBytes.{Appends, IsAtEnd}
use Rattle.std.proofs.lemmas.Bool.{cases_lt}
use Rattle.std.proofs.lemmas.List.{length-append}
use Rattle.rbg_game.specs.Games.{Game}
use Rattle.session_lines.specs.Answers.{TellsMovesAt, TellsRefusal}
use Rattle.session_lines.specs.Asked.{IsBare}
use Rattle.session_lines.specs.Parts.{AppendsPart, IsTextWritten}
use Rattle.solver.specs.declared.fault.SolverFault.TheVariants.{BadPosition, OutOfMemory}
use Rattle.session_lines.proofs.Appends.{appends_then, appends_nothing}
use Rattle.session_lines.proofs.PartLemmas.{part_before, part_behind, whole_part, written_as}
use Rattle.session.specs.Cut.{IsCutInto}
use Rattle.session.specs.ByLine.{AnswersPosition, AnswersPositions, AreMovesByLine, ArePositionsUnderWay, EndByLine, GoesOnByLine, HasTaken, TellsPosition}
use Rattle.session.specs.declared.position_line.PositionLine.{PositionLine}
use Rattle.session.specs.declared.position_line.TheConstants.{MOST_BYTES}
use Rattle.session.proofs.CutLines.{another_byte, another_line, more_bytes, no_lines, nothing_waits}

true_is_not_false : {A : Type 0} → true ≡ false → A
true_is_not_false e = absurd (no e)
  where
    no : true ≡ false → ⊥
    no e = cc

-- a line of no bytes
pub taken_none : (line : PositionLine) → line.bytes.items ≡ [] → line.is_too_long ≡ false → HasTaken line []
taken_none line none short = record {
  kept = λ is. none;
  few = omega (arith, ap length none);
  long = λ is. true_is_not_false (sym is ∙ short);
}

-- one byte more, for which there was room
pub taken_more : {E : Type 0} (old new : PositionLine) (bytes : List ℕ) (byte : ℕ) (result : Result Unit E) → HasTaken old bytes
    → length old.bytes.items < MOST_BYTES → new.is_too_long ≡ old.is_too_long → OnOk result (new.bytes.items ≡ old.bytes.items ++ byte ∷ [])
    → OnOk result (HasTaken new (bytes ++ byte ∷ []))
taken_more old new bytes byte (Err e) taken room same more = tt
taken_more old new bytes byte (Ok u) taken room same more = record {
  kept = λ is. more ∙ ap (λ bs. bs ++ byte ∷ []) (taken.kept (sym same ∙ is));
  few = omega (arith, room, ap length more, length-append old.bytes.items (byte ∷ []));
  long = λ is. absurd (omega (arith, room, (taken.long (sym same ∙ is)).1));
}

-- and one for which there was none
pub taken_over : (old new : PositionLine) (bytes : List ℕ) (byte : ℕ) → HasTaken old bytes → MOST_BYTES ≤ length old.bytes.items
    → new.bytes ≡ old.bytes → new.is_too_long ≡ true → HasTaken new (bytes ++ byte ∷ [])
taken_over old new bytes byte taken full same over = record {
  kept = λ is. true_is_not_false (sym over ∙ is);
  few = subst (λ bs. length bs.items ≤ MOST_BYTES) (sym same) taken.few;
  long = λ is. (omega (arith, length-append bytes (byte ∷ []), so_many old.is_too_long refl), ap (λ bs. length bs.items) same ∙ exact);
}
  where
    exact : length old.bytes.items ≡ MOST_BYTES
    exact = omega (arith, full, taken.few)

    so_many : (b : _) → old.is_too_long ≡ b → MOST_BYTES ≤ length bytes
    so_many false is = omega (arith, full, ap length (taken.kept is))
    so_many true is = omega (arith, (taken.long is).0)

module _ (game : Game) where
  -- what is told of a line that was kept whole, and of one that was not
  pub tells_short : (line : PositionLine) (bytes bare : List ℕ) {before after : Option (List ℕ)} {status : ℕ} → HasTaken line bytes
      → line.is_too_long ≡ false → IsBare line.bytes.items bare → IsTextWritten (TellsMovesAt game bare) before after status
      → IsTextWritten (TellsPosition game bytes) before after status
  tells_short line bytes bare taken short is =
      written_as (λ own text tells. record {
        short = λ few. (bare, subst (λ bs. IsBare bs bare) (taken.kept short) is, tells);
        long = λ many. absurd (omega (arith, many, taken.few, ap length (taken.kept short)));
      })

  pub tells_long : (line : PositionLine) (bytes : List ℕ) {before after : Option (List ℕ)} {status : ℕ} → HasTaken line bytes → line.is_too_long ≡ true
      → IsTextWritten (TellsRefusal BadPosition) before after status → IsTextWritten (TellsPosition game bytes) before after status
  tells_long line bytes taken long =
      written_as (λ own text tells. record {
        short = λ few. absurd (omega (arith, few, (taken.long long).0));
        long = λ many. tells;
      })

  -- the empty line behind it was written, or not
  pub blank_written : (line : List ℕ) {before mid after : Option (List ℕ)} (status : ℕ) → IsTextWritten (TellsPosition game line) before mid status → status ≢ 4
      → Appends mid after (10 ∷ []) → IsTextWritten (AnswersPosition game line) before after status
  blank_written line {before} {mid} {after} status (IsTextWritten.whole text tells wrote) other blank =
      IsTextWritten.whole (text ++ 10 ∷ []) (text, tells, refl) (appends_then before mid after text (10 ∷ []) wrote blank)
  blank_written line status (IsTextWritten.part own text tells part four) other blank = absurd (other four)

  pub blank_unwritten : (line : List ℕ) {before mid after : Option (List ℕ)} (status : ℕ) → IsTextWritten (TellsPosition game line) before mid status
      → status ≢ 4 → AppendsPart mid after (10 ∷ []) → IsTextWritten (AnswersPosition game line) before after 4
  blank_unwritten line status (IsTextWritten.whole text tells wrote) other blank =
      IsTextWritten.part status (text ++ 10 ∷ []) (text, tells, refl) (part_behind text wrote blank) refl
  blank_unwritten line status (IsTextWritten.part own text tells part four) other blank = absurd (other four)

  pub blank_left_out : (line : List ℕ) {before after : Option (List ℕ)} (status : ℕ) → IsTextWritten (TellsPosition game line) before after status
      → status ≡ 4 → IsTextWritten (AnswersPosition game line) before after 4
  blank_left_out line {before} {after} status (IsTextWritten.whole text tells wrote) four =
      IsTextWritten.part status (text ++ 10 ∷ []) (text, tells, refl) (part_before (10 ∷ []) (whole_part before after text wrote)) refl
  blank_left_out line status (IsTextWritten.part own text tells part same) four =
      IsTextWritten.part own (text ++ 10 ∷ []) (text, tells, refl) (part_before (10 ∷ []) part) refl

  -- what is written behind a text
  behind : {Tells : ℕ → List ℕ → Type 0} (text : List ℕ) {before mid after : Option (List ℕ)} {status : ℕ} → Appends before mid text
      → IsTextWritten Tells mid after status → IsTextWritten (λ own whole. (reply : List ℕ) × Tells own reply × (whole ≡ text ++ reply)) before after status
  behind text {before} {mid} {after} wrote (IsTextWritten.whole reply tells more) =
      IsTextWritten.whole (text ++ reply) (reply, tells, refl) (appends_then before mid after text reply wrote more)
  behind text wrote (IsTextWritten.part own reply tells part four) = IsTextWritten.part own (text ++ reply) (reply, tells, refl) (part_behind text wrote part) four

  -- nothing is read yet
  pub none_read : (before : Option (List ℕ)) {line : PositionLine} → HasTaken line [] → ArePositionsUnderWay game [] before line before
  none_read before taken = record {
    lines = [];
    rest = [];
    text = [];
    cut = no_lines;
    single = nothing_waits;
    taken = taken;
    answers = AnswersPositions.none;
    wrote = appends_nothing before;
  }

  -- a byte that is no LF waits in the line, or memory ran out for it
  pub waits : {bytes : List ℕ} {before after : Option (List ℕ)} {line next : PositionLine} {byte : ℕ}
      → (way : ArePositionsUnderWay game bytes before line after) → byte ≢ 10 → HasTaken next (way.rest ++ byte ∷ [])
      → ArePositionsUnderWay game (bytes ++ byte ∷ []) before next after
  waits {byte = byte} way other taken = record {
    lines = way.lines;
    rest = way.rest ++ byte ∷ [];
    text = way.text;
    cut = more_bytes (byte ∷ []) way.cut;
    single = another_byte way.rest byte way.single other;
    taken = taken;
    answers = way.answers;
    wrote = way.wrote;
  }

  pub has_no_room : {bytes : List ℕ} {before mid after : Option (List ℕ)} {line : PositionLine} {status : ℕ} (byte : ℕ)
      → ArePositionsUnderWay game bytes before line mid → IsTextWritten (TellsRefusal OutOfMemory) mid after status
      → EndByLine game (bytes ++ byte ∷ []) before after status
  has_no_room byte way refused =
      EndByLine.no_memory way.lines (way.rest ++ byte ∷ []) way.text (more_bytes (byte ∷ []) way.cut) way.answers (behind way.text way.wrote refused)

  -- LF ends a line, which is answered
  pub line_told : {bytes : List ℕ} {before mid after : Option (List ℕ)} {line next : PositionLine} {status : ℕ}
      → (way : ArePositionsUnderWay game bytes before line mid) → IsTextWritten (AnswersPosition game way.rest) mid after status → HasTaken next []
      → (result : Option ℕ) → (1 < status → result ≡ Some status) → (status ≤ 1 → result ≡ None)
      → GoesOnByLine game (bytes ++ 10 ∷ []) before next after result
  line_told {bytes} {before} {mid} {after} {next = next} {status = status} way answered none result high low = elim (cases_lt 1 status) [
    | inl more ↦ subst (GoesOnByLine game (bytes ++ 10 ∷ []) before next after) (sym (high more))
        (EndByLine.answered way.lines way.rest [] way.text (another_line way.cut way.single) way.answers (behind way.text way.wrote answered) more)
    | inr few ↦ subst (GoesOnByLine game (bytes ++ 10 ∷ []) before next after) (sym (low few)) (goes_on answered few)
  ]
    where
      goes_on : IsTextWritten (AnswersPosition game way.rest) mid after status → status ≤ 1 → ArePositionsUnderWay game (bytes ++ 10 ∷ []) before next after
      goes_on (IsTextWritten.whole reply tells wrote) few = record {
        lines = way.lines ++ way.rest ∷ [];
        rest = [];
        text = way.text ++ reply;
        cut = another_line way.cut way.single;
        single = nothing_waits;
        taken = none;
        answers = AnswersPositions.more way.rest status reply way.answers tells few;
        wrote = appends_then before mid after way.text reply way.wrote wrote;
      }
      goes_on (IsTextWritten.part own reply tells part four) few = absurd (omega (arith, few, four))

  -- what is read behind the end is not looked at
  ended_first : {bytes : List ℕ} {before after : Option (List ℕ)} {status : ℕ} (more : List ℕ) → EndByLine game bytes before after status
      → EndByLine game (bytes ++ more) before after status
  ended_first more (EndByLine.answered lines line behind text cut answers written high) =
      EndByLine.answered lines line (behind ++ more) text (more_bytes more cut) answers written high
  ended_first more (EndByLine.no_memory lines rest text cut answers written) =
      EndByLine.no_memory lines (rest ++ more) text (more_bytes more cut) answers written

  pub ended_in_chunk : (first more all : List ℕ) (before after : Option (List ℕ)) (line : PositionLine) (result : Option ℕ) → first ++ more ≡ all
      → is_some result ≡ true → GoesOnByLine game first before line after result → GoesOnByLine game all before line after result
  ended_in_chunk first more all before after line None same some goes = true_is_not_false (sym some)
  ended_in_chunk first more all before after line (Some status) same some ended =
      subst (λ bs. EndByLine game bs before after status) same (ended_first more ended)

  pub goes_on_in_chunk : (first all : List ℕ) (before after : Option (List ℕ)) (line : PositionLine) (result : Option ℕ) → first ≡ all
      → is_some result ≡ false → GoesOnByLine game first before line after result → ArePositionsUnderWay game all before line after
  goes_on_in_chunk first all before after line None same none goes = subst (λ bs. ArePositionsUnderWay game bs before line after) same goes
  goes_on_in_chunk first all before after line (Some status) same none ended = true_is_not_false none

  -- the input has ended behind a line, or within one
  pub ended_behind_a_line : {bytes : List ℕ} {left before after : Option (List ℕ)} {line : PositionLine} {status : ℕ}
      → (way : ArePositionsUnderWay game bytes before line after) → IsAtEnd left → way.rest ≡ [] → status ≡ 0
      → AreMovesByLine game bytes left before after status
  ended_behind_a_line {bytes} way at_end none zero =
      AreMovesByLine.at_end way.lines way.text at_end (subst (IsCutInto bytes way.lines) none way.cut) way.answers way.wrote zero

  pub ended_in_a_line : {bytes : List ℕ} {left before mid after : Option (List ℕ)} {line : PositionLine} {own status : ℕ}
      → (way : ArePositionsUnderWay game bytes before line mid) → IsAtEnd left → way.rest ≢ []
      → IsTextWritten (AnswersPosition game way.rest) mid after own → (1 < own → status ≡ own) → (own ≤ 1 → status ≡ 0)
      → AreMovesByLine game bytes left before after status
  ended_in_a_line {own = own} way at_end some answered high low =
      AreMovesByLine.last way.lines way.rest way.text own at_end way.cut way.single some way.answers (behind way.text way.wrote answered) high low

  -- the input failed
  pub not_read : {bytes : List ℕ} {left before after : Option (List ℕ)} {line : PositionLine} → ArePositionsUnderWay game bytes before line after
      → AreMovesByLine game bytes left before after 4
  not_read way = AreMovesByLine.unread way.lines way.rest way.text way.cut way.answers way.wrote refl
