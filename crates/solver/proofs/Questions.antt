-- Questions change nothing, and answer from what is kept.
use Rattle.std.proofs.Common.{◌≡◌, ℕ, ◌<◌, ◌≤◌, List, slice_get, length, Option, None, Some, Result, Ok, Err, refl, sym, ◌∙◌, ap, subst, arith}
use Rattle.std.specs.Prelude.{IsSome, IfSome, IsTrue, option_map}
use Rattle.rbg_game.specs.Games.{Game}
use Rattle.rbg_read.specs.Reads.{Reads}
use Rattle.position_pack.specs.Texts.{text_of}
use Rattle.legal_moves.specs.Sources.{IsWideAt, graph_of}
use Rattle.legal_moves.specs.Compiled.{compiled_game, packing_kind, compiled_goal}
use Rattle.legal_moves.specs.declared.compiled.Compiled.{Compiled}
use Rattle.retrograde.specs.declared.records.Counts.{Counts}
use Rattle.retrograde.specs.Changes.{counts_of}
use Rattle.retrograde.specs.Sound.{IsLocallySound}
use Rattle.retrograde.specs.Stored.{Stored, IsTable, view_of}
use Rattle.game_table.specs.lemmas.Laws.{starts_are_positions, sound_tables_fit}
use Rattle.game_table.specs.Texts.{IsText}
use Rattle.table.specs.Faults.{NeedsNoPage}
use Rattle.table.specs.declared.fault.TableFault.{TableFault}
use Rattle.table.specs.declared.fault.TableFault.TheVariants as table
use Rattle.best_line.specs.Causes.{OfTable, LineStops}
use Rattle.best_line.specs.Lines.{IsBestPlay, IsToldLine}
use Rattle.best_line.specs.Rows.{AreRows}
use Rattle.best_line.specs.Values.{IsValue}
use Rattle.best_line.specs.declared.answers.Row.{Row}
use Rattle.best_line.specs.declared.answers.Value.{Value}
use Rattle.best_line.specs.declared.fault.LineFault.{LineFault}
use Rattle.best_line.specs.declared.fault.LineFault.TheVariants as line
use Rattle.game_file.specs.Causes.{FileTableCause}
use Rattle.game_file.specs.Kept.{Kept}
use Rattle.game_file.specs.State.{State}
use Rattle.audit.specs.Answers.{IsAnswer, IsTableSo}
use Rattle.audit.specs.Causes.{HasWide}
use Rattle.audit.specs.Causes as audit_causes
use Rattle.audit.specs.declared.fault.AuditFault.{AuditFault}
use Rattle.audit.specs.declared.fault.AuditFault.TheVariants as audits
use Rattle.audit.specs.declared.verdict.Verdict.{Verdict}
use Rattle.solver.specs.Audits.{HasVerdict, IsSoInGame, HasWidePosition, AuditCause}
use Rattle.solver.specs.Faults.{line_fault, table_fault, audit_fault}
use Rattle.solver.specs.declared.fault.SolverFault.{SolverFault}
use Rattle.solver.specs.declared.fault.SolverFault.TheVariants as solver
use Rattle.solver.specs.Held.{IsSound, graph_in, wide_in}
use Rattle.solver.specs.State.{IsMadeOf}
use Rattle.solver.specs.Queries.{OfKept, IsThere, HasValueAt, HasRows, HasLine, HasToldLine, HasText, IsOfSome, IsOfUnknown, IsOfNone, AskCause, NumberCause, LineCause, ShowCause, FindCause}
use Rattle.solver.proofs.Work.{of_any, sound_here}

-- what an answer has in it
abbrev answered : {X E : Type 0} → X → Result X E → X
answered other (Ok x) = x
answered other (Err e) = other

-- the same answer, of a call with other faults
pub ok_is : {X E F : Type 0} (x y : X) → ◌≡◌ {A = Result X E} (Ok x) (Ok y) → ◌≡◌ {A = Result X F} (Ok x) (Ok y)
ok_is x y is = ap (λ v. Ok v) (ap (λ r. answered x r) is)

-- what is so of each table that is kept is told of the one that is
pub tells : (kept : Option Kept) (Such : Kept → Type 0) → IsSome kept → ((k : Kept) → kept ≡ Some k → Such k) → OfKept Such kept
tells None Such some such = absurd (cc)
tells (Some k) Such some such = such k refl

-- why the table that is kept has no line from this number, by any game that its text reads to
abbrev pub StopsIn : ℕ → LineFault → Kept → Type 0
StopsIn number fault k = (game : Game) → Reads k.text game → LineStops (graph_in game k) (wide_in game k) (view_of k.table) number fault

-- the table in hand is the one that is kept
module _ (k : Kept) (stored : Stored (List ℕ)) (same : stored ≡ k.table) (fits : IsTable k.table) (counts : Counts) (counted : counts ≡ counts_of stored) where
  known_is : counts.known ≡ length k.table.positions
  known_is = ap (λ (c : Counts). c.known) counted ∙ ap (λ (t : Stored (List ℕ)). length t.positions) same

  pub is_there : (number : ℕ) → number < counts.known → IsThere number k
  is_there number less = omega (arith, less, known_is)

  pub not_there : (number : ℕ) → counts.known ≤ number → IsThere number k → ⊥
  not_there number past there = omega (arith, past, there, known_is)

  its_table : IsTable stored
  its_table = subst (λ (t : Stored (List ℕ)). IsTable t) (sym same) fits

  pub value_found : (number : ℕ) (value : Value) → number < counts.known → (IsTable stored → IsValue (view_of stored) number value) → HasValueAt number value k
  value_found number value less found = record {
    there = is_there number less;
    value_is = subst (λ (t : Stored (List ℕ)). IsValue (view_of t) number value) same (found its_table);
  }

  pub rows_found : (from count : ℕ) (rows : List Row) → from < counts.known → (IsTable stored → AreRows (view_of stored) from count rows)
      → HasRows from count rows k
  rows_found from count rows less found = record {
    there = is_there from less;
    rows_are = subst (λ (t : Stored (List ℕ)). AreRows (view_of t) from count rows) same (found its_table);
  }

  module _ (compiled : Compiled) (made : IsMadeOf compiled k) where
    -- the position with this number has this text
    pub text_found : (number : ℕ) (bytes text : List ℕ) → IsText (packing_kind compiled) (compiled_game compiled) bytes text
        → slice_get stored.positions number ≡ Some bytes → HasText number text k
    text_found number bytes text it at = record {
      game = compiled_game compiled;
      reads = made.reads;
      bytes = bytes;
      text_is = of_any compiled k made (λ p w g. IsText p g bytes text) (compiled_game compiled) made.reads it;
      number_is = subst (λ (t : Stored (List ℕ)). slice_get t.positions number ≡ Some bytes) same at;
    }

    -- no position that is known has this text
    pub text_unknown : (bytes text : List ℕ) → IsText (packing_kind compiled) (compiled_game compiled) bytes text
        → ((i : ℕ) → slice_get stored.positions i ≡ Some bytes → ⊥) → IsOfUnknown text k
    text_unknown bytes text it unknown = record {
      game = compiled_game compiled;
      reads = made.reads;
      bytes = bytes;
      text_is = of_any compiled k made (λ p w g. IsText p g bytes text) (compiled_game compiled) made.reads it;
      unknown = subst (λ (t : Stored (List ℕ)). (i : ℕ) → slice_get t.positions i ≡ Some bytes → ⊥) same unknown;
    }

    -- a position without a text is in no sound table
    pub no_text : (number : ℕ) (bytes : List ℕ) → slice_get stored.positions number ≡ Some bytes
        → ((text : List ℕ) → IsText (packing_kind compiled) (compiled_game compiled) bytes text → ⊥) → IsSound (Some k) → ⊥
    no_text number bytes at none sound =
        let game = compiled_game compiled in
        let (positions, fits) = sound_tables_fit (packing_kind compiled) (compiled_goal compiled) game k.table
        (starts_are_positions k.text game made.reads) (sound_here compiled k made sound) in
        let (position, here) = positions number bytes (subst (λ (t : Stored (List ℕ)). slice_get t.positions number ≡ Some bytes) same at) in
        none (text_of game position) (record { at = position; spelled = record { position = here.position_is; text_is = refl }; bytes_are = here.bytes_are })

    sound_stored : IsSound (Some k) → IsLocallySound (graph_of (packing_kind compiled) (compiled_goal compiled) (compiled_game compiled))
        (IsWideAt (packing_kind compiled) (compiled_game compiled)) stored
    sound_stored sound =
        subst (λ (t : Stored (List ℕ)). IsLocallySound (graph_of (packing_kind compiled) (compiled_goal compiled) (compiled_game compiled))
        (IsWideAt (packing_kind compiled) (compiled_game compiled)) t) (sym same) (sound_here compiled k made sound)

    -- a line by the game in memory is one by any that the text reads to
    pub line_found : (number : ℕ) (numbers : List ℕ) → IsSound (Some k)
        → (IsLocallySound (graph_of (packing_kind compiled) (compiled_goal compiled) (compiled_game compiled))
        (IsWideAt (packing_kind compiled) (compiled_game compiled)) stored
        → IsBestPlay (graph_of (packing_kind compiled) (compiled_goal compiled) (compiled_game compiled)) (view_of stored) number numbers)
        → HasLine number numbers k
    line_found number numbers sound found = λ game read.
        of_any compiled k made (λ p w g. IsBestPlay (graph_of p w g) (view_of k.table) number numbers) game read
        (subst (λ (t : Stored (List ℕ)). IsBestPlay (graph_of (packing_kind compiled) (compiled_goal compiled) (compiled_game compiled))
        (view_of t) number numbers) same (found (sound_stored sound)))

    -- so is the line that the table tells
    pub told_found : (number : ℕ) (numbers : List ℕ)
        → (IsTable stored → IsToldLine (graph_of (packing_kind compiled) (compiled_goal compiled) (compiled_game compiled))
        (view_of stored) number numbers) → HasToldLine number numbers k
    told_found number numbers found = λ game read.
        of_any compiled k made (λ p w g. IsToldLine (graph_of p w g) (view_of k.table) number numbers) game read
        (subst (λ (t : Stored (List ℕ)). IsToldLine (graph_of (packing_kind compiled) (compiled_goal compiled) (compiled_game compiled))
        (view_of t) number numbers) same (found its_table))

    -- and why there is none
    pub stops_found : (number : ℕ) (fault : LineFault)
        → (IsTable stored → LineStops (graph_of (packing_kind compiled) (compiled_goal compiled) (compiled_game compiled))
        (IsWideAt (packing_kind compiled) (compiled_game compiled)) (view_of stored) number fault)
        → StopsIn number fault k
    stops_found number fault found = λ game read.
        of_any compiled k made (λ p w g. LineStops (graph_of p w g) (IsWideAt p g) (view_of k.table) number fault) game read
        (subst (λ (t : Stored (List ℕ)). LineStops (graph_of (packing_kind compiled) (compiled_goal compiled) (compiled_game compiled))
        (IsWideAt (packing_kind compiled) (compiled_game compiled)) (view_of t) number fault) same
        (found its_table))

    -- there is none where the position has no value
    pub stops_unsettled : (number : ℕ) (fault : LineFault) → fault ≡ line.NotSettled
        → (IsTable stored → LineStops (graph_of (packing_kind compiled) (compiled_goal compiled) (compiled_game compiled))
        (IsWideAt (packing_kind compiled) (compiled_game compiled)) (view_of stored) number fault)
        → IsTable stored → (view_of stored).value number ≡ None
    stops_unsettled number fault is found it =
        subst (λ (f : LineFault). LineStops (graph_of (packing_kind compiled) (compiled_goal compiled) (compiled_game compiled))
        (IsWideAt (packing_kind compiled) (compiled_game compiled)) (view_of stored) number f) is (found it)

    -- the verdict by the game in memory is that by any that the text reads to
    pub verdict_found : (verdict : Verdict)
        → (IsTable stored → IsAnswer (graph_of (packing_kind compiled) (compiled_goal compiled) (compiled_game compiled))
        (IsWideAt (packing_kind compiled) (compiled_game compiled)) stored verdict) → HasVerdict verdict k
    verdict_found verdict found = λ game read.
        of_any compiled k made (λ p w g. IsAnswer (graph_of p w g) (IsWideAt p g) k.table verdict) game read
        (subst (λ (t : Stored (List ℕ)). IsAnswer (graph_of (packing_kind compiled) (compiled_goal compiled) (compiled_game compiled))
        (IsWideAt (packing_kind compiled) (compiled_game compiled)) t verdict) same (found its_table))

    -- so is what a right table says
    pub so_found : (IsTable stored → IsTableSo (graph_of (packing_kind compiled) (compiled_goal compiled) (compiled_game compiled))
        (view_of stored)) → IsSoInGame k
    so_found found = λ game read.
        of_any compiled k made (λ p w g. IsTableSo (graph_of p w g) (view_of k.table)) game read
        (subst (λ (t : Stored (List ℕ)). IsTableSo (graph_of (packing_kind compiled) (compiled_goal compiled) (compiled_game compiled))
        (view_of t)) same (found its_table))

    -- a table that is right is locally sound
    pub sound_found : (IsTable stored → IsLocallySound (graph_of (packing_kind compiled) (compiled_goal compiled) (compiled_game compiled))
        (IsWideAt (packing_kind compiled) (compiled_game compiled)) stored) → IsSound (Some k)
    sound_found found = (
      compiled_game compiled,
      made.reads,
      of_any compiled k made (λ p w g. IsLocallySound (graph_of p w g) (IsWideAt p g) k.table) (compiled_game compiled) made.reads
          (subst (λ (t : Stored (List ℕ)). IsLocallySound
          (graph_of (packing_kind compiled) (compiled_goal compiled) (compiled_game compiled))
          (IsWideAt (packing_kind compiled) (compiled_game compiled)) t) same (found its_table)),
    )

    -- and that some expanded position is too wide
    pub wide_found : HasWide (IsWideAt (packing_kind compiled) (compiled_game compiled)) stored → HasWidePosition k
    wide_found found = λ game read.
        of_any compiled k made (λ p w g. HasWide (IsWideAt p g) k.table) game read
        (subst (λ (t : Stored (List ℕ)). HasWide (IsWideAt (packing_kind compiled) (compiled_game compiled)) t) same found)

    -- there is no line
    pub unsettled : (number : ℕ) → number < counts.known → (IsTable stored → (view_of stored).value number ≡ None) → IsThere number k
        × ((view_of k.table).value number ≡ None)
    unsettled number less none = (is_there number less, subst (λ (t : Stored (List ℕ)). (view_of t).value number ≡ None) same (none its_table))

    pub never : (Impossible : Type 0) → IsSound (Some k)
        → (IsLocallySound (graph_of (packing_kind compiled) (compiled_goal compiled) (compiled_game compiled))
        (IsWideAt (packing_kind compiled) (compiled_game compiled)) stored → Impossible) → Impossible
    never Impossible sound cause = cause (sound_stored sound)

-- a position of the game has this text
pub text_of_some : (k : Kept) (compiled : Compiled) → IsMadeOf compiled k → (bytes text : List ℕ)
    → IsText (packing_kind compiled) (compiled_game compiled) bytes text → IsOfSome text k
text_of_some k compiled made bytes text it = record {
  game = compiled_game compiled;
  reads = made.reads;
  bytes = bytes;
  text_is = of_any compiled k made (λ p w g. IsText p g bytes text) (compiled_game compiled) made.reads it;
}

-- no position of the game has this text
pub text_of_none : (k : Kept) (compiled : Compiled) → IsMadeOf compiled k → (text : List ℕ)
    → ((bytes : List ℕ) → IsText (packing_kind compiled) (compiled_game compiled) bytes text → ⊥) → IsOfNone text k
text_of_none k compiled made text none = record {
  game = compiled_game compiled;
  reads = made.reads;
  none = of_any compiled k made (λ p w g. (bytes : List ℕ) → IsText p g bytes text → ⊥) (compiled_game compiled) made.reads none;
}

-- a fault of a table that was asked
module _ (old new : State) where
  pub ask_cause : (fault : TableFault) → NeedsNoPage fault → FileTableCause old new fault → AskCause old new (table_fault fault)
  ask_cause table.Disk no_page cause = cause
  ask_cause table.Damaged no_page cause = cause
  ask_cause table.TableFull no_page cause = no_page refl
  ask_cause table.OutOfMemory no_page cause = tt
  ask_cause table.Closed no_page cause = cause

  pub find_cause : (text : List ℕ) (fault : TableFault) → NeedsNoPage fault → FileTableCause old new fault → FindCause text old new (table_fault fault)
  find_cause text table.Disk no_page cause = cause
  find_cause text table.Damaged no_page cause = cause
  find_cause text table.TableFull no_page cause = absurd (no_page refl)
  find_cause text table.OutOfMemory no_page cause = tt
  find_cause text table.Closed no_page cause = cause

  -- why no question can be asked is why this one is not answered
  pub find_asked : (text : List ℕ) (fault : SolverFault) → AskCause old new fault → FindCause text old new fault
  find_asked text solver.NoSuchPosition cause = absurd cause
  find_asked text solver.BadPosition cause = absurd cause
  find_asked text fault cause = cause

  pub audit_asked : (fault : SolverFault) → AskCause old new fault → AuditCause old new fault
  audit_asked solver.TooWide cause = absurd cause
  audit_asked fault cause = cause

  pub line_numbered : (number : ℕ) (fault : SolverFault) → NumberCause number old new fault → LineCause number old new fault
  line_numbered number solver.NotSettled cause = absurd cause
  line_numbered number solver.Inconsistent cause = absurd cause
  line_numbered number solver.TooWide cause = absurd cause
  line_numbered number fault cause = cause

  pub show_numbered : (number : ℕ) (fault : SolverFault) → NumberCause number old new fault → ShowCause number old new fault
  show_numbered number solver.Inconsistent cause = absurd cause
  show_numbered number fault cause = cause

  pub number_cause : (number : ℕ) (fault : TableFault) → NeedsNoPage fault → FileTableCause old new fault → NumberCause number old new (table_fault fault)
  number_cause number table.Disk no_page cause = cause
  number_cause number table.Damaged no_page cause = cause
  number_cause number table.TableFull no_page cause = absurd (no_page refl)
  number_cause number table.OutOfMemory no_page cause = tt
  number_cause number table.Closed no_page cause = cause

  pub show_cause : (number : ℕ) (fault : TableFault) → NeedsNoPage fault → FileTableCause old new fault → ShowCause number old new (table_fault fault)
  show_cause number table.Disk no_page cause = cause
  show_cause number table.Damaged no_page cause = cause
  show_cause number table.TableFull no_page cause = absurd (no_page refl)
  show_cause number table.OutOfMemory no_page cause = tt
  show_cause number table.Closed no_page cause = cause

  line_table_cause : (number : ℕ) (fault : TableFault) → NeedsNoPage fault → FileTableCause old new fault → LineCause number old new (table_fault fault)
  line_table_cause number table.Disk no_page cause = cause
  line_table_cause number table.Damaged no_page cause = cause
  line_table_cause number table.TableFull no_page cause = absurd (no_page refl)
  line_table_cause number table.OutOfMemory no_page cause = tt
  line_table_cause number table.Closed no_page cause = cause

  audit_table_cause : (fault : TableFault) → NeedsNoPage fault → FileTableCause old new fault → AuditCause old new (table_fault fault)
  audit_table_cause table.Disk no_page cause = cause
  audit_table_cause table.Damaged no_page cause = cause
  audit_table_cause table.TableFull no_page cause = absurd (no_page refl)
  audit_table_cause table.OutOfMemory no_page cause = tt
  audit_table_cause table.Closed no_page cause = cause

  -- why there is no verdict
  pub audit_cause : {Fails : TableFault → Type 0} (fault : AuditFault)
      → (fault ≡ audits.TooWide → IsTrue old.disk.honest → OfKept HasWidePosition old.kept)
      → audit_causes.OfTableFault NeedsNoPage fault → audit_causes.OfTableFault Fails fault → ((f : TableFault) → Fails f → FileTableCause old new f)
      → AuditCause old new (audit_fault fault)
  audit_cause audits.TooWide wide no_page fails cause = wide refl
  audit_cause audits.OutOfMemory wide no_page fails cause = tt
  audit_cause (audits.Table fault) wide no_page fails cause = audit_table_cause fault no_page (cause fault fails)

  -- why there is no line
  pub line_cause : {Fails : TableFault → Type 0} (number : ℕ) (fault : LineFault)
      → (fault ≡ line.NotSettled → IsTrue old.disk.honest → OfKept (λ k. IsThere number k × ((view_of k.table).value number ≡ None)) old.kept)
      → (IsTrue old.disk.honest → IsSound old.kept → (fault ≡ line.Inconsistent → ⊥) × (fault ≡ line.TooWide → ⊥))
      → (IsTrue old.disk.honest → OfKept (StopsIn number fault) old.kept)
      → OfTable NeedsNoPage fault → OfTable Fails fault → ((f : TableFault) → Fails f → FileTableCause old new f) → LineCause number old new (line_fault fault)
  line_cause number line.NotSettled unsettled sound stops no_page fails cause = unsettled refl
  line_cause number line.Inconsistent unsettled sound stops no_page fails cause = (λ honest is. (sound honest is).0 refl, stops)
  line_cause number line.TooWide unsettled sound stops no_page fails cause = (λ honest is. (sound honest is).1 refl, stops)
  line_cause number line.OutOfMemory unsettled sound stops no_page fails cause = tt
  line_cause number (line.Table fault) unsettled sound stops no_page fails cause = line_table_cause number fault no_page (cause fault fails)

-- by the counts that a whole file tells, no known position has this number
pub past_counts : (counts : Option Counts) (kept : Option Kept) (told : Counts) (number : ℕ) → counts ≡ option_map (λ k. told) kept → told.known ≤ number
    → IfSome counts (λ c. c.known ≤ number)
past_counts counts None told number is past = rw is tt
past_counts counts (Some k) told number is past = rw is past
