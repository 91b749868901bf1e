-- What the contracts of the solver's calls give for the calls of a saved table.
use Rattle.std.specs.Prelude.{◌≡◌, ℕ, Bool, true, false, List, Option, None, Some, Result, Ok, Err, option_map}
use Rattle.std.specs.Prelude.{IsTrue, IfOk, IfErr, OnOk, OnErr, IfSome, IsErrOf}
use Rattle.std.proofs.Common.{refl, sym, subst, ◌∙◌, ap, inl, inr}
use Rattle.std.proofs.lemmas.Option.{same_Some}
use Rattle.sector_disk.specs.Disk.{Disk, Grew}
use Rattle.best_line.specs.declared.answers.Row.{Row}
use Rattle.best_line.specs.declared.answers.Value.{Value}
use Rattle.retrograde.specs.declared.records.Counts.{Counts}
use Rattle.retrograde.specs.Changes.{counts_of}
use Rattle.game_file.specs.Calls.{IsAsked}
use Rattle.game_file.specs.Growth.{GrowsAhead, IsGrownFile, IsNotGrown}
use Rattle.game_file.specs.Kept.{Kept, Layout}
use Rattle.game_file.specs.State.{State, GoesAhead}
use Rattle.solver.specs.declared.fault.SolverFault.{SolverFault}
use Rattle.solver.specs.declared.fault.SolverFault.TheVariants.{Closed, Disk as DiskFailed}
use Rattle.solver.specs.declared.replies.Reply.{Reply}
use Rattle.solver.specs.declared.replies.Reply.TheVariants.{Loaded, Worked, Refused}
use Rattle.solver.specs.Growth.{IsGrowth}
use Rattle.solver.specs.Held.{IsSound}
use Rattle.solver.specs.Machine.{Command, load, work, Does, HasReason}
use Rattle.solver.specs.Moves.{HasValueByText}
use Rattle.solver.specs.Opened.{CreateCause, OpenCause}
use Rattle.solver.specs.Queries.{OfKept, HasLine, HasRows, HasValueAt, HasText, Tells}
use Rattle.solver.specs.Runs.{IsTurnWithCause}
use Rattle.solver.specs.Steps.{IsDone, IsRefused}
use Rattle.solver.proofs.Refusals.{apart}
use Rattle.solver.proofs.Turns.{done_turn, refused_turn}
use Rattle.headline.specs.Tables.{BriefTable, Request, MayRefuse}
use Rattle.headline.specs.Brief.{answer_of, reply_of, OrBroken, IsReply, IsQuestion, HasDone, IsAnswered}
use Rattle.headline.specs.lemmas.Causes.{why_in_brief}
use Rattle.headline.specs.Tables.{TellsValue, TellsText, TellsValueOf, TellsRows, TellsLine, TellsCounts}
use Rattle.headline.specs.lemmas.Told.{IsToldBy, table_of, value_told, text_told, line_told, rows_told, counts_told}
use Rattle.headline.specs.lemmas.Histories.{calls_of, tells_of, AnsweredBy, AskedBy, BrokenBy, by_question, by_growth}

-- a fault with its cause, where E1 has that one
fails_so : {T : Type 0} (result : Result T SolverFault) (Cause : SolverFault → Type 0) (Grown : Type 0) → (Cause DiskFailed → Grown)
    → IfErr result Cause → IfErr result (λ fault. fault ≡ DiskFailed → Grown)
fails_so (Ok value) Cause Grown so has = tt
fails_so (Err fault) Cause Grown so has = λ is. so (subst Cause is has)

-- what a refusal says, from what it said
pub each_err : {T E : Type 0} (result : Result T E) (P Q : E → Type 0) → ((e : E) → P e → Q e) → IfErr result P → IfErr result Q
each_err (Ok value) P Q so has = tt
each_err (Err e) P Q so has = so e has

-- E1 of a refused `create` and of a refused `open`
pub create_failed : (disk : Disk) (before now : ℕ) (fault : SolverFault) → CreateCause disk before now fault → fault ≡ DiskFailed → Grew before now
create_failed disk before now fault cause is = subst (λ (f : SolverFault). CreateCause disk before now f) is cause

pub open_failed : (Stores : ℕ → Layout) (disk : Disk) (before now : ℕ) (fault : SolverFault) → OpenCause Stores disk before now fault
    → fault ≡ DiskFailed → Grew before now
open_failed Stores disk before now fault cause is = subst (λ (f : SolverFault). OpenCause Stores disk before now f) is cause

-- E1 has its cause, whichever the command
disk_failed : (command : Command) (old new : State) → HasReason (Refused DiskFailed) command old new → Grew old.failures new.failures
disk_failed (load text goal) old new cause = cause
disk_failed (work units) old new cause = cause

-- what is not shut is open
not_shut : (closed : Bool) → (closed ≡ true → ⊥) → closed ≡ false
not_shut false never = refl
not_shut true never = absurd (never refl)

-- units are told of `work` alone, with the counts of the table
work_does : (command : Command) (old new : Option Kept) (units : ℕ) (counts : Counts) → Does (Worked units counts) command old new
    → (kept : Kept) × (new ≡ Some kept) × (counts ≡ counts_of kept.table)
work_does (load text goal) old new units counts does = absurd does
work_does (work asked) old new units counts does = (does.is, does.worked, does.counted)

module _ {S : Type 0} (Stores : ℕ → Layout) (state : S → State) (ready : S → Type 0) (was is : S) where
  -- what a call answers
  pub is_reply : {T : Type 0} (result : Result T SolverFault) (Cause : SolverFault → Type 0)
      → ((state was).closed ≡ true → IsErrOf result Closed) → (Cause DiskFailed → Grew (state was).failures (state is).failures)
      → (ready was → IfErr result Cause) → IsReply (calls_of Stores state ready) was is result
  is_reply result Cause shut so cause = record {
    closed = shut;
    failed = λ here. fails_so result Cause (Grew (state was).failures (state is).failures) so (cause here);
  }

  -- a question
  pub is_question : {T : Type 0} (result : Result T SolverFault) (Cause : SolverFault → Type 0) (request : Request)
      → ((table : Option BriefTable) → IsToldBy (state was).kept table → IsTrue (state was).disk.honest → (state was).closed ≡ false
      → (fault : SolverFault) → Cause fault → MayRefuse request (state was).capacity table fault)
      → (ready was → ready is) → (ready was → IsAsked Stores (state was) (state is))
      → ((state was).closed ≡ true → IsErrOf result Closed × (is ≡ was)) → (Cause DiskFailed → Grew (state was).failures (state is).failures)
      → (ready was → IfErr result Cause) → IsQuestion (calls_of Stores state ready) request was is result
  is_question result Cause request in_brief still asks shut so cause = record {
    asked = record {
      shut = λ closed. (shut closed).1;
      asked = λ here. record {
        ready_still = still here;
        goes_on = (asks here).ahead.goes_on;
        asks = λ is_open. record { open_still = (asks here).closed ∙ is_open; leaves = λ honest. by_question (asks here) };
      };
    };
    reply = is_reply result Cause (λ closed. (shut closed).0) so cause;
    cause = λ table (here, is_open, told) honest.
        each_err result Cause (λ fault. MayRefuse request (state was).capacity table fault) (in_brief table (told honest) honest is_open) (cause here);
  }

  -- a command with its reply
  module _ (command : Command) (reply : Reply) (still : ready was → ready is) (ahead : GoesAhead (state was) (state is))
      (turn : ready was → IsTurnWithCause Stores command reply (state was) (state is))
      (shut : (state was).closed ≡ true → (reply ≡ Refused Closed) × (is ≡ was)) where
    is_answer : (reply ≡ Refused DiskFailed → ⊥) → AnsweredBy Stores state ready command (answer_of reply) was is
    is_answer no_failure = record {
      shut = λ closed. (ap answer_of (shut closed).0, (shut closed).1);
      answered = λ here. record {
        ready_still = still here;
        goes_on = ahead.goes_on;
        answers = λ is_open. record {
          open_still = not_shut (state is).closed (λ now. no_failure (((turn here).turn.failed is_open now).reply_is));
          reply = reply;
          turn = (turn here).turn;
          answer_is = refl;
        };
      };
    }

    is_refusal : OrBroken (AnsweredBy Stores state ready command (answer_of reply) was is) (BrokenBy Stores state ready (Some command) was is)
        (state was).disk (state is).disk
    is_refusal = go (state was).closed refl (state is).closed refl
      where
        go : (before : Bool) → (state was).closed ≡ before → (after : Bool) → (state is).closed ≡ after
            → OrBroken (AnsweredBy Stores state ready command (answer_of reply) was is) (BrokenBy Stores state ready (Some command) was is)
            (state was).disk (state is).disk
        go true closed after now = inl (record {
          shut = λ _. (ap answer_of (shut closed).0, (shut closed).1);
          answered = λ here. record {
            ready_still = still here;
            goes_on = ahead.goes_on;
            answers = λ is_open. absurd (apart (state was).closed is_open closed);
          };
        })
        go false is_open false now = inl (record {
          shut = λ closed. absurd (apart (state was).closed is_open closed);
          answered = λ here. record {
            ready_still = still here;
            goes_on = ahead.goes_on;
            answers = λ _. record { open_still = now; reply = reply; turn = (turn here).turn; answer_is = refl };
          };
        })
        go false is_open true now = inr (
          record { was_open = is_open; shut = now; ready_still = still; goes_on = ahead.goes_on; breaks = λ here. (reply, (turn here).turn) },
          ahead.closes.cause is_open now,
        )

    counted : (units : ℕ) (counts : Counts) → reply ≡ Worked units counts → ready was → (table : Option BriefTable) → tells_of state ready is table
        → IsTrue (state is).disk.honest → TellsCounts counts table
    counted units counts replied here table (there, is_open, told) honest =
        let before : IsTrue (state was).disk.honest = subst (λ (h : Bool). IsTrue h) ahead.goes_on.honest honest in
        let does = subst (λ (r : Reply). Does r command (state was).kept (state is).kept) replied ((turn here).turn.does before) in
        let (kept, loaded_is, so) = work_does command (state was).kept (state is).kept units counts does in
        counts_told (state is).kept table (told honest) counts kept loaded_is so

    reason_of : (fault : SolverFault) → reply ≡ Refused fault → ready was → HasReason (Refused fault) command (state was) (state is)
    reason_of fault replied here = subst (λ (r : Reply). HasReason r command (state was) (state is)) replied (turn here).reason

    pub is_answered : HasDone (calls_of Stores state ready) command reply was is → IsAnswered (calls_of Stores state ready) command reply was is
    is_answered done = record {
      done = done;
      counts = counted;
      closed = λ closed. (shut closed).0;
      failed = λ here replied. disk_failed command (state was) (state is) (reason_of DiskFailed replied here);
      cause = λ fault replied table (here, is_open, told) honest.
          why_in_brief (state was) (state is) table (told honest) honest is_open command fault (reason_of fault replied here);
    }

  -- by the reply, with what is done
  pub is_replied : (command : Command) (reply : Reply) → (ready was → ready is) → GoesAhead (state was) (state is)
      → (ready was → IsTurnWithCause Stores command reply (state was) (state is))
      → ((state was).closed ≡ true → (reply ≡ Refused Closed) × (is ≡ was)) → IsAnswered (calls_of Stores state ready) command reply was is
  is_replied command Loaded still ahead turn shut =
      is_answered command Loaded still ahead turn shut (is_answer command Loaded still ahead turn shut (λ same. cc))
  is_replied command (Worked units counts) still ahead turn shut = is_answered command (Worked units counts) still ahead turn shut
      (is_answer command (Worked units counts) still ahead turn shut (λ same. cc))
  is_replied command (Refused fault) still ahead turn shut =
      is_answered command (Refused fault) still ahead turn shut (is_refusal command (Refused fault) still ahead turn shut)

  -- by what a call answers
  pub is_command : {T : Type 0} (result : Result T SolverFault) (command : Command) (reply_for : T → Reply) → (ready was → ready is)
      → GoesAhead (state was) (state is) → (ready was → IfOk result (λ value. IsDone Stores command (reply_for value) (state was) (state is)))
      → (ready was → IfErr result (IsRefused Stores command (state was) (state is)))
      → ((state was).closed ≡ true → IsErrOf result Closed × (is ≡ was))
      → IsAnswered (calls_of Stores state ready) command (reply_of reply_for result) was is
  is_command (Ok value) command reply_for still ahead does refuses shut = is_replied command (reply_for value) still ahead
      (λ here. done_turn Stores command (state was) (state is) ahead (reply_for value) (does here) (λ closed. let it = (shut closed).0 in absurd cc))
      (λ closed. let it = (shut closed).0 in absurd cc)
  is_command (Err fault) command reply_for still ahead does refuses shut = is_replied command (Refused fault) still ahead
      (λ here. refused_turn Stores command (state was) (state is) ahead fault (refuses here)
      (λ closed. let it = shut closed in let err = it.0 in (cc, ap (λ s. state s) it.1)))
      (λ closed. let it = shut closed in let err = it.0 in (cc, it.1))

  -- a growth, in which a write or a sync may have failed
  pub has_grown : {T : Type 0} (result : Result T SolverFault) (pages : ℕ) → (ready was → ready is) → GrowsAhead (state was) (state is)
      → (ready was → IsGrowth Stores pages (state was) (state is)) → ((state was).closed ≡ true → IsErrOf result Closed × (is ≡ was))
      → OrBroken (AskedBy Stores state ready was is) (BrokenBy Stores state ready None was is) (state was).disk (state is).disk
  has_grown result pages still ahead grows shut = go (state was).closed refl (state is).closed refl
    where
      go : (before : Bool) → (state was).closed ≡ before → (after : Bool) → (state is).closed ≡ after
          → OrBroken (AskedBy Stores state ready was is) (BrokenBy Stores state ready None was is) (state was).disk (state is).disk
      go true closed after now = inl (record {
        shut = λ _. (shut closed).1;
        asked = λ here. record {
          ready_still = still here;
          goes_on = ahead.goes_on;
          asks = λ is_open. absurd (apart (state was).closed is_open closed);
        };
      })
      go false is_open false now = inl (record {
        shut = λ closed. absurd (apart (state was).closed is_open closed);
        asked = λ here. record {
          ready_still = still here;
          goes_on = ahead.goes_on;
          asks = λ _. record { open_still = now; leaves = λ honest. by_growth pages (grows here) };
        };
      })
      go false is_open true now = inr (
        record { was_open = is_open; shut = now; ready_still = still; goes_on = ahead.goes_on; breaks = λ here. (pages, grows here) },
        ahead.closes.cause is_open now,
      )

  -- a growth that was done, to this many pages
  pub grown_so : {T : Type 0} (result : Result T SolverFault) (pages : ℕ) → (ready was → ready is) → GrowsAhead (state was) (state is)
      → (ready was → IsGrowth Stores pages (state was) (state is)) → ((state was).closed ≡ true → IsErrOf result Closed × (is ≡ was))
      → (ready was → OnOk result (IsGrownFile Stores pages (state was) (state is))) → ready was
      → OnOk result (AskedBy Stores state ready was is × ((state is).capacity ≡ pages))
  grown_so (Ok value) pages still ahead grows shut grown there = (
    record {
      shut = λ closed. let it = (shut closed).0 in absurd cc;
      asked = λ here. record {
        ready_still = still here;
        goes_on = ahead.goes_on;
        asks = λ _. record { open_still = (grown here).is_open; leaves = λ honest. by_growth pages (grows here) };
      };
    },
    (grown there).capacity,
  )
  grown_so (Err fault) pages still ahead grows shut grown there = tt

  -- one that was refused
  pub not_grown : {T : Type 0} (result : Result T SolverFault) (pages : ℕ)
      → (ready was → OnErr result (IsNotGrown Stores pages (state was) (state is))) → ready was → OnErr result ((state is).capacity ≡ (state was).capacity)
  not_grown (Ok value) pages refused_so here = tt
  not_grown (Err fault) pages refused_so here = (refused_so here).capacity

  open_there : {T : Type 0} (result : Result T SolverFault) (value : T) → result ≡ Ok value
      → ((state was).closed ≡ true → IsErrOf result Closed × (is ≡ was)) → (b : Bool) → (state was).closed ≡ b → (state was).closed ≡ false
  open_there result value ok shut true closed = let it = (shut closed).0 in absurd cc
  open_there result value ok shut false is_open = is_open

  -- a table that an audit found right is told from then on
  pub is_right : {T : Type 0} (result : Result T SolverFault) (value : T) → (ready was → ready is) → (ready was → IsAsked Stores (state was) (state is))
      → ((state was).closed ≡ true → IsErrOf result Closed × (is ≡ was))
      → (ready was → result ≡ Ok value → IsTrue (state was).disk.honest → IsSound (state was).kept) → result ≡ Ok value → ready was
      → IsTrue (state was).disk.honest → (table : Option BriefTable) × tells_of state ready is table
  is_right result value still asks shut sound ok here honest =
      let same = (asks here).kept honest in
      let is_open = open_there result value ok shut (state was).closed refl in
      let now : IsSound (state is).kept = subst (λ (k : Option Kept). IsSound k) (sym same) (sound here ok honest) in
      (table_of (state is).kept now, (still here, (asks here).closed ∙ is_open, λ _. (now, refl)))

module _ {S : Type 0} (state : S → State) (ready : S → Type 0) (was : S) where
  -- a value that was answered
  pub tells_value : (result : Result Value SolverFault) (number : ℕ)
      → (ready was → IfOk result (λ value. Tells (HasValueAt number value) (state was)))
      → (table : Option BriefTable) → tells_of state ready was table → IsTrue (state was).disk.honest → IfOk result (λ value. TellsValue number value table)
  tells_value (Ok value) number has table (here, is_open, told) honest =
      value_told (state was).kept table (told honest) number value (has here honest)
  tells_value (Err fault) number has table told honest = tt

  -- a text, or the number of one
  pub tells_text : {T : Type 0} (result : Result T SolverFault) (number_in : T → ℕ) (text_in : T → List ℕ)
      → (ready was → IfOk result (λ found. Tells (HasText (number_in found) (text_in found)) (state was)))
      → (table : Option BriefTable) → tells_of state ready was table → IsTrue (state was).disk.honest
      → IfOk result (λ found. TellsText (number_in found) (text_in found) table)
  tells_text (Ok found) number_in text_in has table (here, is_open, told) honest =
      text_told (state was).kept table (told honest) (number_in found) (text_in found) (has here honest)
  tells_text (Err fault) number_in text_in has table told honest = tt

  -- a best line
  pub tells_line : {T : Type 0} (result : Result T SolverFault) (number : ℕ) (numbers_in : T → List ℕ)
      → (ready was → IsSound (state was).kept → IfOk result (λ line. Tells (HasLine number (numbers_in line)) (state was)))
      → (table : Option BriefTable) → tells_of state ready was table → IsTrue (state was).disk.honest
      → IfOk result (λ line. TellsLine number (numbers_in line) table)
  tells_line (Ok line) number numbers_in has table (here, is_open, told) honest =
      line_told (state was).kept table (told honest) number (numbers_in line) (has here (told honest).0 honest)
  tells_line (Err fault) number numbers_in has table told honest = tt

  -- rows
  pub tells_rows : {T : Type 0} (result : Result T SolverFault) (from count : ℕ) (rows_in : T → List Row)
      → (ready was → IfOk result (λ rows. Tells (HasRows from count (rows_in rows)) (state was)))
      → (table : Option BriefTable) → tells_of state ready was table → IsTrue (state was).disk.honest
      → IfOk result (λ rows. TellsRows from count (rows_in rows) table)
  tells_rows (Ok rows) from count rows_in has table (here, is_open, told) honest =
      rows_told (state was).kept table (told honest) from count (rows_in rows) (has here honest)
  tells_rows (Err fault) from count rows_in has table told honest = tt

  -- a value by the text of its position
  pub tells_value_of : (result : Result Value SolverFault) (text : List ℕ)
      → (ready was → IfOk result (λ value. Tells (HasValueByText text value) (state was)))
      → (table : Option BriefTable) → tells_of state ready was table → IsTrue (state was).disk.honest
      → IfOk result (λ value. TellsValueOf text value table)
  tells_value_of (Ok value) text has table (here, is_open, told) honest = go (state was).kept (told honest) (has here honest)
    where
      go : (kept : Option Kept) → IsToldBy kept table → OfKept (HasValueByText text value) kept → TellsValueOf text value table
      go None tells it = absurd it
      go (Some kept) tells it = (
        it.number,
        text_told (Some kept) table tells it.number text it.has_text,
        value_told (Some kept) table tells it.number value it.has_value,
      )
  tells_value_of (Err fault) text has table told honest = tt

  -- how far the table is
  pub tells_status : (result : Option Counts)
      → (ready was → IsTrue (state was).disk.honest → result ≡ option_map (λ kept. counts_of kept.table) (state was).kept)
      → (table : Option BriefTable) → tells_of state ready was table → IsTrue (state was).disk.honest
      → IfSome result (λ counts. TellsCounts counts table) × (result ≡ None → table ≡ None)
  tells_status result counts table (here, is_open, told) honest = go (state was).kept (told honest) result (counts here honest)
    where
      go : (kept : Option Kept) → IsToldBy kept table → (r : Option Counts) → r ≡ option_map (λ k. counts_of k.table) kept
          → IfSome r (λ counts. TellsCounts counts table) × (r ≡ None → table ≡ None)
      go None (sound, so) None is = (tt, λ _. so)
      go None (sound, so) (Some c) is = absurd cc
      go (Some kept) tells None is = absurd cc
      go (Some kept) tells (Some c) is =
          (counts_told (Some kept) table tells c kept refl (same_Some c (counts_of kept.table) is), λ none. absurd cc)
