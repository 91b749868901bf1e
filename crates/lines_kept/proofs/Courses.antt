-- A session is a course of steps on its solver.
use Rattle.std.proofs.Common.{◌≡◌, ◌≤◌, ◌<◌, inl, inr, ◌⊎◌, ℕ, List, [], ◌∷◌, ◌++◌, Option, Some, None, false, map, refl, ap, sym, ◌∙◌}
use Rattle.std.proofs.Common.{subst, append-nil, arith}
use Rattle.std.proofs.lemmas.Bool.{cases_lt}
use Rattle.std.proofs.lemmas.List.{map-append}
use Rattle.sector_disk.specs.Disk.{Disk, GoesOn, Shown, at_moment}
use Rattle.sector_disk.specs.lemmas.Moments.{goes_on_trans}
use Rattle.game_file.specs.Kept.{Layout}
use Rattle.game_file.specs.State.{State}
use Rattle.retrograde.specs.Stored.{Stored}
use Rattle.solver.specs.Histories.{IsFound, Sitting, History, no_call, in_a_growth, was_left, was_reopened, was_not_opened}
use Rattle.solver.specs.Machine.{Command}
use Rattle.solver.specs.Units.{units_in}
use Rattle.solver.specs.declared.listing.Listing.{Listing}
use Rattle.solver.specs.declared.replies.Reply.{Reply}
use Rattle.session_lines.specs.declared.input.Asked.{Asked}
use Rattle.session_lines.specs.declared.input.Asked.TheVariants as asked
use Rattle.session_lines.specs.Answered.{IsReplied}
use Rattle.session_lines.specs.Asked.{in_look}
use Rattle.session.specs.Seen.{Moment, Seen}
use Rattle.session.specs.Sessions.{SessionState, first_state, IsLineAnswered, AnswersIn, AnswersLines, EndsWithin, IsSession, IsSessionOver, AsItIs, WithEnd}
use Rattle.session.specs.declared.line_by_line.Lines.{Lines}
use Rattle.session.specs.declared.line_by_line.Lines.TheVariants.{Session, Look}
use Rattle.lines_kept.specs.Told.{told_by, command_in, command_of, commands_of, commands_in, commands_over}
use Rattle.lines_kept.specs.Uses.{Uses}
use Rattle.lines_kept.proofs.Walks.{AreTold, Step, commanded, questioned, nothing, step_goes, Walk, here, more, walk_goes, Stopped, low_is_told}
use Rattle.lines_kept.proofs.Walks.{walk_stopped, ended_stopped}

module _ {F Version : Type 0} (Stores : ℕ → Layout) (state : F → State) (IsVersion : Version → Stored (List ℕ) → F → Type 0)
    (AreTwo : Version → Version → Type 0) (IsUsedUp : F → Type 0) (Lasts : F → F → Type 0) where
  -- what a line asks for is a step
  step_in : {old new : F} {before after : List (Listing Version)} {status : ℕ} {text : List ℕ} {about : Asked} (moment : Moment)
      → moment.disk ≡ (state new).disk → (is : IsLineAnswered Stores state IsVersion AreTwo IsUsedUp Lasts old new before after status text about)
      → Step Stores (state old) (command_in Stores state IsVersion AreTwo IsUsedUp Lasts moment is) (state new)
  step_in moment same (IsLineAnswered.about_listings line was_asked replied) = questioned was_asked
  step_in moment same (IsLineAnswered.plain asked.Nothing needs is lasts kept) = nothing is.0
  step_in moment same (IsLineAnswered.plain asked.Quit needs is lasts kept) = nothing is.0
  step_in moment same (IsLineAnswered.plain asked.Usage needs is lasts kept) = nothing is.0
  step_in moment same (IsLineAnswered.plain (asked.Listing line) needs is lasts kept) = nothing is.0
  step_in moment same (IsLineAnswered.plain asked.Help needs is lasts kept) = nothing is.0
  step_in moment same (IsLineAnswered.plain asked.Status needs is lasts kept) = nothing is.0
  step_in moment same (IsLineAnswered.plain asked.Pages needs is lasts kept) = nothing is.0
  step_in moment same (IsLineAnswered.plain asked.Game needs is lasts kept) = nothing is.0
  step_in moment same (IsLineAnswered.plain (asked.Work units) needs is lasts kept) =
      commanded (Command.work (units_in units)) is.reply moment is.turn.turn same
  step_in moment same (IsLineAnswered.plain (asked.Question about) needs is lasts kept) = questioned is.0

  told_in : {old new : F} {before after : List (Listing Version)} {status : ℕ} {text : List ℕ} {about : Asked} (moment : Moment) → status ≤ 1
      → (is : IsLineAnswered Stores state IsVersion AreTwo IsUsedUp Lasts old new before after status text about)
      → AreTold (command_in Stores state IsVersion AreTwo IsUsedUp Lasts moment is)
  told_in moment low (IsLineAnswered.about_listings line was_asked replied) = tt
  told_in moment low (IsLineAnswered.plain asked.Nothing needs is lasts kept) = tt
  told_in moment low (IsLineAnswered.plain asked.Quit needs is lasts kept) = tt
  told_in moment low (IsLineAnswered.plain asked.Usage needs is lasts kept) = tt
  told_in moment low (IsLineAnswered.plain (asked.Listing line) needs is lasts kept) = tt
  told_in moment low (IsLineAnswered.plain asked.Help needs is lasts kept) = tt
  told_in moment low (IsLineAnswered.plain asked.Status needs is lasts kept) = tt
  told_in moment low (IsLineAnswered.plain asked.Pages needs is lasts kept) = tt
  told_in moment low (IsLineAnswered.plain asked.Game needs is lasts kept) = tt
  told_in moment low (IsLineAnswered.plain (asked.Work units) needs is lasts kept) =
      (low_is_told (Command.work (units_in units)) is.reply (subst (λ n. n ≤ 1) is.status_is low), tt)
  told_in moment low (IsLineAnswered.plain (asked.Question about) needs is lasts kept) = tt

  look_is : (about : Asked) (old new : F) (status : ℕ) (text : List ℕ) → IsReplied Stores (in_look about) (state old) (state new) status text
      → Step Stores (state old) [] (state new)
  look_is asked.Nothing old new status text is = nothing is.0
  look_is asked.Quit old new status text is = nothing is.0
  look_is asked.Usage old new status text is = nothing is.0
  look_is (asked.Listing line) old new status text is = nothing is.0
  look_is asked.Help old new status text is = nothing is.0
  look_is asked.Status old new status text is = nothing is.0
  look_is asked.Pages old new status text is = nothing is.0
  look_is asked.Game old new status text is = nothing is.0
  look_is (asked.Work units) old new status text is = nothing is.0
  look_is (asked.Question about) old new status text is = questioned is.0

  step_of : (Says : List ℕ → List ℕ → Type 0) (bytes : List ℕ) (old new : F) (before after : Option (List (Listing Version))) (status : ℕ) (text : List ℕ)
      (moment : Moment) → moment.disk ≡ (state new).disk
      → (is : AnswersIn Stores state IsVersion AreTwo IsUsedUp Lasts Says bytes old new before after status text)
      → Step Stores (state old) (command_of Stores state IsVersion AreTwo IsUsedUp Lasts Says bytes old new before after status text moment is) (state new)
  step_of Says bytes old new (Some before) (Some after) status text moment same (line, says, about, asks, is) = step_in moment same is
  step_of Says bytes old new None None status text moment same (line, says, about, asks, is) = look_is about old new status text is.replied
  step_of Says bytes old new (Some before) None status text moment same (line, says, about, asks, bad) = absurd bad
  step_of Says bytes old new None (Some after) status text moment same (line, says, about, asks, bad) = absurd bad

  told_of : (Says : List ℕ → List ℕ → Type 0) (bytes : List ℕ) (old new : F) (before after : Option (List (Listing Version))) (status : ℕ) (text : List ℕ)
      (moment : Moment) → status ≤ 1 → (is : AnswersIn Stores state IsVersion AreTwo IsUsedUp Lasts Says bytes old new before after status text)
      → AreTold (command_of Stores state IsVersion AreTwo IsUsedUp Lasts Says bytes old new before after status text moment is)
  told_of Says bytes old new (Some before) (Some after) status text moment low (line, says, about, asks, is) = told_in moment low is
  told_of Says bytes old new None None status text moment low is = tt
  told_of Says bytes old new (Some before) None status text moment low (line, says, about, asks, bad) = absurd bad
  told_of Says bytes old new None (Some after) status text moment low (line, says, about, asks, bad) = absurd bad

  walk_of : {begins : SessionState F Version} {before : Option (List ℕ)} {now : SessionState F Version} {each : List (List ℕ)} {text : List ℕ}
      {moments : List Moment} → (answers : AnswersLines Stores state IsVersion AreTwo IsUsedUp Lasts begins before each text moments now)
      → Walk Stores (state begins.file) (commands_of Stores state IsVersion AreTwo IsUsedUp Lasts answers) (state now.file)
  walk_of AnswersLines.none = here
  walk_of (AnswersLines.more {old = old} {new = new} line status reply moment answers is low begun) =
      more (walk_of answers) (step_of WithEnd line old.file new.file old.listings new.listings status reply moment begun.disk_is is)
      (told_of WithEnd line old.file new.file old.listings new.listings status reply moment low is)

  -- a stop in a session ends a sitting in which those commands were answered whose replies had begun
  pub session_stopped : {bytes : List ℕ} {begins new : SessionState F Version} {left : Option (List ℕ)} {before after : Seen} {status : ℕ}
      → (it : IsSession Stores state IsVersion AreTwo IsUsedUp Lasts bytes begins new left before after status) → (state begins.file).closed ≡ false
      → (stop : ℕ) → (state begins.file).disk.clock ≤ stop → stop ≤ (state new.file).disk.clock
      → Stopped Stores (state begins.file) ((state new.file).disk.was stop) (told_by stop (commands_in Stores state IsVersion AreTwo IsUsedUp Lasts it))
  session_stopped (IsSession.within status (EndsWithin.quits each line behind text moments are answers asks wrote)) open_ stop from to =
      walk_stopped Stores (walk_of answers) open_ stop from to
  session_stopped {new = new}
      (IsSession.within status (EndsWithin.refuses each line behind text reply moments moment old status-2 are answers is high begun wrote))
      open_ stop from to =
      ended_stopped Stores (walk_of answers) open_
      (step_of WithEnd line old.file new.file old.listings new.listings status-2 reply moment begun.disk_is is) stop from to
  session_stopped (IsSession.within status (EndsWithin.no_memory each rest text moments are answers wrote)) open_ stop from to =
      walk_stopped Stores (walk_of answers) open_ stop from to
  session_stopped {new = new}
      (IsSession.within status (EndsWithin.unwritten each line behind text reply moments moment old status-2 are answers is begun part))
      open_ stop from to =
      ended_stopped Stores (walk_of answers) open_
      (step_of WithEnd line old.file new.file old.listings new.listings status-2 reply moment begun.disk_is is) stop from to
  session_stopped (IsSession.within status (EndsWithin.untold each rest text moments are answers part)) open_ stop from to =
      walk_stopped Stores (walk_of answers) open_ stop from to
  session_stopped {new = new} (IsSession.at_end each rest text reply moments moment old status are one end answers is begun wrote) open_ stop from to =
      ended_stopped Stores (walk_of answers) open_
      (step_of AsItIs rest old.file new.file old.listings new.listings status reply moment begun.disk_is is) stop from to
  session_stopped (IsSession.last_quits each rest text moments are one end answers asks wrote) open_ stop from to =
      walk_stopped Stores (walk_of answers) open_ stop from to
  session_stopped {new = new} (IsSession.last_unwritten each rest text reply moments moment old status are one end answers is begun part) open_ stop from to =
      ended_stopped Stores (walk_of answers) open_
      (step_of AsItIs rest old.file new.file old.listings new.listings status reply moment begun.disk_is is) stop from to
  session_stopped (IsSession.unread each rest text moments are one answers wrote) open_ stop from to =
      walk_stopped Stores (walk_of answers) open_ stop from to

  -- the disk goes on in a session
  pub session_goes : {bytes : List ℕ} {begins new : SessionState F Version} {left : Option (List ℕ)} {before after : Seen} {status : ℕ}
      → (it : IsSession Stores state IsVersion AreTwo IsUsedUp Lasts bytes begins new left before after status)
      → GoesOn (state begins.file).disk (state new.file).disk
  session_goes (IsSession.within status (EndsWithin.quits each line behind text moments are answers asks wrote)) = walk_goes Stores (walk_of answers)
  session_goes {new = new}
      (IsSession.within status (EndsWithin.refuses each line behind text reply moments moment old status-2 are answers is high begun wrote)) =
      goes_on_trans (walk_goes Stores (walk_of answers))
      (step_goes Stores (step_of WithEnd line old.file new.file old.listings new.listings status-2 reply moment begun.disk_is is))
  session_goes (IsSession.within status (EndsWithin.no_memory each rest text moments are answers wrote)) = walk_goes Stores (walk_of answers)
  session_goes {new = new}
      (IsSession.within status (EndsWithin.unwritten each line behind text reply moments moment old status-2 are answers is begun part)) =
      goes_on_trans (walk_goes Stores (walk_of answers))
      (step_goes Stores (step_of WithEnd line old.file new.file old.listings new.listings status-2 reply moment begun.disk_is is))
  session_goes (IsSession.within status (EndsWithin.untold each rest text moments are answers part)) = walk_goes Stores (walk_of answers)
  session_goes {new = new} (IsSession.at_end each rest text reply moments moment old status are one end answers is begun wrote) =
      goes_on_trans (walk_goes Stores (walk_of answers))
      (step_goes Stores (step_of AsItIs rest old.file new.file old.listings new.listings status reply moment begun.disk_is is))
  session_goes (IsSession.last_quits each rest text moments are one end answers asks wrote) = walk_goes Stores (walk_of answers)
  session_goes {new = new} (IsSession.last_unwritten each rest text reply moments moment old status are one end answers is begun part) =
      goes_on_trans (walk_goes Stores (walk_of answers))
      (step_goes Stores (step_of AsItIs rest old.file new.file old.listings new.listings status reply moment begun.disk_is is))
  session_goes (IsSession.unread each rest text moments are one answers wrote) = walk_goes Stores (walk_of answers)

  begun_goes : {bytes : List ℕ} {new : SessionState F Version} {left : Option (List ℕ)} {before after : Seen} {status : ℕ} (which : Lines) (begins : F)
      → (it : IsSession Stores state IsVersion AreTwo IsUsedUp Lasts bytes (first_state begins which) new left before after status)
      → GoesOn (state begins).disk (state new.file).disk
  begun_goes Session begins it = session_goes it
  begun_goes Look begins it = session_goes it

  pub begun_stopped : {bytes : List ℕ} {new : SessionState F Version} {left : Option (List ℕ)} {before after : Seen} {status : ℕ} (which : Lines) (begins : F)
      → (it : IsSession Stores state IsVersion AreTwo IsUsedUp Lasts bytes (first_state begins which) new left before after status)
      → (state begins).closed ≡ false → (stop : ℕ) → (state begins).disk.clock ≤ stop → stop ≤ (state new.file).disk.clock
      → Stopped Stores (state begins) ((state new.file).disk.was stop) (told_by stop (commands_in Stores state IsVersion AreTwo IsUsedUp Lasts it))
  begun_stopped Session begins it open_ stop from to = session_stopped it open_ stop from to
  begun_stopped Look begins it open_ stop from to = session_stopped it open_ stop from to

  -- what was done with a file is a history of sittings, in which this was answered
  abbrev HasHistory : List (List (Command × Reply)) → Shown → Type 0
  HasHistory told shown = (sittings : List Sitting) × (map (λ sitting. sitting.answered) sittings ≡ told) × History Stores sittings shown

  one_more : (told : List (List (Command × Reply))) (answered : List (Command × Reply)) (sittings : List Sitting) (sitting : Sitting)
      → map (λ sitting. sitting.answered) sittings ≡ told → sitting.answered ≡ answered
      → map (λ sitting. sitting.answered) (sittings ++ sitting ∷ []) ≡ told ++ answered ∷ []
  one_more told answered sittings sitting same its =
      map-append (λ sitting. sitting.answered) sittings (sitting ∷ []) ∙ ap (λ t. t ++ sitting.answered ∷ []) same ∙ ap (λ a. told ++ a ∷ []) its

  pub history_of : {told : List (List (Command × Reply))} {shown : Shown} → Uses Stores state IsVersion AreTwo IsUsedUp Lasts told shown
      → HasHistory told shown
  history_of (Uses.made {is = is} honest created) = ([], refl, was_left (λ image may. (is.capacity, created.now honest image may)))
  history_of (Uses.lines {uses = told} which begins new before found opened it stop from to) =
      let (sittings, same, history) = history_of before in
      let (sitting, is, its) = begun_stopped which begins it opened.is_open stop from to in
      (sittings ++ sitting ∷ [], one_more told _ sittings sitting same its, was_reopened history found opened is)
  history_of (Uses.loaded {uses = told} text goal said moment before found opened turn begun stop from to) =
      let (sittings, same, history) = history_of before in
      let (sitting, is, its) = ended_stopped Stores here opened.is_open (commanded (Command.load text goal) said moment turn begun) stop from to in
      (sittings ++ sitting ∷ [], one_more told _ sittings sitting same its, was_reopened history found opened is)
  history_of (Uses.asked {uses = told} {was = was} before found opened is_asked stop from to) =
      let (sittings, same, history) = history_of before in
      let (sitting, is, its) = ended_stopped Stores here opened.is_open (questioned is_asked) stop from to in
      (sittings ++ sitting ∷ [], one_more told _ sittings sitting same its, was_reopened history found opened is)
  history_of (Uses.growth {uses = told} {was = was} before found opened growth stop from to) =
      let (sittings, same, history) = history_of before in
      let sitting : Sitting = record { begins = was.kept; answered = []; reached = was.kept; in_doubt = None } in (
        sittings ++ sitting ∷ [],
        one_more told [] sittings sitting same refl,
        was_reopened history found opened
            (record {
              begins = refl;
              last = was;
              reached = refl;
              used = no_call;
              is_open = opened.is_open;
              ends = in_a_growth growth (at_moment stop from to);
            }),
      )
  history_of (Uses.nothing before found leaves stop from to) =
      let (sittings, same, history) = history_of before in (sittings, same, was_not_opened history found leaves (at_moment stop from to))

  -- a session that is over was a use of the file, up to each moment of it
  pub a_session_is_a_use : (which : Lines) (disk back : Disk) (count now : ℕ) (bytes : List ℕ) (left : Option (List ℕ)) (before after : Seen) (status : ℕ)
      (told : List (List (Command × Reply))) (shown : Shown) (stop : ℕ) → Uses Stores state IsVersion AreTwo IsUsedUp Lasts told shown
      → IsFound Stores shown disk
      → (over : IsSessionOver Stores state IsVersion AreTwo IsUsedUp Lasts which disk count bytes left before after status back now) → disk.clock ≤ stop
      → stop ≤ back.clock
      → (more : List (List (Command × Reply)))
      × ((more ≡ []) ⊎ (more ≡ told_by stop (commands_over Stores state IsVersion AreTwo IsUsedUp Lasts over) ∷ []))
      × Uses Stores state IsVersion AreTwo IsUsedUp Lasts (told ++ more) (back.was stop)
  a_session_is_a_use which disk back count now bytes left before after status told shown stop uses found
      (IsSessionOver.unopened why unopened none printed same) from to = (
        [],
        inl refl,
        subst (λ t. Uses Stores state IsVersion AreTwo IsUsedUp Lasts t (back.was stop)) (sym (append-nil told))
            (Uses.nothing uses found (unopened.0.leaves found.honest) stop from to),
      )
  a_session_is_a_use which disk back count now bytes left before after status told shown stop uses found
      (IsSessionOver.opened begins ends opened it gives) from to = elim (cases_lt stop (state begins).disk.clock) [
        | inl lt ↦ (
          [],
          inl refl,
          subst (λ t. Uses Stores state IsVersion AreTwo IsUsedUp Lasts t (back.was stop)) (sym (append-nil told))
              (subst (Uses Stores state IsVersion AreTwo IsUsedUp Lasts told) (sym (shown_then lt))
              (Uses.nothing uses found (opened.since found.honest) stop from (omega (arith, lt)))),
        )
        | inr le ↦ (
          told_by stop (commands_in Stores state IsVersion AreTwo IsUsedUp Lasts it) ∷ [],
          inr refl,
          subst (Uses Stores state IsVersion AreTwo IsUsedUp Lasts
              (told ++ told_by stop (commands_in Stores state IsVersion AreTwo IsUsedUp Lasts it) ∷ [])) (sym (ap (λ (d : Disk). d.was stop) gives.disk))
              (Uses.lines which begins ends uses found opened it stop le (omega (arith, to, ap (λ (d : Disk). d.clock) gives.disk))),
        )
      ]
    where
      shown_then : stop < (state begins).disk.clock → back.was stop ≡ (state begins).disk.was stop
      shown_then lt = ap (λ (d : Disk). d.was stop) gives.disk ∙ (begun_goes which begins it).past stop (omega (arith, lt))
