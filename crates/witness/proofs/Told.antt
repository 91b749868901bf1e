-- What the table of the small game is, opened again, and what it tells.
use Rattle.std.proofs.Common.{◌≡◌, ℕ, ◌⊎◌, inl, inr, ◌<◌, ◌^◌, List, [], ◌∷◌, length, get_or, replicate, Option, Some, None, refl, sym, ap, ◌∙◌, subst, arith}
use Rattle.std.proofs.lemmas.List.{length-replicate}
use Rattle.std.specs.Prelude.{IsTrue, IfSome, IsSome}
use Rattle.std.specs.List.{AllByRecursion}
use Rattle.sector_disk.specs.Disk.{Image, Shown, Disk, size, MayLeave, IsFresh, Grew}
use Rattle.sector_disk.specs.lemmas.Moments.{reads_left}
use Rattle.root_pair.specs.Root.{BeginsAsTable}
use Rattle.rbg_game.specs.Games.{Game}
use Rattle.rbg_game.specs.declared.roles.Player.{Player}
use Rattle.rbg_game.specs.declared.roles.Player.TheVariants.{First}
use Rattle.rbg_read.specs.Reads.{Reads}
use Rattle.rbg_read.proofs.OneGame.{one_game, no_fault}
use Rattle.rbg_read.specs.declared.fault.GameFault.{GameFault}
use Rattle.rbg_read.specs.declared.fault.GameFault.TheVariants as game_fault
use Rattle.legal_moves.specs.Sources.{IsWideAt, graph_of}
use Rattle.retrograde.specs.declared.records.Counts.{Counts}
use Rattle.retrograde.specs.Sound.{IsLocallySound}
use Rattle.retrograde.specs.Stored.{view_of}
use Rattle.retrograde.specs.View.{IsFinished}
use Rattle.game_table.specs.Work.{AreDone, StopsWith}
use Rattle.frontier.specs.Causes.{IsRefusal}
use Rattle.frontier.specs.declared.fault.StepFault.{StepFault}
use Rattle.frontier.specs.declared.fault.StepFault.TheVariants as step
use Rattle.best_line.specs.declared.answers.Value.{Value}
use Rattle.best_line.specs.declared.answers.Value.TheVariants.{Won, Drawn, Open}
use Rattle.best_line.specs.Laws.{IsSo}
use Rattle.best_line.specs.Values.{IsValue}
use Rattle.game_file.specs.Kept.{Kept, Layout}
use Rattle.game_file.specs.State.{State, GoesAhead}
use Rattle.solver.specs.declared.fault.SolverFault.{SolverFault}
use Rattle.solver.specs.declared.fault.SolverFault.TheVariants as fault
use Rattle.solver.specs.declared.replies.Reply.{Reply}
use Rattle.solver.specs.declared.replies.Reply.TheVariants.{Loaded, Worked, Refused}
use Rattle.solver.specs.Headline.{Headline, IsUnlucky}
use Rattle.solver.specs.Held.{IsSound}
use Rattle.solver.specs.Histories.{Sitting, History, DoAll, DoesInDoubt, LeadTo}
use Rattle.solver.specs.lemmas.Laws.{a_sound_table_is_right, a_value_is_so}
use Rattle.solver.specs.Machine.{Command, load, work, Does, WorksOnTable, TextCause, LoadCause, WorkCause, StopsAt}
use Rattle.solver.specs.Opened.{IsOpened, OpenCause, CreateCause}
use Rattle.solver.specs.Queries.{OfKept, Tells, HasValueAt, AskCause, NumberCause, IsThere}
use Rattle.solver.specs.Steps.{IsDone, IsRefused}
use Rattle.witness.specs.Game.{witness_text, witness_game}
use Rattle.witness.specs.Sittings.{IsWantOfRoom}
use Rattle.witness.specs.lemmas.Sittings.{IsOwn, AreOwn, IsOwnSitting, IsBehindSittings, IsFoundBehind, IsNoneOrIt, IsItsTable, IsIt, IsItFinished, HasSuchTable}
use Rattle.witness.proofs.NineUnits.{no_nine_units}
use Rattle.witness.proofs.Positions.{graph}
use Rattle.witness.proofs.TextReads.{witness_read}
use Rattle.witness.proofs.Units.{unit_is_done}
use Rattle.witness.proofs.Win.{only_in_two, not_drawn}

-- ---- which table it is

own_does : (reply : Reply) (command : Command) (old new : Option Kept) → IsOwn command → Does reply command old new → IsNoneOrIt old → IsNoneOrIt new
own_does Loaded (load text goal) old new own does was = subst IsNoneOrIt (sym does.is) own
own_does (Worked done counts) (work units) old new own does was =
    let before : IsItsTable does.was = subst IsNoneOrIt does.loaded was in
    subst IsNoneOrIt (sym does.worked) (does.same_text ∙ before.0, does.same_goal ∙ before.1)
own_does Loaded (work units) old new own does was = elim does [ ]
own_does (Worked done counts) (load text goal) old new own does was = elim does [ ]
own_does (Refused fault) command old new own does was = subst IsNoneOrIt (sym does) was

own_do : (answered : List (Command × Reply)) (old new : Option Kept) → AreOwn answered → DoAll answered old new → IsNoneOrIt old → IsNoneOrIt new
own_do [] old new own does was = subst IsNoneOrIt (sym does) was
own_do ((command, reply) ∷ answered) old new own does was =
    own_do answered does.0 new own.1 does.2 (own_does reply command old does.0 own.0 does.1 was)

own_in_doubt : (in_doubt : Option Command) (old new : Option Kept) → IfSome in_doubt IsOwn → DoesInDoubt in_doubt old new → IsNoneOrIt old → IsNoneOrIt new
own_in_doubt None old new own does was = subst IsNoneOrIt (sym does) was
own_in_doubt (Some command) old new own does was = own_does does.0 command old new own does.1 was

own_table : (sittings : List Sitting) (old new : Option Kept) → AllByRecursion IsOwnSitting sittings → LeadTo sittings old new → IsNoneOrIt old → IsNoneOrIt new
own_table [] old new own leads was = subst IsNoneOrIt (sym leads) was
own_table (sitting ∷ sittings) old new own leads was =
    let mid = own_do sitting.answered old sitting.reached own.0.answered leads.1.0 was in
    let left = own_in_doubt sitting.in_doubt sitting.reached leads.1.1.0 own.0.in_doubt leads.1.1.1 mid in
    own_table sittings leads.1.1.0 new own.1 leads.1.1.2 left

abbrev zeros : List ℕ
zeros = replicate 512 0

abbrev zero_disk : List (List ℕ)
zero_disk = replicate 256 zeros

-- a sector of zeros begins no table
zeros_begin_no_table : BeginsAsTable zero_disk → ⊥
zeros_begin_no_table begins =
    let first : ◌≡◌ {A = ℕ} 0 82 = ap (λ (xs : List ℕ). get_or xs 0 1) begins in
    absurd (omega arith)

module _ (Stores : ℕ → Layout) where
  -- ---- what is opened

  -- after a stop it is a table of the game or of none, and sound
  pub reopened : (found : Disk) (count : ℕ) (state : State) (behind : IsFoundBehind Stores found)
      → ((sittings : List Sitting) (left : Shown) (image : Image) → History Stores sittings left → MayLeave left image → Headline Stores sittings image)
      → ((sittings : List Sitting) (old new : Option Kept) → LeadTo sittings old new → IsSound old → IsSound new)
      → IsOpened Stores found count state → HasSuchTable IsNoneOrIt state
  reopened found count state behind law sound_by opened =
      let headline = law behind.behind.sittings behind.disk.now found.now.contents behind.behind.history behind.left in
      let given : state.kept ≡ headline.0 = (headline.2.gives found count state behind.honest refl opened).0 in
      record {
        honest = subst (λ h. IsTrue h) (sym opened.from.goes_on.honest) behind.honest;
        is_open = opened.is_open;
        sound = subst IsSound (sym given) (sound_by behind.behind.sittings None headline.0 headline.1 tt);
        such = subst IsNoneOrIt (sym given) (own_table behind.behind.sittings None headline.0 behind.behind.own headline.1 tt);
      }

  -- what is opened of a disk that was not stopped is so too
  pub opened_again : (disk : Disk) (count : ℕ) (state : State) → IsBehindSittings Stores disk
      → ((sittings : List Sitting) (left : Shown) (image : Image) → History Stores sittings left → MayLeave left image → Headline Stores sittings image)
      → ((sittings : List Sitting) (old new : Option Kept) → LeadTo sittings old new → IsSound old → IsSound new)
      → IsOpened Stores disk count state → HasSuchTable IsNoneOrIt state
  opened_again disk count state behind =
      reopened disk count state (record { honest = behind.honest; disk = disk; behind = behind; left = reads_left disk })

  pub unlucky : (before now : ℕ) (why : SolverFault) → IsUnlucky before now why → IsWantOfRoom (Grew before now) why
  unlucky before now why (inl failed) = subst (IsWantOfRoom (Grew before now)) (sym failed.0) failed.1
  unlucky before now why (inr memory) = subst (IsWantOfRoom (Grew before now)) (sym memory) tt

  pub not_reopened : (found : Disk) (before now : ℕ) (why : SolverFault) (behind : IsFoundBehind Stores found)
      → ((sittings : List Sitting) (left : Shown) (image : Image) → History Stores sittings left → MayLeave left image → Headline Stores sittings image)
      → OpenCause Stores found before now why → IsWantOfRoom (Grew before now) why
  not_reopened found before now why behind law cause =
      let headline = law behind.behind.sittings behind.disk.now found.now.contents behind.behind.history behind.left in
      unlucky before now why (headline.2.fails found before now why behind.honest refl cause)

  -- no table was there when this one was made
  pub not_made : (disk : Disk) (before now : ℕ) (why : SolverFault) → IsFresh 256 disk → CreateCause disk before now why
      → IsWantOfRoom (Grew before now) why
  not_made disk before now fault.Disk fresh cause = cause
  not_made disk before now fault.NotATable fresh cause = absurd (cause fresh.honest)
  not_made disk before now fault.AlreadyATable fresh cause =
      let begins : BeginsAsTable zero_disk = subst BeginsAsTable fresh.contents (cause fresh.honest) in
      absurd (zeros_begin_no_table begins)
  not_made disk before now fault.Damaged fresh cause = absurd (cause fresh.honest)
  not_made disk before now fault.TooSmall fresh cause =
      let sectors : size disk ≡ 256 = ap length fresh.contents ∙ length-replicate 256 zeros in
      absurd (omega (arith, cause.0))
  not_made disk before now fault.OutOfMemory fresh cause = tt
  not_made disk before now why fresh cause = absurd cause

  -- ---- loading

  pub load_done : (old new : State) → HasSuchTable IsNoneOrIt old → GoesAhead old new → IsDone Stores (load witness_text None) Loaded old new
      → IsSound new.kept → HasSuchTable IsIt new
  load_done old new table ahead done sound = record {
    honest = subst (λ h. IsTrue h) (sym ahead.goes_on.honest) table.honest;
    is_open = done.stops.is_open;
    sound = sound;
    such = subst IsIt (sym (done.step.does table.honest).is) (refl, refl);
  }

  text_cause : (Failed : Type 0) (why : GameFault) → TextCause witness_text why → IsWantOfRoom Failed (fault.Game why)
  text_cause Failed game_fault.OutOfMemory cause = tt
  text_cause Failed why cause = absurd (no_fault witness_text witness_game why witness_read (cause (λ same. cc)))

  load_cause : (old new : State) (why : SolverFault) → HasSuchTable IsNoneOrIt old → old.kept ≡ None → LoadCause witness_text old new why
      → IsWantOfRoom (Grew old.failures new.failures) why
  load_cause old new fault.Disk table none cause = cause
  load_cause old new fault.Damaged table none cause = absurd (cause table.honest)
  load_cause old new fault.TableFull table none cause = tt
  load_cause old new fault.OutOfMemory table none cause = tt
  load_cause old new fault.Closed table none cause = let is_open = table.is_open in absurd (cc)
  load_cause old new (fault.Game why) table none cause = text_cause (Grew old.failures new.failures) why cause
  load_cause old new fault.GameAlready table none cause = let some : IsSome {T = Kept} None = subst (λ (k : Option Kept). IsSome k) none cause in absurd (cc)
  load_cause old new why table none cause = absurd cause

  pub load_refused : (text : List ℕ) (goal : Option ℕ) (old new : State) (why : SolverFault) → text ≡ witness_text
      → HasSuchTable IsNoneOrIt old → old.kept ≡ None
      → IsRefused Stores (load text goal) old new why → IsWantOfRoom (Grew old.failures new.failures) why
  load_refused text goal old new why is table none refused =
      load_cause old new why table none (subst (λ t. LoadCause t old new why) is refused.step.reason)

  -- ---- working

  -- the table of the small game is sound for it
  pub its_own : (kept : Kept) → kept.text ≡ witness_text → Reads kept.text witness_game
  its_own kept text = subst (λ t. Reads t witness_game) (sym text) witness_read

  sound_for_it : (kept : Kept) → IsItsTable kept → IsSound (Some kept) → IsLocallySound (graph kept.packing) (IsWideAt kept.packing witness_game) kept.table
  sound_for_it kept (text, none) (game, is_read, sound) =
      subst (λ (goal : Option ℕ). IsLocallySound (graph_of kept.packing goal witness_game) (IsWideAt kept.packing witness_game) kept.table) none
      (subst (λ (g : Game). IsLocallySound (graph_of kept.packing kept.goal g) (IsWideAt kept.packing g) kept.table)
      (one_game kept.text game witness_game is_read (its_own kept text)) sound)

  -- and so it is by its own goal, which is none
  by_its_goal : (kept : Kept) → IsItsTable kept → IsLocallySound (graph kept.packing) (IsWideAt kept.packing witness_game) kept.table
      → IsLocallySound (graph_of kept.packing kept.goal witness_game) (IsWideAt kept.packing witness_game) kept.table
  by_its_goal kept (text, none) sound =
      subst (λ (goal : Option ℕ). IsLocallySound (graph_of kept.packing goal witness_game) (IsWideAt kept.packing witness_game) kept.table) (sym none) sound

  pub work_done : (units : ℕ) (old new : State) (done : ℕ) (counts : Counts) → units ≡ 256 → HasSuchTable IsIt old → GoesAhead old new
      → IsDone Stores (work units) (Worked done counts) old new → IsSound new.kept → HasSuchTable IsItFinished new
  work_done units old new done counts all_units table ahead is_done sound = record {
    honest = subst (λ h. IsTrue h) (sym ahead.goes_on.honest) table.honest;
    is_open = is_done.stops.is_open;
    sound = sound;
    such = subst IsItFinished (sym works.worked) ((works.same_text ∙ its.0, works.same_goal ∙ its.1), finished all_done.all);
  }
    where
      works : WorksOnTable 256 old.kept done counts new.kept
      works = subst (λ n. WorksOnTable n old.kept done counts new.kept) all_units (is_done.step.does table.honest)

      its : IsItsTable works.was
      its = subst IsIt works.loaded table.such

      all_done : AreDone (graph works.was.packing) (IsWideAt works.was.packing witness_game) 256 works.was.table done works.is.table
      all_done =
          subst (λ (goal : Option ℕ). AreDone (graph_of works.was.packing goal witness_game)
          (IsWideAt works.was.packing witness_game) 256 works.was.table done works.is.table) its.1
          (works.work witness_game (its_own works.was its.0) (by_its_goal works.was its (sound_for_it works.was its (subst IsSound works.loaded table.sound))))

      finished : (done ≡ 256) ⊎ (done < 256) × IsFinished (view_of works.is.table) → IsFinished (view_of works.is.table)
      finished (inl same) =
          absurd (no_nine_units works.was.packing (view_of works.was.table) (view_of works.is.table) (2 ^ 24) done (omega arith) all_done.works)
      finished (inr ended) = ended.1

  -- no unit of work on the game is refused by its own fault
  never_stops : (kept : Option Kept) (why : StepFault) → IsIt kept → IsSound kept → StopsAt 256 kept why → IsRefusal why → ⊥
  never_stops None why it sound stops own = absurd it
  never_stops (Some kept) why its sound stops own =
      let here = sound_for_it kept its sound in
      let at = subst (λ (goal : Option ℕ). StopsWith (graph_of kept.packing goal witness_game) (IsWideAt kept.packing witness_game) kept.table 256 why) its.1
      (stops witness_game (its_own kept its.0) (by_its_goal kept its here)) in
      unit_is_done kept.packing at.reached at.works.right why own at.cause

  work_cause : (old new : State) (why : SolverFault) → HasSuchTable IsIt old → WorkCause 256 old new why
      → IsWantOfRoom (Grew old.failures new.failures) why
  work_cause old new fault.Disk table cause = cause
  work_cause old new fault.Damaged table cause = absurd (cause table.honest)
  work_cause old new fault.TableFull table cause = tt
  work_cause old new fault.OutOfMemory table cause = tt
  work_cause old new fault.Closed table cause = let is_open = table.is_open in absurd (cc)
  work_cause old new fault.NoGame table cause = absurd (subst IsIt cause table.such)
  work_cause old new (fault.KeeperChooses number) table cause = absurd
      (never_stops old.kept (step.KeeperChooses number) table.such table.sound (cause table.honest) tt)
  work_cause old new fault.TooWide table cause = absurd (never_stops old.kept step.TooWide table.such table.sound (cause table.honest) tt)
  work_cause old new fault.TooManyPositions table cause = absurd (never_stops old.kept step.TooManyPositions table.such table.sound (cause table.honest) tt)
  work_cause old new fault.Inconsistent table cause = absurd (cause table.honest table.sound)
  work_cause old new why table cause = absurd cause

  pub work_refused : (units : ℕ) (old new : State) (why : SolverFault) → units ≡ 256 → HasSuchTable IsIt old → IsRefused Stores (work units) old new why
      → IsWantOfRoom (Grew old.failures new.failures) why
  work_refused units old new why all_units table refused =
      work_cause old new why table (subst (λ n. WorkCause n old new why) all_units refused.step.reason)

  -- ---- asking

  -- the value of a finished table's start
  pub value_is : (state : State) (value : Value) → HasSuchTable IsItFinished state → Tells (HasValueAt 0 value) state → value ≡ Won First 2
  value_is state value table tells = go state.kept table.such table.sound (tells table.honest)
    where
      won : (kept : Kept) (v : Value) → IsFinished (view_of kept.table) → IsValue (view_of kept.table) 0 v
          → IsSo (graph kept.packing) (graph kept.packing).start v → v ≡ Won First 2
      won kept (Won w n) finished is so = let only = only_in_two kept.packing w n so in
          ap (λ (p : Player × ℕ). let v : Value = Won p.0 p.1 in v) (λ i. (only.0 i, only.1 i))
      won kept Drawn finished is so = absurd (not_drawn kept.packing so)
      won kept Open finished is so = absurd (is.1 finished)

      go : (kept : Option Kept) → IsItFinished kept → IsSound kept → OfKept (HasValueAt 0 value) kept → value ≡ Won First 2
      go None it sound has = absurd it
      go (Some kept) it sound has =
          let reads = its_own kept it.0.0 in
          let first = (a_sound_table_is_right kept witness_game sound reads).moves.first in
          won kept value it.1 has.value_is
          (subst (λ (goal : Option ℕ). IsSo (graph_of kept.packing goal witness_game) (graph kept.packing).start value) it.0.1
          (a_value_is_so kept witness_game sound reads 0 (graph kept.packing).start value first has.value_is))

  ask_cause : (old new : State) (why : SolverFault) → HasSuchTable IsItFinished old → AskCause old new why
      → IsWantOfRoom (Grew old.failures new.failures) why
  ask_cause old new fault.Disk table cause = cause
  ask_cause old new fault.Damaged table cause = absurd (cause table.honest)
  ask_cause old new fault.OutOfMemory table cause = tt
  ask_cause old new fault.Closed table cause = let is_open = table.is_open in absurd (cc)
  ask_cause old new fault.NoGame table cause = absurd (subst IsItFinished cause.1 table.such)
  ask_cause old new why table cause = absurd cause

  is_there : (kept : Option Kept) → IsItFinished kept → IsSound kept → OfKept (λ k. ¬ IsThere 0 k) kept → ⊥
  is_there None it sound none = it
  is_there (Some kept) it sound none = none (sound_for_it kept it.0 sound).table.started

  pub value_refused : (old new : State) (why : SolverFault) → HasSuchTable IsItFinished old → NumberCause 0 old new why
      → IsWantOfRoom (Grew old.failures new.failures) why
  value_refused old new fault.NoSuchPosition table cause = absurd (is_there old.kept table.such table.sound (cause.1 table.honest))
  value_refused old new why table cause = ask_cause old new why table cause
