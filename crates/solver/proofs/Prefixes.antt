-- A stop in the course of many commands leaves a table after some of them.
use Rattle.std.proofs.Common.{◌≡◌, ◌⊎◌, inl, inr, ℕ, ◌≤◌, ◌<◌, Bool, true, false, List, [], ◌∷◌, ◌++◌, map, Option, None, Some, refl, sym, ◌∙◌, ap, subst, arith}
use Rattle.std.specs.Prelude.{IsTrue}
use Rattle.std.proofs.lemmas.Bool.{cases_lt}
use Rattle.sector_disk.specs.Disk.{Image, Shown, GoesOn, MayLeave, StopsIn, at_moment, at_present}
use Rattle.sector_disk.specs.lemmas.Moments.{still_honest, goes_on_refl, goes_on_trans, leaves_at, leaves_now}
use Rattle.rbg_read.specs.Reads.{Reads}
use Rattle.position_pack.specs.declared.kind.PackingKind.{PackingKind}
use Rattle.position_pack.specs.declared.kind.PackingKind.TheVariants.{Bits}
use Rattle.legal_moves.specs.Sources.{IsWideAt, graph_of}
use Rattle.retrograde.specs.Sound.{IsLocallySound}
use Rattle.game_table.specs.lemmas.Laws.{a_first_table_is_sound}
use Rattle.game_file.specs.Kept.{Kept, Layout, in_any}
use Rattle.game_file.specs.State.{State}
use Rattle.game_file.specs.Stops.{LeavesNow}
use Rattle.solver.specs.declared.replies.Command.{Command as Asked}
use Rattle.solver.specs.declared.fault.SolverFault.TheVariants.{Disk as DiskFailed}
use Rattle.solver.specs.declared.replies.Reply.{Reply}
use Rattle.solver.specs.declared.replies.Reply.TheVariants.{Loaded, Worked, Refused}
use Rattle.solver.specs.Held.{Holds, IsSound}
use Rattle.solver.specs.Headline.{IsExact, IsAnsweredBy, LeavesAPrefix}
use Rattle.solver.specs.Histories.{Sitting, DoAll, DoesInDoubt, LeadTo, IsUsed, no_call, a_question, a_command, a_growth, Ends, by_closing, in_a_question, in_a_growth, in_a_command, IsSitting}
use Rattle.solver.specs.lemmas.Laws.{a_sound_table_is_held, what_is_settled_is_won, finished_is_all, finished_leaves_the_drawn}
use Rattle.solver.specs.Growth.{IsGrowth}
use Rattle.solver.specs.Machine.{Command, load, work, Does, MayDo}
use Rattle.solver.specs.Runs.{command_of, IsTurn, IsTurnWithCause, Turns, IsRun}

-- what a sound table says is so
pub a_sound_table_is_exact : (kept : Option Kept) → IsSound kept → IsExact kept
a_sound_table_is_exact None sound = tt
a_sound_table_is_exact (Some kept) (game, is_read, sound) =
    let it : IsSound (Some kept) = (game, is_read, sound) in (
      game,
      record {
        reads = is_read;
        won = what_is_settled_is_won kept game it is_read;
        all = λ finished. finished_is_all kept game it is_read finished;
        drawn = λ finished. finished_leaves_the_drawn kept game it is_read finished;
      },
    )

-- what a command may do to a sound table leaves it sound
does_sound : (reply : Reply) (command : Command) (old new : Option Kept) → Does reply command old new → IsSound old → IsSound new
does_sound Loaded (load text goal) old new loads sound = subst (λ (k : Option Kept). IsSound k) (sym loads.is)
    (loads.game, loads.reads, a_first_table_is_sound Bits goal loads.game)
does_sound Loaded (work units) old new does sound = absurd does
does_sound (Worked done counts) (load text goal) old new does sound = absurd does
does_sound (Worked done counts) (work units) old new works sound =
    let (game, is_read, here) : IsSound (Some works.was) = subst (λ (k : Option Kept). IsSound k) works.loaded sound in
    subst (λ (k : Option Kept). IsSound k) (sym works.worked) (
      game,
      subst (λ (text : List ℕ). Reads text game) (sym works.same_text) is_read,
      subst (λ (packing : PackingKind). IsLocallySound (graph_of packing works.is.goal game) (IsWideAt packing game) works.is.table) (sym works.same_packing)
          (subst (λ (goal : Option ℕ). IsLocallySound (graph_of works.was.packing goal game)
          (IsWideAt works.was.packing game) works.is.table) (sym works.same_goal)
          (works.work game is_read here).sound),
    )
does_sound (Refused fault) command old new same sound = subst (λ (k : Option Kept). IsSound k) (sym same) sound

pub what_may_be_done_is_sound : (command : Command) (old new : Option Kept) → MayDo command old new → IsSound old → IsSound new
what_may_be_done_is_sound command old new (reply, does) sound = does_sound reply command old new does sound

all_sound : (answered : List (Command × Reply)) (old new : Option Kept) → DoAll answered old new → IsSound old → IsSound new
all_sound [] old new same sound = subst (λ (k : Option Kept). IsSound k) (sym same) sound
all_sound ((command, reply) ∷ answered) old new (mid, does, rest) sound =
    all_sound answered mid new rest (does_sound reply command old mid does sound)

may_sound : (in_doubt : Option Command) (old new : Option Kept) → DoesInDoubt in_doubt old new → IsSound old → IsSound new
may_sound None old new same sound = subst (λ (k : Option Kept). IsSound k) (sym same) sound
may_sound (Some command) old new may sound = what_may_be_done_is_sound command old new may sound

-- what sittings lead to from a sound table is sound
pub what_sittings_lead_to_is_sound : (sittings : List Sitting) (old new : Option Kept) → LeadTo sittings old new → IsSound old → IsSound new
what_sittings_lead_to_is_sound [] old new same sound = subst (λ (k : Option Kept). IsSound k) (sym same) sound
what_sittings_lead_to_is_sound (sitting ∷ sittings) old new (begins, (all, (left, may, rest))) sound =
    what_sittings_lead_to_is_sound sittings left new rest
    (may_sound sitting.in_doubt sitting.reached left may (all_sound sitting.answered old sitting.reached all sound))

module _ (Stores : ℕ → Layout) where
  -- a solver that is open was open before
  turn_open : (b : Bool) (command : Command) (reply : Reply) (was is : State) → IsTurn Stores command reply was is → is.closed ≡ false
      → was.closed ≡ b → was.closed ≡ false
  turn_open false command reply was is turn open_ its_state = its_state
  turn_open true command reply was is turn open_ its_state = sym (ap (λ (s : State). s.closed) (turn.shut its_state).1) ∙ open_

  growth_open : (b : Bool) (pages : ℕ) (was is : State) → IsGrowth Stores pages was is → is.closed ≡ false → was.closed ≡ b → was.closed ≡ false
  growth_open false pages was is growth open_ its_state = its_state
  growth_open true pages was is growth open_ its_state = sym (ap (λ (s : State). s.closed) (growth.shut its_state)) ∙ open_

  used_open : {answered : List (Command × Reply)} {was is : State} → IsUsed Stores answered was is → is.closed ≡ false → was.closed ≡ false
  used_open no_call open_ = open_
  used_open (a_question asked rest) open_ = sym asked.closed ∙ used_open rest open_
  used_open (a_command {asked} {reply} {answered} {was} {mid} {is} turn rest) open_ = turn_open was.closed asked reply was mid turn (used_open rest open_) refl
  used_open (a_growth {answered} {pages} {was} {mid} {is} growth rest) open_ = growth_open was.closed pages was mid growth (used_open rest open_) refl

  -- a solver on an honest disk that is open, and a stop now leaves the sound table that is kept
  record IsFit (state : State) : Type 0 where
    honest : IsTrue state.disk.honest
    sound : IsSound state.kept
    leaves : LeavesNow (Stores state.capacity) state.disk state.kept

  -- commands that were answered have done what their replies say
  used_does : {answered : List (Command × Reply)} {was is : State} → IsUsed Stores answered was is → is.closed ≡ false → IsFit was
      → DoAll answered was.kept is.kept × IsFit is
  used_does no_call open_ fit = (refl, fit)
  used_does (a_question {answered} {was} {mid} {is} asked rest) open_ fit =
      let was_open = sym asked.closed ∙ used_open rest open_ in
      let same = asked.kept fit.honest in
      let it : IsFit mid = record {
        honest = still_honest asked.ahead.goes_on fit.honest;
        sound = subst (λ (k : Option Kept). IsSound k) (sym same) fit.sound;
        leaves = subst (λ (pages : ℕ). LeavesNow (Stores pages) mid.disk mid.kept) (sym asked.ahead.capacity)
            (subst (λ (k : Option Kept). LeavesNow (Stores was.capacity) mid.disk k) (sym same) (asked.now fit.honest was_open));
      } in
      let (all, fit_then) = used_does rest open_ it in
      (subst (λ (k : Option Kept). DoAll answered k is.kept) same all, fit_then)
  used_does (a_command {asked} {reply} {answered} {was} {mid} {is} turn rest) open_ fit =
      let mid_open = used_open rest open_ in
      let was_open = turn_open was.closed asked reply was mid turn mid_open refl in
      let does = turn.does fit.honest in
      let it : IsFit mid = record {
        honest = still_honest turn.ahead.goes_on fit.honest;
        sound = does_sound reply asked was.kept mid.kept does fit.sound;
        leaves = turn.at fit.honest was_open mid_open;
      } in
      let (all, fit_then) = used_does rest open_ it in
      ((mid.kept, does, all), fit_then)
  used_does (a_growth {answered} {pages} {was} {mid} {is} growth rest) open_ fit =
      let mid_open = used_open rest open_ in
      let same = growth.kept fit.honest in
      let it : IsFit mid = record {
        honest = still_honest growth.ahead.goes_on fit.honest;
        sound = subst (λ (k : Option Kept). IsSound k) (sym same) fit.sound;
        leaves = growth.at fit.honest mid_open;
      } in
      let (all, fit_then) = used_does rest open_ it in
      (subst (λ (k : Option Kept). DoAll answered k is.kept) same all, fit_then)

  -- the sitting ends in a growth
  abbrev IsInAGrowth : {last : State} {in_doubt : Option Command} {left : Shown} → Ends Stores last in_doubt left → Type 0
  IsInAGrowth (by_closing stop) = ⊥
  IsInAGrowth (in_a_question asked stop) = ⊥
  IsInAGrowth (in_a_growth growth stop) = Unit {0}
  IsInAGrowth (in_a_command turn stop) = ⊥

  -- what is left of a table in a sitting: it is stored in this many pages, and the sitting leads to it
  record IsLeft (in_doubt : Option Command) (last : State) (pages : ℕ) (image : Image) (kept : Option Kept) : Type 0 where
    may : DoesInDoubt in_doubt last.kept kept
    stores : Stores pages image kept

  either : (command : Command) (last : State) (next : Option Kept) (image : Image) → MayDo command last.kept next
      → Stores last.capacity image last.kept ⊎ Stores last.capacity image next
      → (kept : Option Kept) × IsLeft (Some command) last last.capacity image kept
  either command last next image does (inl stores) = (last.kept, record { may = (Refused DiskFailed, refl); stores = stores })
  either command last next image does (inr stores) = (next, record { may = does; stores = stores })

  in_command : {moment : ℕ} {left : Shown} (b : Bool) (command : Command) (reply : Reply) (last is : State) → IsTurn Stores command reply last is
      → last.closed ≡ false → is.closed ≡ b → IsFit last → StopsIn last.disk is.disk moment left → (image : Image) → MayLeave left image
      → (kept : Option Kept) × IsLeft (Some command) last last.capacity image kept
  in_command false command reply last is turn open_ its_state fit stop image may =
      either command last is.kept image (reply, turn.does fit.honest) (leaves_at (turn.between fit.honest open_ its_state) stop image may)
  in_command true command reply last is turn open_ its_state fit stop image may =
      let (next, does, leaves) = (turn.failed open_ its_state).leaves fit.honest in
      either command last next image does (leaves_at leaves stop image may)

  -- it is left in as many pages as the last state has, but in a growth
  record IsLeftBehind {last : State} {in_doubt : Option Command} {left : Shown} (ends : Ends Stores last in_doubt left) (image : Image) : Type 0 where
    kept : Option Kept
    pages : ℕ
    is : IsLeft in_doubt last pages image kept
    as_many : (IsInAGrowth ends → ⊥) → pages ≡ last.capacity

  ends_left : {last : State} {in_doubt : Option Command} {left : Shown} (ends : Ends Stores last in_doubt left) → last.closed ≡ false → IsFit last
      → (image : Image) → MayLeave left image → IsLeftBehind ends image
  ends_left {last} (by_closing stop) open_ fit image left = record {
    kept = last.kept;
    pages = last.capacity;
    is = record { may = refl; stores = leaves_at (leaves_now last.disk fit.leaves) stop image left };
    as_many = λ not. refl;
  }
  ends_left {last} (in_a_question asked stop) open_ fit image left = record {
    kept = last.kept;
    pages = last.capacity;
    is = record { may = refl; stores = leaves_at (asked.since fit.honest open_) stop image left };
    as_many = λ not. refl;
  }
  ends_left {last} (in_a_growth {pages} {is} growth stop) open_ fit image left =
      elim (leaves_at (growth.between fit.honest open_) stop image left) [
        | inl before ↦ record { kept = last.kept; pages = last.capacity; is = record { may = refl; stores = before }; as_many = λ not. refl }
        | inr after ↦ record { kept = last.kept; pages = pages; is = record { may = refl; stores = after }; as_many = λ not. absurd (not tt) }
      ]
  ends_left {last} (in_a_command {asked} {reply} {is} turn stop) open_ fit image left =
      let (kept, it) = in_command is.closed asked reply last is turn open_ refl fit stop image left in
      record { kept = kept; pages = last.capacity; is = it; as_many = λ not. refl }

  -- what is left of a sitting is a table that it leads to, in some number of pages
  record IsLedTo (was : State) (sitting : Sitting) (left : Shown) (it : IsSitting Stores was sitting left) (image : Image) : Type 0 where
    kept : Option Kept
    pages : ℕ
    leads : LeadTo (sitting ∷ []) was.kept kept
    stores : Stores pages image kept
    as_many : (IsInAGrowth it.ends → ⊥) → pages ≡ it.last.capacity

  led_to : (was : State) (sitting : Sitting) (left : Shown) (it : IsSitting Stores was sitting left) → IsTrue was.disk.honest
      → IsSound was.kept → LeavesNow (Stores was.capacity) was.disk was.kept
      → (image : Image) → MayLeave left image → IsLedTo was sitting left it image
  led_to was sitting left it honest sound leaves image may =
      let (all, fit) = used_does it.used it.is_open (record { honest = honest; sound = sound; leaves = leaves }) in
      let behind = ends_left it.ends it.is_open fit image may in
      record {
        kept = behind.kept;
        pages = behind.pages;
        leads = (
          it.begins,
          (
            subst (λ (k : Option Kept). DoAll sitting.answered was.kept k) (sym it.reached) all,
            (behind.kept, subst (λ (k : Option Kept). DoesInDoubt sitting.in_doubt k behind.kept) (sym it.reached) behind.is.may, refl),
          ),
        );
        stores = behind.is.stores;
        as_many = behind.as_many;
      }

  pub sitting_leads : (was : State) (sitting : Sitting) (left : Shown) → IsSitting Stores was sitting left → IsTrue was.disk.honest
      → IsSound was.kept → LeavesNow (Stores was.capacity) was.disk was.kept
      → (image : Image) → MayLeave left image → (kept : Option Kept) × LeadTo (sitting ∷ []) was.kept kept × in_any Stores image kept
  sitting_leads was sitting left it honest sound leaves image may =
      let led = led_to was sitting left it honest sound leaves image may in
      (led.kept, led.leads, (led.pages, led.stores))

  -- what is left of one in which nothing grows holds the table in as many pages, and what that says is so
  sitting_holds : (was : State) (sitting : Sitting) (left : Shown) (it : IsSitting Stores was sitting left)
      → it.last.capacity ≡ was.capacity → (IsInAGrowth it.ends → ⊥)
      → IsTrue was.disk.honest → IsSound was.kept → LeavesNow (Stores was.capacity) was.disk was.kept
      → (image : Image) → MayLeave left image → (kept : Option Kept) × LeadTo (sitting ∷ []) was.kept kept
      × Holds (Stores was.capacity) image kept × IsExact kept
  sitting_holds was sitting left it steady apart honest sound leaves image may =
      let led = led_to was sitting left it honest sound leaves image may in
      let sound_now = what_sittings_lead_to_is_sound (sitting ∷ []) was.kept led.kept led.leads sound in
      let stores = subst (λ (pages : ℕ). Stores pages image led.kept) (led.as_many apart ∙ steady) led.stores in
      (led.kept, led.leads, a_sound_table_is_held (Stores was.capacity) image led.kept stores sound_now, a_sound_table_is_exact led.kept sound_now)

  -- the states of a run are those of one disk
  turns_go_on : (commands : List Command) (replies : List Reply) (was is : State) → Turns Stores commands replies was is → GoesOn was.disk is.disk
  turns_go_on [] [] was is same = subst (λ (s : State). GoesOn was.disk s.disk) (sym same) (goes_on_refl was.disk)
  turns_go_on [] (reply ∷ replies) was is none = absurd none
  turns_go_on (command ∷ commands) [] was is none = absurd none
  turns_go_on (command ∷ commands) (reply ∷ replies) was is (mid, it, rest) = goes_on_trans it.turn.ahead.goes_on (turns_go_on commands replies mid is rest)

  -- a closed solver stays as it is
  turns_shut : (commands : List Command) (replies : List Reply) (was is : State) → Turns Stores commands replies was is → was.closed ≡ true → is ≡ was
  turns_shut [] [] was is same shut = same
  turns_shut [] (reply ∷ replies) was is none shut = absurd none
  turns_shut (command ∷ commands) [] was is none shut = absurd none
  turns_shut (command ∷ commands) (reply ∷ replies) was is (mid, it, rest) shut =
      let (said, same) = it.turn.shut shut in
      turns_shut commands replies mid is rest (ap (λ (s : State). s.closed) same ∙ shut) ∙ same

  -- a sitting that a stop ends at a moment of a run
  record IsCut (moment : ℕ) (commands : List Command) (replies : List Reply) (was is : State) (left : Shown) : Type 0 where
    sitting : Sitting
    part : IsAnsweredBy Stores moment sitting.answered sitting.in_doubt commands replies was is
    sits : IsSitting Stores was sitting left
    steady : sits.last.capacity ≡ was.capacity
    apart : IsInAGrowth sits.ends → ⊥

  cut_before : (moment : ℕ) (command : Command) (commands : List Command) (reply : Reply) (replies : List Reply) (was mid is : State)
      (left : Shown) → was.closed ≡ false
      → IsTurnWithCause Stores command reply was mid → (moment < mid.disk.clock) ⊎ (mid.closed ≡ true)
      → Turns Stores commands replies mid is → (ends : Ends Stores was (Some command) left)
      → (IsInAGrowth ends → ⊥) → IsCut moment (command ∷ commands) (reply ∷ replies) was is left
  cut_before moment command commands reply replies was mid is left open_ turn later rest ends apart = record {
    sitting = record { begins = was.kept; answered = []; reached = was.kept; in_doubt = Some command };
    part = (refl, (mid, turn, later, rest));
    sits = record { begins = refl; last = was; reached = refl; used = no_call; is_open = open_; ends = ends };
    steady = refl;
    apart = apart;
  }

  cut_behind : (moment : ℕ) (command : Command) (commands : List Command) (reply : Reply) (replies : List Reply) (was mid is : State) (left : Shown)
      → IsTurnWithCause Stores command reply was mid → mid.disk.clock ≤ moment → mid.closed ≡ false → IsCut moment commands replies mid is left
      → IsCut moment (command ∷ commands) (reply ∷ replies) was is left
  cut_behind moment command commands reply replies was mid is left turn by_then open_ cut = record {
    sitting = record { begins = was.kept; answered = (command, reply) ∷ cut.sitting.answered; reached = cut.sitting.reached; in_doubt = cut.sitting.in_doubt };
    part = (refl, refl, (mid, turn, by_then, open_, cut.part));
    sits = record {
      begins = refl;
      last = cut.sits.last;
      reached = cut.sits.reached;
      used = a_command turn.turn cut.sits.used;
      is_open = cut.sits.is_open;
      ends = cut.sits.ends;
    };
    steady = cut.steady ∙ turn.turn.ahead.capacity;
    apart = cut.apart;
  }

  -- where the first command was answered by next, and the solver stays open
  cut_open : {moment : ℕ} {left : Shown} (command : Command) (commands : List Command) (reply : Reply) (replies : List Reply) (was mid is : State)
      → was.closed ≡ false → IsTurnWithCause Stores command reply was mid → mid.closed ≡ false → Turns Stores commands replies mid is
      → ((moment : ℕ) (left : Shown) → StopsIn mid.disk is.disk moment left → IsCut moment commands replies mid is left)
      → StopsIn was.disk is.disk moment left → IsCut moment (command ∷ commands) (reply ∷ replies) was is left
  cut_open command commands reply replies was mid is open_ it mid_open rest then at_present =
      cut_behind is.disk.clock command commands reply replies was mid is is.disk.now it (turns_go_on commands replies mid is rest).later mid_open
      (then is.disk.clock is.disk.now at_present)
  cut_open command commands reply replies was mid is open_ it mid_open rest then (at_moment k from to) = elim (cases_lt k mid.disk.clock) [
    | inl less ↦
        subst (λ (shown : Shown). IsCut k (command ∷ commands) (reply ∷ replies) was is shown)
        (sym ((turns_go_on commands replies mid is rest).past k (omega (arith, less))))
        (cut_before k command commands reply replies was mid is (mid.disk.was k) open_ it (inl less) rest
        (in_a_command it.turn (at_moment k from (omega (arith, less)))) (λ never. never))
    | inr le ↦ cut_behind k command commands reply replies was mid is (is.disk.was k) it le mid_open (then k (is.disk.was k) (at_moment k le to))
  ]

  cut_at : {moment : ℕ} {left : Shown} (commands : List Command) (replies : List Reply) (was is : State) → Turns Stores commands replies was is
      → was.closed ≡ false → StopsIn was.disk is.disk moment left → IsCut moment commands replies was is left
  cut_at {moment} {left} [] [] was is same open_ stop = record {
    sitting = record { begins = was.kept; answered = []; reached = was.kept; in_doubt = None };
    part = same;
    sits = record {
      begins = refl;
      last = was;
      reached = refl;
      used = no_call;
      is_open = open_;
      ends = by_closing (subst (λ (s : State). StopsIn was.disk s.disk moment left) same stop);
    };
    steady = refl;
    apart = λ never. never;
  }
  cut_at [] (reply ∷ replies) was is none open_ stop = absurd none
  cut_at (command ∷ commands) [] was is none open_ stop = absurd none
  cut_at {moment} {left} (command ∷ commands) (reply ∷ replies) was is (mid, it, rest) open_ stop =
      by mid.closed refl (λ mid_open moment left later. cut_at commands replies mid is rest mid_open later)
    where
      by : (b : Bool) → mid.closed ≡ b
          → (mid.closed ≡ false → (moment : ℕ) (left : Shown) → StopsIn mid.disk is.disk moment left → IsCut moment commands replies mid is left)
          → IsCut moment (command ∷ commands) (reply ∷ replies) was is left
      by true shut then =
          cut_before moment command commands reply replies was mid is left open_ it (inr shut) rest
          (in_a_command it.turn (subst (λ (s : State). StopsIn was.disk s.disk moment left) (turns_shut commands replies mid is rest shut) stop))
          (λ never. never)
      by false mid_open then = cut_open command commands reply replies was mid is open_ it mid_open rest (then mid_open) stop

  -- a stop in a run leaves a table that the first of its commands lead to
  pub stopped_run : (commands done : List Asked) (before after : List Reply) (was is : State) → done ≡ commands → IsRun Stores done before after was is
      → IsTrue was.disk.honest → was.closed ≡ false → IsSound was.kept
      → (added : List Reply) × (after ≡ before ++ added) × LeavesAPrefix Stores (map command_of commands) added was is
  stopped_run commands done before after was is all run honest open_ sound =
      let left : LeavesAPrefix Stores (map command_of done) run.added was is = λ moment shown stop.
      let cut = cut_at (map command_of done) run.added was is run.turns open_ stop in (
        cut.sitting,
        cut.part,
        cut.sits,
        λ image may.
            sitting_holds was cut.sitting shown cut.sits cut.steady cut.apart honest sound (run.begins honest open_) image may,
      ) in
      (run.added, run.replies_are, subst (λ (cs : List Asked). LeavesAPrefix Stores (map command_of cs) run.added was is) all left)
