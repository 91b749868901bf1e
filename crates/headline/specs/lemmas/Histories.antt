-- A history in brief is one of the calls' contracts, so the headline in brief follows from the headline.
use Rattle.std.specs.Prelude.{◌≡◌, ◌⊎◌, ℕ, zero, suc, true, false, List, [], ◌∷◌, ◌++◌, map, Contains, Option, None, Some, IsTrue}
use Rattle.std.proofs.Common.{refl, sym, subst, ap, inl, inr, arith}
use Rattle.sector_disk.specs.Disk.{Image, Shown, Disk, GoesOn, MayLeave, StopsIn}
use Rattle.sector_disk.specs.lemmas.Moments.{still_honest}
use Rattle.game_file.specs.Kept.{Kept, Layout}
use Rattle.game_file.specs.State.{State}
use Rattle.game_file.specs.Calls.{IsAsked, IsNotOpened}
use Rattle.root_pair.specs.Root.{IsTableImage}
use Rattle.solver.specs.declared.fault.SolverFault.{SolverFault}
use Rattle.solver.specs.declared.fault.SolverFault.TheVariants.{Disk as DiskFailed, OutOfMemory}
use Rattle.solver.specs.declared.replies.Reply.{Reply}
use Rattle.solver.specs.Growth.{IsGrowth}
use Rattle.solver.specs.Histories.{Sitting, DoAll, DoesInDoubt, LeadTo, IsUsed, no_call, a_question, a_command, a_growth}
use Rattle.solver.specs.Histories.{Ends, by_closing, in_a_question, in_a_growth, in_a_command, IsSitting, IsFound}
use Rattle.solver.specs.Histories.{HistoryFrom, was_made, was_reopened, was_not_opened}
use Rattle.solver.specs.Headline.{IsUnlucky}
use Rattle.solver.specs.Machine.{Command}
use Rattle.solver.specs.Opened.{IsOpened, IsCreated, OpenCause}
use Rattle.solver.specs.Runs.{IsTurn}
use Rattle.solver.proofs.Chains.{the_headline}
use Rattle.headline.specs.Brief as brief
use Rattle.headline.specs.Tables.{BriefTable, IsTrueOfItsGame}
use Rattle.headline.specs.Brief.{answer_of, BriefAnswer, BriefSitting, Makes, MakeInTurn, MayMake, SittingsMake}
use Rattle.headline.specs.Tables.{Told, IsTold, IsForGood}
use Rattle.headline.specs.Brief.{Calls, refused, AreCalls, EndsWith, IsBriefSitting, IsFoundAs, BriefHistory, BriefHeadline}
use Rattle.headline.specs.lemmas.Told.{IsToldBy, told_by_one, told_again, table_of, table_is_so, does_so}

-- ---- what sittings do

-- a command and its reply, in brief
abbrev pub brief_call : Command × Reply → Command × BriefAnswer
brief_call (command, reply) = (command, answer_of reply)

-- a sitting with what it is in brief
pub record IsInBrief (whole : Sitting) (sitting : BriefSitting) : Type 0 where
  pub begins : IsToldBy whole.begins sitting.begins
  pub answered : map brief_call whole.answered ≡ sitting.answered
  pub reached : IsToldBy whole.reached sitting.reached
  pub in_doubt : whole.in_doubt ≡ sitting.in_doubt

-- so are these, one by one
abbrev pub AreInBrief : List Sitting → List BriefSitting → Type 0
AreInBrief [] [] = Unit {0}
AreInBrief (whole ∷ wholes) (sitting ∷ sittings) = IsInBrief whole sitting × AreInBrief wholes sittings
AreInBrief _ _ = ⊥

stays_told : (old new : Option Kept) (table : Option BriefTable) → new ≡ old → IsToldBy old table → IsToldBy new table
stays_told old new table same told = subst (λ (k : Option Kept). IsToldBy k table) (sym same) told

-- what commands that were answered make of a table that is told is told
all_told : (answered : List (Command × Reply)) (old new : Option Kept) (before after : Option BriefTable)
    → DoAll answered old new
    → IsToldBy old before → IsToldBy new after → MakeInTurn (map brief_call answered) before after
all_told [] old new before after same told later = told_by_one new after before later (stays_told old new before same told)
all_told ((command, reply) ∷ answered) old new before after (mid, does, rest) (sound, is) later =
    let (mid_sound, makes) = does_so reply command old mid does sound in (
      table_of mid mid_sound,
      subst (λ (t : Option BriefTable). Makes (answer_of reply) command t (table_of mid mid_sound)) (sym is) makes,
      all_told answered mid new (table_of mid mid_sound) after rest (mid_sound, refl) later,
    )

-- so is what the one in doubt may have made
may_told : (in_doubt : Option Command) (old new : Option Kept) (before : Option BriefTable)
    → DoesInDoubt in_doubt old new → IsToldBy old before
    → (after : Option BriefTable) × IsToldBy new after × MayMake in_doubt before after
may_told None old new before same told = (before, stays_told old new before same told, refl)
may_told (Some command) old new before (reply, does) (sound, is) =
    let (now, makes) = does_so reply command old new does sound in (
      table_of new now,
      (now, refl),
      (answer_of reply, subst (λ (t : Option BriefTable). Makes (answer_of reply) command t (table_of new now)) (sym is) makes),
    )

leads_told : (wholes : List Sitting) (sittings : List BriefSitting) (old new : Option Kept) (before : Option BriefTable)
    → AreInBrief wholes sittings → LeadTo wholes old new → IsToldBy old before
    → (after : Option BriefTable) × IsToldBy new after × SittingsMake sittings before after
leads_told [] [] old new before are same told = (before, stays_told old new before same told, refl)
leads_told [] (sitting ∷ sittings) old new before are leads told = absurd are
leads_told (whole ∷ wholes) [] old new before are leads told = absurd are
leads_told (whole ∷ wholes) (sitting ∷ sittings) old new before (is, are) (begins, (all, (left, may, rest))) told =
    let first = told_by_one old sitting.begins before (subst (λ (k : Option Kept). IsToldBy k sitting.begins) begins is.begins) told in
    let made = all_told whole.answered old whole.reached before sitting.reached all told is.reached in
    let (mid, there, doubt) = may_told whole.in_doubt whole.reached left sitting.reached may is.reached in
    let (after, here, later) = leads_told wholes sittings left new mid are rest there in (
      after,
      here,
      (
        first,
        (
          subst (λ (answered : List (Command × BriefAnswer)). MakeInTurn answered before sitting.reached) is.answered made,
          (mid, subst (λ (in_doubt : Option Command). MayMake in_doubt sitting.reached mid) is.in_doubt doubt, later),
        ),
      ),
    )

-- ---- what is told again

module _ (one : Told) (good : IsForGood one) where
  all_again : (answered : List (Command × BriefAnswer)) (old new : Option BriefTable) → MakeInTurn answered old new
      → IsTold one old → IsTold one new
  all_again [] old new same told = subst (λ (t : Option BriefTable). IsTold one t) (sym same) told
  all_again ((command, answer) ∷ answered) old new (mid, makes, rest) told =
      all_again answered mid new rest (told_again answer command old mid makes one good told)

  may_again : (in_doubt : Option Command) (old new : Option BriefTable) → MayMake in_doubt old new → IsTold one old
      → IsTold one new
  may_again None old new same told = subst (λ (t : Option BriefTable). IsTold one t) (sym same) told
  may_again (Some command) old new (answer, makes) told = told_again answer command old new makes one good told

  sittings_again : (sittings : List BriefSitting) (old new : Option BriefTable) → SittingsMake sittings old new
      → IsTold one old → IsTold one new
  sittings_again [] old new same told = subst (λ (t : Option BriefTable). IsTold one t) (sym same) told
  sittings_again (sitting ∷ sittings) old new (begins, (all, (left, may, rest))) told =
      sittings_again sittings left new rest
      (may_again sitting.in_doubt sitting.reached left may (all_again sitting.answered old sitting.reached all told))

-- what was told for good in the sitting, the table tells that it reached
abbrev pub KeepsTold : BriefSitting → Type 0
KeepsTold sitting = (one : Told) → Contains sitting.told one → IsForGood one → IsTold one sitting.reached

-- so in each of these
abbrev pub AllKeepTold : List BriefSitting → Type 0
AllKeepTold [] = Unit {0}
AllKeepTold (sitting ∷ sittings) = KeepsTold sitting × AllKeepTold sittings

keep_more : (sittings : List BriefSitting) (sitting : BriefSitting) → AllKeepTold sittings → KeepsTold sitting
    → AllKeepTold (sittings ++ (sitting ∷ []))
keep_more [] sitting all keeps = (keeps, tt)
keep_more (s ∷ sittings) sitting (first, all) keeps = (first, keep_more sittings sitting all keeps)

-- what was told for good in any of the sittings is told behind them
in_sittings : (sittings : List BriefSitting) (old new : Option BriefTable) → SittingsMake sittings old new
    → AllKeepTold sittings
    → (sitting : BriefSitting) (one : Told) → Contains sittings sitting → Contains sitting.told one → IsForGood one
    → IsTold one new
in_sittings [] old new makes all sitting one (k, within, at) there good = absurd (omega arith)
in_sittings (s ∷ sittings) old new (begins, (made, (left, may, rest))) (keeps, all) sitting one (zero, within, at) there good =
    sittings_again one good sittings left new rest
    (may_again one good s.in_doubt s.reached left may (keeps one (subst (λ (it : BriefSitting). Contains it.told one) (sym at) there) good))
in_sittings (s ∷ sittings) old new (begins, (made, (left, may, rest))) (keeps, all) sitting one (suc k, within, at) there good =
    in_sittings sittings left new rest all sitting one (k, omega arith, at) there good

-- ---- what the calls of the solver are, in brief

-- a refused `open` gives the disk back
abbrev pub not_opened_by : (ℕ → Layout) → Disk → Disk → SolverFault → Type 0
not_opened_by Stores disk back fault = (before now : ℕ) × IsNotOpened disk before back now × OpenCause Stores disk before now fault

-- what the table tells
abbrev pub tells_of : {S : Type 0} → (S → State) → (S → Type 0) → S → Option BriefTable → Type 0
tells_of state ready s table =
    ready s × ((state s).closed ≡ false) × (IsTrue (state s).disk.honest → IsToldBy (state s).kept table)

module _ {S : Type 0} (Stores : ℕ → Layout) (state : S → State) (ready : S → Type 0) where
  -- a command with its answer, behind which the solver is open
  pub record Answers (command : Command) (answer : BriefAnswer) (was is : S) : Type 0 where
    pub open_still : (state is).closed ≡ false
    pub reply : Reply
    pub turn : IsTurn Stores command reply (state was) (state is)
    pub answer_is : answer ≡ answer_of reply

  -- on a solver that is ready; one that is closed refuses it and stays as it is
  pub record AnswersIfReady (command : Command) (answer : BriefAnswer) (was is : S) : Type 0 where
    pub ready_still : ready is
    pub goes_on : GoesOn (state was).disk (state is).disk
    pub answers : (state was).closed ≡ false → Answers command answer was is

  pub record AnsweredBy (command : Command) (answer : BriefAnswer) (was is : S) : Type 0 where
    pub shut : (state was).closed ≡ true → (answer ≡ refused) × (is ≡ was)
    pub answered : ready was → AnswersIfReady command answer was is

  -- a question, a growth, or a call that changes nothing
  pub data Leaves (was is : S) : Type 0 where
    by_question : IsAsked Stores (state was) (state is) → Leaves was is
    by_growth : (pages : ℕ) → IsGrowth Stores pages (state was) (state is) → Leaves was is
    by_nothing : state is ≡ state was → Leaves was is

  -- behind which the solver is open
  pub record Asks (was is : S) : Type 0 where
    pub open_still : (state is).closed ≡ false
    pub leaves : IsTrue (state was).disk.honest → Leaves was is

  pub record AsksIfReady (was is : S) : Type 0 where
    pub ready_still : ready is
    pub goes_on : GoesOn (state was).disk (state is).disk
    pub asks : (state was).closed ≡ false → Asks was is

  pub record AskedBy (was is : S) : Type 0 where
    pub shut : (state was).closed ≡ true → is ≡ was
    pub asked : ready was → AsksIfReady was is

  -- a growth or a command, whatever is answered
  abbrev pub Breaks : Option Command → S → S → Type 0
  Breaks None was is = (pages : ℕ) × IsGrowth Stores pages (state was) (state is)
  Breaks (Some command) was is = (reply : Reply) × IsTurn Stores command reply (state was) (state is)

  pub record BrokenBy (in_doubt : Option Command) (was is : S) : Type 0 where
    pub was_open : (state was).closed ≡ false
    pub shut : (state is).closed ≡ true
    pub ready_still : ready was → ready is
    pub goes_on : GoesOn (state was).disk (state is).disk
    pub breaks : ready was → Breaks in_doubt was is

  -- the calls of the solver
  abbrev pub calls_of : Calls S
  calls_of = record {
    disk = λ s. (state s).disk;
    failures = λ s. (state s).failures;
    pages = λ s. (state s).capacity;
    ready = ready;
    shut = λ s. (state s).closed ≡ true;
    tells = tells_of state ready;
    created = λ disk s. ready s × ((count : ℕ) × IsCreated Stores disk count (state s));
    opened = λ disk s. ready s × ((count : ℕ) × IsOpened Stores disk count (state s));
    not_opened = not_opened_by Stores;
    answered = AnsweredBy;
    asked = AskedBy;
    broken = BrokenBy;
  }

  -- ---- a history in brief is a history

  -- calls in brief with what they are: their replies, and the solver behind them
  record AreUsed (answered : List (Command × BriefAnswer)) (was is : S) : Type 0 where
    replies : List (Command × Reply)
    same : map brief_call replies ≡ answered
    used : IsUsed Stores replies (state was) (state is)
    honest : IsTrue (state is).disk.honest
    ready_still : ready is
    open_still : (state is).closed ≡ false

  calls_used : {answered : List (Command × BriefAnswer)} {told : List Told} {was is : S}
      → AreCalls calls_of answered told was is → ready was → (state was).closed ≡ false
      → IsTrue (state was).disk.honest → AreUsed answered was is
  calls_used brief.no_call here is_open honest =
      record { replies = []; same = refl; used = no_call; honest = honest; ready_still = here; open_still = is_open }
  calls_used {answered} {told} {was} {is} (brief.a_question {mid = mid} asks rest) here is_open honest =
      let it = asks.asked here in
      go ((it.asks is_open).leaves honest) (λ still. calls_used rest it.ready_still (it.asks is_open).open_still still)
    where
      go : Leaves was mid → (IsTrue (state mid).disk.honest → AreUsed answered mid is) → AreUsed answered was is
      go (by_question asked) later =
          let more = later (still_honest asked.ahead.goes_on honest) in
          record {
            replies = more.replies;
            same = more.same;
            used = a_question asked more.used;
            honest = more.honest;
            ready_still = more.ready_still;
            open_still = more.open_still;
          }
      go (by_growth pages growth) later =
          let more = later (still_honest growth.ahead.goes_on honest) in
          record {
            replies = more.replies;
            same = more.same;
            used = a_growth growth more.used;
            honest = more.honest;
            ready_still = more.ready_still;
            open_still = more.open_still;
          }
      go (by_nothing same) later =
          let more = later (subst (λ (s : State). IsTrue s.disk.honest) (sym same) honest) in
          record {
            replies = more.replies;
            same = more.same;
            used = subst (λ (s : State). IsUsed Stores more.replies s (state is)) same more.used;
            honest = more.honest;
            ready_still = more.ready_still;
            open_still = more.open_still;
          }
  calls_used (brief.it_told says rest) here is_open honest = calls_used rest here is_open honest
  calls_used {answered} {told} {was} {is} (brief.a_command {command = command} {answer = answer} {later = later} {mid = mid} answers rest) here is_open honest =
      let still = (answers.answered here).ready_still in
      let it = (answers.answered here).answers is_open in
      let more = calls_used rest still it.open_still (still_honest it.turn.ahead.goes_on honest) in
      record {
        replies = (command, it.reply) ∷ more.replies;
        same = λ i. (command, sym it.answer_is i) ∷ more.same i;
        used = a_command it.turn more.used;
        honest = more.honest;
        ready_still = more.ready_still;
        open_still = more.open_still;
      }

  -- what a table tells for good, and what was told meanwhile, each table tells that is kept then
  record KeepsOn (told : List Told) (before : Option BriefTable) (new : Option Kept) : Type 0 where
    again : (one : Told) → IsForGood one → (after : Option BriefTable) → IsToldBy new after → IsTold one before
        → IsTold one after
    of_these : (one : Told) → Contains told one → IsForGood one → (after : Option BriefTable) → IsToldBy new after
        → IsTold one after

  leaves_kept : (was is : S) → Leaves was is → IsTrue (state was).disk.honest → (state is).kept ≡ (state was).kept
  leaves_kept was is (by_question asked) honest = asked.kept honest
  leaves_kept was is (by_growth pages growth) honest = growth.kept honest
  leaves_kept was is (by_nothing same) honest = ap (λ (s : State). s.kept) same

  leaves_honest : (was is : S) → Leaves was is → IsTrue (state was).disk.honest → IsTrue (state is).disk.honest
  leaves_honest was is (by_question asked) honest = still_honest asked.ahead.goes_on honest
  leaves_honest was is (by_growth pages growth) honest = still_honest growth.ahead.goes_on honest
  leaves_honest was is (by_nothing same) honest = subst (λ (s : State). IsTrue s.disk.honest) (sym same) honest

  calls_keep : {answered : List (Command × BriefAnswer)} {told : List Told} {was is : S}
      → AreCalls calls_of answered told was is → ready was
      → (state was).closed ≡ false → IsTrue (state was).disk.honest → (before : Option BriefTable)
      → IsToldBy (state was).kept before
      → KeepsOn told before (state is).kept
  calls_keep {answered} {told} {was} {is} brief.no_call here is_open honest before now = record {
    again = λ one good after later tells. subst (λ (t : Option BriefTable). IsTold one t) (told_by_one (state is).kept before after now later) tells;
    of_these = λ one (k, within, at) good after later. absurd (omega arith);
  }
  calls_keep {answered} {told} {was} {is} (brief.a_question {mid = mid} asks rest) here is_open honest before now =
      let it = asks.asked here in
      let leaves = (it.asks is_open).leaves honest in
      calls_keep rest it.ready_still (it.asks is_open).open_still (leaves_honest was mid leaves honest) before
      (stays_told (state was).kept (state mid).kept before (leaves_kept was mid leaves honest) now)
  calls_keep {answered} {told} {was} {is} (brief.a_command {command = command} {answer = answer} {later = later} {mid = mid} answers rest) here is_open
      honest before (sound, so) =
      let ready_mid = (answers.answered here).ready_still in
      let it = (answers.answered here).answers is_open in
      let (mid_sound, makes) = does_so it.reply command (state was).kept (state mid).kept (it.turn.does honest) sound in
      let table = table_of (state mid).kept mid_sound in
      let made : Makes (answer_of it.reply) command before table =
      subst (λ (t : Option BriefTable). Makes (answer_of it.reply) command t table) (sym so) makes in
      let more = calls_keep rest ready_mid it.open_still (still_honest it.turn.ahead.goes_on honest) table (mid_sound, refl) in
      record {
        again = λ one good after later tells. more.again one good after later (told_again (answer_of it.reply) command before table made one good tells);
        of_these = more.of_these;
      }
  calls_keep {answered} {told} {was} {is} (brief.it_told {one = first} {told = others} says rest) here is_open honest before now =
      let more = calls_keep rest here is_open honest before now in
      record { again = more.again; of_these = of_all more }
    where
      of_all : KeepsOn others before (state is).kept → (one : Told) → Contains (first ∷ others) one → IsForGood one
          → (after : Option BriefTable)
          → IsToldBy (state is).kept after → IsTold one after
      of_all more one (zero, within, at) good after later =
          more.again one good after later (subst (λ (t : Told). IsTold t before) at (says before (here, is_open, λ still. now) honest))
      of_all more one (suc k, within, at) good after later = more.of_these one (k, omega arith, at) good after later

  -- a call in which a write or a sync failed
  ends_broken : {moment : ℕ} {left : Shown} (in_doubt : Option Command) (last is : S) → Breaks in_doubt last is
      → StopsIn (state last).disk (state is).disk moment left → Ends Stores (state last) in_doubt left
  ends_broken None last is (pages, growth) stop = in_a_growth growth stop
  ends_broken (Some command) last is (reply, turn) stop = in_a_command turn stop

  ends_with : {last : S} {in_doubt : Option Command} {left : Shown}
      → EndsWith calls_of last in_doubt left
      → ready last → (state last).closed ≡ false → IsTrue (state last).disk.honest → Ends Stores (state last) in_doubt left
  ends_with (brief.between_calls stop) here is_open honest = by_closing stop
  ends_with {last} {in_doubt} {left} (brief.in_a_question {is = is} {moment = moment} asks stop) here is_open honest =
      go (((asks.asked here).asks is_open).leaves honest)
    where
      go : Leaves last is → Ends Stores (state last) None left
      go (by_question asked) = in_a_question asked stop
      go (by_growth pages growth) = in_a_growth growth stop
      go (by_nothing same) = by_closing (subst (λ (s : State). StopsIn (state last).disk s.disk moment left) same stop)
  ends_with (brief.in_a_command answers stop) here is_open honest =
      in_a_command ((answers.answered here).answers is_open).turn stop
  ends_with {last} (brief.in_a_failure {in_doubt} {is} broke stop) here is_open honest =
      ends_broken in_doubt last is (broke.breaks here) stop

  -- a sitting in brief with the sitting that it is
  record IsTheSitting (was : S) (sitting : BriefSitting) (left : Shown) : Type 0 where
    whole : Sitting
    same : IsInBrief whole sitting
    sits : IsSitting Stores (state was) whole left
    keeps : KeepsTold sitting

  told_at : (s : S) (table : Option BriefTable) → tells_of state ready s table → IsTrue (state s).disk.honest
      → IsToldBy (state s).kept table
  told_at s table (here, is_open, told) honest = told honest

  sitting_is : (was : S) (sitting : BriefSitting) (left : Shown)
      → IsBriefSitting calls_of was sitting left
      → ready was → (state was).closed ≡ false → IsTrue (state was).disk.honest → IsTheSitting was sitting left
  sitting_is was sitting left sits here is_open honest =
      let used = calls_used sits.used here is_open honest in
      record {
        whole = record {
          begins = (state was).kept;
          answered = used.replies;
          reached = (state sits.last).kept;
          in_doubt = sitting.in_doubt;
        };
        same = record {
          begins = told_at was sitting.begins sits.begins honest;
          answered = used.same;
          reached = told_at sits.last sitting.reached sits.reached used.honest;
          in_doubt = refl;
        };
        sits = record {
          begins = refl;
          last = state sits.last;
          reached = refl;
          used = used.used;
          is_open = used.open_still;
          ends = ends_with sits.ends used.ready_still used.open_still used.honest;
        };
        keeps = λ one there good.
            (calls_keep sits.used here is_open honest sitting.begins (told_at was sitting.begins sits.begins honest)).of_these one there good
            sitting.reached (told_at sits.last sitting.reached sits.reached used.honest);
      }

  are_more : (wholes : List Sitting) (sittings : List BriefSitting) (whole : Sitting) (sitting : BriefSitting)
      → AreInBrief wholes sittings → IsInBrief whole sitting
      → AreInBrief (wholes ++ (whole ∷ [])) (sittings ++ (sitting ∷ []))
  are_more [] [] whole sitting are is = (is, tt)
  are_more [] (s ∷ sittings) whole sitting are is = absurd are
  are_more (w ∷ wholes) [] whole sitting are is = absurd are
  are_more (w ∷ wholes) (s ∷ sittings) whole sitting (first, are) is = (first, are_more wholes sittings whole sitting are is)

  -- a history in brief with the history that it is
  record IsTheHistory (sittings : List BriefSitting) (left : Shown) : Type 0 where
    whole : List Sitting
    same : AreInBrief whole sittings
    history : HistoryFrom Stores None whole left
    keep : AllKeepTold sittings

  found_as : (before : Shown) (disk : Disk)
      → IsFoundAs calls_of before disk → IsFound Stores before disk
  found_as before disk (honest, as_left) = record { honest = honest; as_left = as_left }

  history_is : {sittings : List BriefSitting} {left : Shown}
      → BriefHistory calls_of sittings left → IsTheHistory sittings left
  history_is (brief.was_made {d} {s} {sitting} {left} honest (here, (count, created)) sits) =
      let it = sitting_is s sitting left sits here created.is_open (still_honest created.from.goes_on honest) in
      record { whole = it.whole ∷ []; same = (it.same, tt); history = was_made honest created it.sits; keep = (it.keeps, tt) }
  history_is (brief.was_reopened {sittings} {before} {left} {d} {s} {sitting} history found (here, (count, opened)) sits) =
      let old = history_is history in
      let it = sitting_is s sitting left sits here opened.is_open (still_honest opened.from.goes_on found.0) in
      record {
        whole = old.whole ++ (it.whole ∷ []);
        same = are_more old.whole sittings it.whole sitting old.same it.same;
        history = was_reopened old.history (found_as before d found) opened it.sits;
        keep = keep_more sittings sitting old.keep it.keeps;
      }
  history_is (brief.was_stopped {before = before} {d = d} history found (here, (count, opened)) stop) =
      let old = history_is history in
      record {
        whole = old.whole;
        same = old.same;
        history = was_not_opened old.history (found_as before d found) (opened.since found.0) stop;
        keep = old.keep;
      }
  history_is (brief.was_refused {before = before} {d = d} history found (first, now, not, cause) stop) =
      let old = history_is history in
      record {
        whole = old.whole;
        same = old.same;
        history = was_not_opened old.history (found_as before d found) (not.leaves found.0) stop;
        keep = old.keep;
      }

  lucky : (before now : ℕ) (fault : SolverFault) → IsUnlucky before now fault → (fault ≡ DiskFailed) ⊎ (fault ≡ OutOfMemory)
  lucky before now fault (inl (is, grew)) = inl is
  lucky before now fault (inr is) = inr is

  -- the headline in brief
  pub the_headline_in_brief : ((pages : ℕ) (image : Image) (kept : Option Kept) → Stores pages image kept → IsTableImage image)
      → (sittings : List BriefSitting) (left : Shown) (image : Image)
      → BriefHistory calls_of sittings left → MayLeave left image → BriefHeadline calls_of sittings image
  the_headline_in_brief begins sittings left image history may =
      let it = history_is history in
      let (kept, leads, reopens, exact) = the_headline Stores begins it.whole left image it.history may in
      let (table, told, makes) = leads_told it.whole sittings None kept None it.same leads (tt, refl) in
      record {
        table = table;
        made = makes;
        again = in_sittings sittings None table makes it.keep;
        so = subst IsTrueOfItsGame (sym told.1) (table_is_so kept told.0);
        gives = λ d s honest contents (here, (count, opened)).
            let (same, leaves) = reopens.gives d count (state s) honest contents opened in
            (here, opened.is_open, λ still. stays_told kept (state s).kept table same told);
        fails = λ d later fault honest contents (before, after, not, cause).
            lucky before after fault (reopens.fails d before after fault honest contents cause);
      }
