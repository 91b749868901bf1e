-- Why a command is refused has a cause in brief too.
use Rattle.std.specs.Prelude.{◌≡◌, ℕ, ◌^◌, Bool, true, false, List, Option, None, Some, IsSome, IsTrue}
use Rattle.std.proofs.Common.{refl, sym, subst, ◌∙◌, ap}
use Rattle.rbg_game.specs.Games.{Game}
use Rattle.rbg_game.specs.declared.position.Position.{Position}
use Rattle.rbg_text.specs.Token.{Text}
use Rattle.rbg_read.specs.Reads.{Reads}
use Rattle.rbg_read.proofs.SoundGames.{read_sound}
use Rattle.position_pack.specs.Shape.{shape_of}
use Rattle.position_pack.specs.Packings.{packed_by}
use Rattle.legal_moves.specs.Searches.{IsWide}
use Rattle.legal_moves.specs.Sources.{IsAt}
use Rattle.legal_moves.proofs.answers.FieldLemmas.{role_is}
use Rattle.retrograde.specs.Expands.{IsChoice}
use Rattle.retrograde.specs.Graph.{IsReachable}
use Rattle.retrograde.specs.Sound.{IsLocallySound}
use Rattle.retrograde.specs.Stored.{Stored, view_of, expanded_count}
use Rattle.retrograde.specs.View.{HasNumber}
use Rattle.retrograde.proofs.Sound.{sound_right}
use Rattle.frontier.specs.declared.fault.StepFault.TheVariants as step
use Rattle.game_table.specs.Entries.{HasAtMostMoves}
use Rattle.game_table.specs.lemmas.Laws.{starts_are_positions, sound_tables_fit}
use Rattle.game_table.specs.lemmas.Pages.{wants_few}
use Rattle.game_file.specs.Kept.{Kept}
use Rattle.game_file.specs.State.{State}
use Rattle.solver.specs.Held.{IsSound, graph_in, wide_in}
use Rattle.solver.specs.Machine.{Command, load, work, LoadCause, WorkCause, IsUnfinished, IsShortOfPages, IsCommandShort, StopsAt, HasReason}
use Rattle.solver.specs.declared.fault.SolverFault.{SolverFault}
use Rattle.solver.specs.declared.fault.SolverFault.TheVariants.{Disk, NotATable, AlreadyATable, Damaged, OldLayout}
use Rattle.solver.specs.declared.fault.SolverFault.TheVariants.{TooSmall, TableFull, OutOfMemory, Closed, Game as BadGame}
use Rattle.solver.specs.declared.fault.SolverFault.TheVariants.{NoGame, GameAlready, KeeperChooses, TooWide, TooManyPositions}
use Rattle.solver.specs.declared.fault.SolverFault.TheVariants.{Inconsistent, NoSuchPosition, NotSettled, ListingsUsedUp, BadPosition}
use Rattle.solver.specs.declared.replies.Reply.TheVariants.{Refused}
use Rattle.headline.specs.Tables.{BriefTable, play_of, ComesTo, ComesToMore, KeeperHasChoice, IsLeftToDo}
use Rattle.headline.specs.Tables.{IsShort, IsShortFor, RefusesText, RefusesWork, to_do, MayRefuse}
use Rattle.headline.specs.lemmas.Told.{IsToldBy, brief_of, brief_is_so, finished_up}
use Rattle.headline.specs.lemmas.FewMoves.{few_down}
use Rattle.headline.specs.lemmas.Limit.{comes_to_more}
use Rattle.headline.specs.lemmas.Plays.{step_down, reached_down}

-- play comes to the position of bytes that a sound table knows
pub known_reached : (kept : Kept) (game : Game) → Reads kept.text game → (stored : Stored (List ℕ))
    → IsLocallySound (graph_in game kept) (wide_in game kept) stored
    → (i : ℕ) (x : List ℕ) → HasNumber (view_of stored) i x → (at : Position) → IsAt kept.packing game x at
    → IsReachable (play_of kept.goal game) at
known_reached kept game is_read stored sound i x number at here =
    reached_down kept.packing kept.goal game (read_sound kept.text game is_read) x
    ((sound_right (graph_in game kept) (wide_in game kept) stored sound).moves.reached x (i, number)) at here

-- a choice of bytes is one of the position
choice_down : (kept : Kept) (game : Game) → Reads kept.text game → (x : List ℕ) (at : Position) → IsAt kept.packing game x at
    → IsChoice (graph_in game kept) x → KeeperHasChoice game at
choice_down kept game is_read x at here choice =
    let sound = read_sound kept.text game is_read in
    let (one, at_one, to_one) = step_down kept.packing kept.goal game sound x choice.one at here choice.to_one in
    let (other, at_other, to_other) = step_down kept.packing kept.goal game sound x choice.other at here choice.to_other in (
      sym (role_is kept.packing game sound x at here) ∙ choice.keeper,
      (
        one,
        other,
        to_one,
        to_other,
        λ same. choice.apart (at_one.bytes_are ∙ ap (λ (p : Position). packed_by kept.packing (shape_of game) p) same ∙ sym at_other.bytes_are),
      ),
    )

-- what is so where the work stops is so where play comes to
comes_to : (kept : Kept) (sound : IsSound (Some kept)) (Such : Game → Position → Type 0) (at : Position) → IsReachable (play_of kept.goal sound.0) at
    → Such sound.0 at → ComesTo (Some (brief_of kept sound)) Such
unfolding brief_of
comes_to kept sound Such at reached such = (sound.0, at, (brief_is_so kept sound).says, reached, such)

pub told_comes : (kept : Kept) (table : Option BriefTable) (told : IsToldBy (Some kept) table) (Such : Game → Position → Type 0) (at : Position)
    → IsReachable (play_of kept.goal told.0.0) at → Such told.0.0 at → ComesTo table Such
told_comes kept table (sound, is) Such at reached such =
    subst (λ (t : Option BriefTable). ComesTo t Such) (sym is) (comes_to kept sound Such at reached such)

stops_wide : (kept : Option Kept) (table : Option BriefTable) → IsToldBy kept table → (units : ℕ) → StopsAt units kept step.TooWide → ComesTo table IsWide
stops_wide None table told units stops = absurd stops
stops_wide (Some kept) table ((game, is_read, local), is) units stops =
    let it = stops game is_read local in
    let (x, number, (at, here, wide)) = it.cause tt in
    told_comes kept table ((game, is_read, local), is) IsWide at
    (known_reached kept game is_read it.reached it.sound (expanded_count it.reached) x number at here) wide

stops_at_choice : (kept : Option Kept) (table : Option BriefTable) → IsToldBy kept table → (units n : ℕ)
    → StopsAt units kept (step.KeeperChooses n) → ComesTo table KeeperHasChoice
stops_at_choice None table told units n stops = absurd stops
stops_at_choice (Some kept) table ((game, is_read, local), is) units n stops =
    let it = stops game is_read local in
    let (x, number, (of_it, not_wide, choice)) = it.cause tt in
    let (at, here) = (sound_tables_fit kept.packing kept.goal game it.reached (starts_are_positions kept.text game is_read) it.sound).0
    (expanded_count it.reached) x number in
    told_comes kept table ((game, is_read, local), is) KeeperHasChoice at
    (known_reached kept game is_read it.reached it.sound (expanded_count it.reached) x number at here)
    (choice_down kept game is_read x at here choice)

stops_at_limit : (kept : Option Kept) (table : Option BriefTable) → IsToldBy kept table → (units : ℕ) → StopsAt units kept step.TooManyPositions
    → ComesToMore (2 ^ 24) table
stops_at_limit None table told units stops = absurd stops
stops_at_limit (Some kept) table ((game, is_read, local), is) units stops =
    let it = stops game is_read local in
    let (x, number, (not_wide, no_choice, many)) = it.cause tt in
    subst (λ (t : Option BriefTable). ComesToMore (2 ^ 24) t) (sym is)
    (comes_to_more kept (game, is_read, local) it.reached it.sound x number many)

-- a game is loaded in the one exactly if it is in the other
some_told : (kept : Option Kept) (table : Option BriefTable) → IsToldBy kept table → IsSome kept → IsSome table
some_told None table told some = absurd cc
some_told (Some kept) table (sound, is) some = subst (λ (t : Option BriefTable). IsSome t) (sym is) refl

pub none_told : (kept : Option Kept) (table : Option BriefTable) → IsToldBy kept table → kept ≡ None → table ≡ None
none_told None table (sound, is) none = is
none_told (Some kept) table told none = absurd cc

-- what is left to do in the table that is kept is so in the one that tells it
left_told : (kept : Option Kept) (table : Option BriefTable) → IsToldBy kept table → IsUnfinished kept → IsLeftToDo table
left_told None table told left = absurd left
left_told (Some kept) table (sound, is) left =
    subst (λ (t : Option BriefTable). IsLeftToDo t) (sym is) (λ finished. left sound (finished_up kept sound finished))

-- too few pages are free for so many units, in both
pub short_told : (kept : Option Kept) (table : Option BriefTable) → IsToldBy kept table → (units free : ℕ) → IsShortOfPages units free kept
    → IsShort units free table
unfolding brief_of
short_told None table told units free short = absurd short
short_told (Some kept) table ((game, is_read, local), is) units free short =
    subst (λ (t : Option BriefTable). IsShort units free t) (sym is)
    (λ other moves says few.
    let one : other ≡ game = (brief_is_so kept (game, is_read, local)).only other says in
    let few_of_it : HasAtMostMoves (play_of kept.goal game) moves = subst (λ (g : Game). HasAtMostMoves (play_of kept.goal g) moves) one few in
    wants_few (graph_in game kept) (wide_in game kept) moves (few_down kept.packing kept.goal game (read_sound kept.text game is_read) moves few_of_it)
    kept.table units free (short game is_read local))

-- so for a command
pub short_for_told : (command : Command) (kept : Option Kept) (table : Option BriefTable) → IsToldBy kept table → (free : ℕ)
    → IsCommandShort command free kept → IsShortFor command free table
short_for_told (load text goal) kept table told free short = tt
short_for_told (work units) kept table told free short = short_told kept table told units free short

pub open_not_shut : (closed : Bool) → closed ≡ false → closed ≡ true → ⊥
open_not_shut closed is_open shut = let both : false ≡ true = sym is_open ∙ shut in cc

module _ (old new : State) (table : Option BriefTable) (told : IsToldBy old.kept table) (honest : IsTrue old.disk.honest) (is_open : old.closed ≡ false) where
  why_load : (text : Text) (fault : SolverFault) → LoadCause text old new fault → RefusesText text old.capacity table fault
  why_load text Disk cause = tt
  why_load text NotATable cause = absurd cause
  why_load text AlreadyATable cause = absurd cause
  why_load text Damaged cause = absurd (cause honest)
  why_load text OldLayout cause = absurd cause
  why_load text TooSmall cause = absurd cause
  why_load text TableFull cause = cause.0
  why_load text OutOfMemory cause = tt
  why_load text Closed cause = absurd (open_not_shut old.closed is_open cause)
  why_load text (BadGame fault) cause = cause
  why_load text NoGame cause = absurd cause
  why_load text GameAlready cause = some_told old.kept table told cause
  why_load text (KeeperChooses number) cause = absurd cause
  why_load text TooWide cause = absurd cause
  why_load text TooManyPositions cause = absurd cause
  why_load text Inconsistent cause = absurd cause
  why_load text NoSuchPosition cause = absurd cause
  why_load text NotSettled cause = absurd cause
  why_load text ListingsUsedUp cause = absurd cause
  why_load text BadPosition cause = absurd cause

  why_work : (units : ℕ) (fault : SolverFault) → WorkCause units old new fault → RefusesWork table fault
  why_work units Disk cause = tt
  why_work units NotATable cause = absurd cause
  why_work units AlreadyATable cause = absurd cause
  why_work units Damaged cause = absurd (cause honest)
  why_work units OldLayout cause = absurd cause
  why_work units TooSmall cause = absurd cause
  why_work units TableFull cause = left_told old.kept table told (cause honest)
  why_work units OutOfMemory cause = tt
  why_work units Closed cause = absurd (open_not_shut old.closed is_open cause)
  why_work units (BadGame fault) cause = absurd cause
  why_work units NoGame cause = none_told old.kept table told cause
  why_work units GameAlready cause = absurd cause
  why_work units (KeeperChooses number) cause = stops_at_choice old.kept table told units number (cause honest)
  why_work units TooWide cause = stops_wide old.kept table told units (cause honest)
  why_work units TooManyPositions cause = stops_at_limit old.kept table told units (cause honest)
  why_work units Inconsistent cause = absurd (cause honest told.0)
  why_work units NoSuchPosition cause = absurd cause
  why_work units NotSettled cause = absurd cause
  why_work units ListingsUsedUp cause = absurd cause
  why_work units BadPosition cause = absurd cause

  -- why a command is refused, in brief
  pub why_in_brief : (command : Command) (fault : SolverFault) → HasReason (Refused fault) command old new → MayRefuse (to_do command) old.capacity table fault
  why_in_brief (load text goal) fault cause = why_load text fault cause
  why_in_brief (work units) fault cause = why_work units fault cause
