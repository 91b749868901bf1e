-- A game is loaded, or not.
use Rattle.std.proofs.Common.{◌≡◌, ◌≢◌, ◌⊎◌, ℕ, List, Option, None, Some, length, sym, ◌∙◌, ap, subst, false, arith}
use Rattle.std.specs.Prelude.{IsTrue}
use Rattle.std.proofs.lemmas.Option.{same_Some}
use Rattle.sector_disk.specs.Disk.{GoesOn}
use Rattle.sector_disk.specs.lemmas.Moments.{leaves_more, still_honest}
use Rattle.rbg_game.specs.Games.{Game}
use Rattle.rbg_read.specs.Reads.{Reads}
use Rattle.position_pack.specs.Shape.{shape_of}
use Rattle.position_pack.specs.declared.kind.PackingKind.{PackingKind}
use Rattle.position_pack.specs.declared.kind.PackingKind.TheVariants.{Bits}
use Rattle.legal_moves.specs.Sources.{IsWideAt, graph_of}
use Rattle.retrograde.specs.Sound.{IsLocallySound}
use Rattle.legal_moves.specs.Compiled.{compiled_game, packing_kind, compiled_goal}
use Rattle.legal_moves.specs.declared.compiled.Compiled.{Compiled}
use Rattle.retrograde.specs.Stored.{loaded}
use Rattle.game_table.specs.lemmas.Laws.{a_first_table_is_sound}
use Rattle.game_table.specs.Tables.{packed_length}
use Rattle.game_file.specs.Calls.{IsPut, IsNotPut}
use Rattle.game_file.specs.Causes.{FileLoadCause}
use Rattle.game_file.specs.Kept.{Kept, Layout, kept_as, text_kept, packing_kept, goal_kept}
use Rattle.game_file.specs.State.{State}
use Rattle.game_file.specs.Stops.{LeavesNow}
use Rattle.game_file.specs.declared.fault.FileFault.{FileFault}
use Rattle.game_file.specs.declared.fault.FileFault.TheVariants as file
use Rattle.solver.specs.Faults.{file_fault}
use Rattle.solver.specs.Held.{IsSound}
use Rattle.solver.specs.declared.replies.Reply.TheVariants.{Loaded}
use Rattle.solver.specs.Machine.{load, Loads, LoadCause}
use Rattle.solver.specs.State.{IsSourceOf}
use Rattle.solver.specs.Steps.{IsDone, IsRefused}
use Rattle.solver.specs.Stops.{StopsDone}
use Rattle.solver.proofs.Starts.{some_bytes}

-- what is open and whole leaves what it keeps
abbrev pub Leaves : (ℕ → Layout) → State → Type 0
Leaves Stores state = IsTrue state.disk.honest → state.closed ≡ false → LeavesNow (Stores state.capacity) state.disk state.kept

-- after a table was put in the place of another, a stop leaves the one or the other
pub put_stops : (Stores : ℕ → Layout) (is : Kept) (old new : State) → Leaves Stores new → GoesOn old.disk new.disk → IsPut Stores is old new
    → StopsDone Stores old new
put_stops Stores is old new leaves goes_on put = record {
  is_open = put.is_open;
  since = λ honest. leaves_more
      (λ image either. subst (λ (kept : Option Kept). Stores old.capacity image old.kept ⊎ Stores old.capacity image kept) (sym (put.kept honest)) either)
      (put.leaves honest);
  now = λ honest. leaves (still_honest goes_on honest) put.is_open;
}

-- the game in memory is that of a table with this text, packing and goal
pub source_of_text : (source : Compiled) (kept : Option Kept) (text : List ℕ) (packing : PackingKind) (goal : Option ℕ)
    → text_kept kept ≡ Some text → packing_kept kept ≡ Some packing
    → goal_kept kept ≡ goal
    → Reads text (compiled_game source) → packing_kind source ≡ packing → compiled_goal source ≡ goal → IsSourceOf (Some source) kept
source_of_text source None text packing goal is packed its is_read kind points = absurd (cc)
source_of_text source (Some kept) text packing goal is packed its is_read kind points = record {
  reads = subst (λ (t : List ℕ). Reads t (compiled_game source)) (sym (same_Some kept.text text is)) is_read;
  packing = kind ∙ sym (same_Some kept.packing packing packed);
  goal = points ∙ sym its;
}

-- and of another with the same ones
pub same_source : (source : Option Compiled) (old new : Option Kept) → text_kept new ≡ text_kept old → packing_kept new ≡ packing_kept old
    → goal_kept new ≡ goal_kept old → IsSourceOf source old → IsSourceOf source new
same_source None None None is packed its it = tt
same_source None None (Some k) is packed its it = absurd (cc)
same_source None (Some k) new is packed its it = absurd it
same_source (Some s) None new is packed its it = absurd it
same_source (Some s) (Some k) None is packed its it = absurd (cc)
same_source (Some s) (Some k) (Some l) is packed its it = source_of_text s (Some l) k.text k.packing k.goal is packed its it.reads it.packing it.goal

-- what is so of a start by one packing and goal is so by others that are the same
pub start_by : (kind other : PackingKind) (had has : Option ℕ) (game : Game) (start : List ℕ) → kind ≡ other → had ≡ has
    → start ≡ (graph_of kind had game).start → start ≡ (graph_of other has game).start
start_by kind other had has game start is same it =
    subst (λ (g : Option ℕ). start ≡ (graph_of other g game).start) same (subst (λ (k : PackingKind). start ≡ (graph_of k had game).start) is it)

pub long_by : (kind other : PackingKind) (game : Game) (long : ℕ) → kind ≡ other → long ≡ packed_length kind game → long ≡ packed_length other game
long_by kind other game long is it = subst (λ (k : PackingKind). long ≡ packed_length k game) is it

module _ (Stores : ℕ → Layout) (text start : List ℕ) (goal : Option ℕ) (game : Game) (reads : Reads text game)
    (start_is : start ≡ (graph_of Bits goal game).start) (old new : State) (none : old.kept ≡ None) where
  loads : Loads text goal old.kept (Some (kept_as text Bits goal (loaded start)))
  loads = record { none = none; game = game; reads = reads; is = ap (λ (s : List ℕ). Some (kept_as text Bits goal (loaded s))) start_is }

  pub loaded_done : Leaves Stores new → GoesOn old.disk new.disk → IsPut Stores (kept_as text Bits goal (loaded start)) old new
      → IsDone Stores (load text goal) Loaded old new
  loaded_done leaves goes_on put = record {
    step = record {
      does = λ honest. record {
        none = none;
        game = game;
        reads = reads;
        is = put.kept honest
            ∙ ap (λ (s : List ℕ). Some (kept_as text Bits goal (loaded s))) start_is;
      };
      reason = tt;
    };
    stops = put_stops Stores (kept_as text Bits goal (loaded start)) old new leaves goes_on put;
  }

  load_cause : (fault : FileFault) → length start ≡ packed_length Bits game → FileLoadCause start old new fault → LoadCause text old new (file_fault fault)
  load_cause file.Disk long cause = cause
  load_cause file.NotATable long cause = absurd cause
  load_cause file.AlreadyATable long cause = absurd cause
  load_cause file.Damaged long cause = cause
  load_cause file.OldLayout long cause = absurd cause
  load_cause file.TooSmall long cause = absurd cause
  load_cause file.TableFull long cause = (cause, (game, reads))
  load_cause file.OutOfMemory long cause = tt
  load_cause file.Closed long cause = cause
  load_cause file.Inconsistent long cause = absurd (let some = some_bytes Bits (shape_of game) in omega (arith, some, long, cause))

  pub loaded_refused : (fault : FileFault) → length start ≡ packed_length Bits game → IsNotPut Stores (kept_as text Bits goal (loaded start)) old new
      → FileLoadCause start old new fault → (fault ≢ file.Disk → new.closed ≡ old.closed) → IsRefused Stores (load text goal) old new (file_fault fault)
  loaded_refused fault long left cause still = record {
    step = record { does = left.kept; reason = load_cause fault long cause };
    stops = record {
      commits = left.commits;
      counts = left.counts;
      text = left.text;
      packing = left.packing;
      goal = left.goal;
      same = left.kept;
      since = left.leaves;
      failed = λ honest was is. (Some (kept_as text Bits goal (loaded start)), (Loaded, loads), left.either honest was);
    };
    still = λ other. still (λ is. other (ap file_fault is));
  }

  -- the game in memory is the table's
  pub loaded_source : (source : Compiled) → compiled_game source ≡ game → packing_kind source ≡ Bits → compiled_goal source ≡ goal
      → IsPut Stores (kept_as text Bits goal (loaded start)) old new → IsSourceOf (Some source) new.kept
  loaded_source source same kind points put = source_of_text source new.kept text Bits goal put.text put.packing put.goal
      (subst (λ (g : Game). Reads text g) (sym same) reads) kind points

  pub loaded_sound : IsTrue old.disk.honest → IsPut Stores (kept_as text Bits goal (loaded start)) old new → IsSound new.kept
  loaded_sound honest put =
      subst (λ (kept : Option Kept). IsSound kept) (sym (put.kept honest)) (
        game,
        reads,
        subst (λ (s : List ℕ). IsLocallySound (graph_of Bits goal game) (IsWideAt Bits game) (loaded s)) (sym start_is)
            (a_first_table_is_sound Bits goal game),
      )
