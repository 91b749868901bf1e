-- Units of work are done and kept, or not.
use Rattle.std.proofs.Common.{◌≡◌, ◌≢◌, inl, ℕ, List, Option, None, Some, refl, sym, ◌∙◌, ap, subst, false}
use Rattle.std.specs.Prelude.{IsTrue}
use Rattle.sector_disk.specs.Disk.{GoesOn}
use Rattle.sector_disk.specs.lemmas.Moments.{leaves_now, leaves_more}
use Rattle.rbg_game.specs.Games.{Game}
use Rattle.rbg_read.specs.Reads.{Reads}
use Rattle.rbg_read.proofs.OneGame.{one_game}
use Rattle.position_pack.specs.declared.kind.PackingKind.{PackingKind}
use Rattle.legal_moves.specs.Sources.{IsWideAt, graph_of}
use Rattle.legal_moves.specs.Compiled.{compiled_game, packing_kind, compiled_goal}
use Rattle.legal_moves.specs.declared.compiled.Compiled.{Compiled}
use Rattle.retrograde.specs.declared.records.Counts.{Counts}
use Rattle.retrograde.specs.Changes.{counts_of}
use Rattle.retrograde.specs.Sound.{IsLocallySound}
use Rattle.retrograde.specs.Stored.{Stored, view_of}
use Rattle.retrograde.specs.View.{IsFinished}
use Rattle.table.specs.Fit.{FitsTogether}
use Rattle.table.specs.declared.fault.TableFault.{TableFault}
use Rattle.table.specs.declared.fault.TableFault.TheVariants as table
use Rattle.frontier.specs.Causes.{Leaves as LeavesUnit}
use Rattle.frontier.specs.declared.fault.StepFault.{StepFault}
use Rattle.frontier.specs.declared.fault.StepFault.TheVariants as step
use Rattle.game_table.specs.Entries.{WantsPages}
use Rattle.game_table.specs.Work.{StopsWith}
use Rattle.game_table.specs.lemmas.Laws.{starts_are_positions, sound_tables_fit}
use Rattle.game_table.specs.Tables.{packed_length, IsWorkOf}
use Rattle.game_file.specs.Calls.{IsPut, IsNotPut, IsNothingPut}
use Rattle.game_file.specs.Causes.{FileCommitCause, FileTableCause}
use Rattle.game_file.specs.Kept.{Kept, Layout, kept_as}
use Rattle.game_file.specs.State.{State}
use Rattle.game_file.specs.declared.fault.FileFault.{FileFault}
use Rattle.game_file.specs.declared.fault.FileFault.TheVariants as file
use Rattle.solver.specs.declared.fault.SolverFault.{SolverFault}
use Rattle.solver.specs.declared.fault.SolverFault.TheVariants.{Disk}
use Rattle.solver.specs.declared.fault.SolverFault.TheVariants as solver
use Rattle.solver.specs.Faults.{file_fault, step_fault, table_fault}
use Rattle.solver.specs.Held.{IsSound}
use Rattle.solver.specs.declared.replies.Reply.TheVariants.{Worked, Refused}
use Rattle.solver.specs.Machine.{work, WorksOnTable, WorkCause, StopsAt, IsUnfinished, IsShortOfPages}
use Rattle.solver.specs.Queries.{AskCause}
use Rattle.solver.specs.State.{IsMadeOf, IsSourceOf}
use Rattle.solver.specs.Steps.{IsDone, IsRefused}
use Rattle.solver.proofs.Loads.{Leaves, put_stops}

-- what is kept beside a game in memory
pub kept_there : (source : Compiled) (kept : Option Kept) → IsSourceOf (Some source) kept → (k : Kept) × (kept ≡ Some k) × IsMadeOf source k
kept_there source None it = absurd it
kept_there source (Some k) it = (k, refl, it)

-- what is said of the table in hand is said of the one that is kept
pub works_on : (source : Compiled) (k : Kept) (stored : Stored (List ℕ)) → stored ≡ k.table → (units count done : ℕ) (now : Stored (List ℕ)) → count ≡ units
    → (IsLocallySound (graph_of (packing_kind source) (compiled_goal source) (compiled_game source))
    (IsWideAt (packing_kind source) (compiled_game source)) stored
    → IsWorkOf (packing_kind source) (compiled_goal source) (compiled_game source) count stored done now)
    → IsLocallySound (graph_of (packing_kind source) (compiled_goal source) (compiled_game source))
    (IsWideAt (packing_kind source) (compiled_game source)) k.table
    → IsWorkOf (packing_kind source) (compiled_goal source) (compiled_game source) units k.table done now
works_on source k stored same units count done now counted works =
    subst (λ (n : ℕ). IsLocallySound (graph_of (packing_kind source) (compiled_goal source) (compiled_game source))
    (IsWideAt (packing_kind source) (compiled_game source)) k.table
    → IsWorkOf (packing_kind source) (compiled_goal source) (compiled_game source) n k.table done now) counted
    (subst (λ (t : Stored (List ℕ)). IsLocallySound (graph_of (packing_kind source) (compiled_goal source) (compiled_game source))
    (IsWideAt (packing_kind source) (compiled_game source)) t
    → IsWorkOf (packing_kind source) (compiled_goal source) (compiled_game source) count t done now) same works)

pub stops_on : (source : Compiled) (k : Kept) (stored : Stored (List ℕ)) → stored ≡ k.table → (units count : ℕ) (fault : StepFault) → count ≡ units
    → (IsLocallySound (graph_of (packing_kind source) (compiled_goal source) (compiled_game source))
    (IsWideAt (packing_kind source) (compiled_game source)) stored
    → StopsWith (graph_of (packing_kind source) (compiled_goal source) (compiled_game source))
    (IsWideAt (packing_kind source) (compiled_game source)) stored count fault)
    → IsLocallySound (graph_of (packing_kind source) (compiled_goal source) (compiled_game source))
    (IsWideAt (packing_kind source) (compiled_game source)) k.table
    → StopsWith (graph_of (packing_kind source) (compiled_goal source) (compiled_game source))
    (IsWideAt (packing_kind source) (compiled_game source)) k.table units fault
stops_on source k stored same units count fault counted stops =
    subst (λ (n : ℕ). IsLocallySound (graph_of (packing_kind source) (compiled_goal source) (compiled_game source))
    (IsWideAt (packing_kind source) (compiled_game source)) k.table
    → StopsWith (graph_of (packing_kind source) (compiled_goal source) (compiled_game source))
    (IsWideAt (packing_kind source) (compiled_game source)) k.table n fault) counted
    (subst (λ (t : Stored (List ℕ)). IsLocallySound (graph_of (packing_kind source) (compiled_goal source) (compiled_game source))
    (IsWideAt (packing_kind source) (compiled_game source)) t
    → StopsWith (graph_of (packing_kind source) (compiled_goal source) (compiled_game source))
    (IsWideAt (packing_kind source) (compiled_game source)) t count fault) same stops)

pub unfinished_on : (source : Compiled) (k : Kept) (stored : Stored (List ℕ)) → stored ≡ k.table
    → (IsLocallySound (graph_of (packing_kind source) (compiled_goal source) (compiled_game source))
    (IsWideAt (packing_kind source) (compiled_game source)) stored → IsFinished (view_of stored) → ⊥)
    → IsLocallySound (graph_of (packing_kind source) (compiled_goal source) (compiled_game source))
    (IsWideAt (packing_kind source) (compiled_game source)) k.table → IsFinished (view_of k.table) → ⊥
unfinished_on source k stored same unfinished =
    subst (λ (t : Stored (List ℕ)). IsLocallySound (graph_of (packing_kind source) (compiled_goal source) (compiled_game source))
    (IsWideAt (packing_kind source) (compiled_game source)) t → IsFinished (view_of t) → ⊥) same unfinished

module _ (source : Compiled) (k : Kept) (made : IsMadeOf source k) where
  -- what holds of the source's game holds of any that the text read to
  pub of_any : (P : PackingKind → Option ℕ → Game → Type 0) (game : Game) → Reads k.text game
      → P (packing_kind source) (compiled_goal source) (compiled_game source) → P k.packing k.goal game
  of_any P game read so =
      subst (λ (g : Game). P k.packing k.goal g) (one_game k.text (compiled_game source) game made.reads read)
      (subst (λ (w : Option ℕ). P k.packing w (compiled_game source)) made.goal
      (subst (λ (p : PackingKind). P p (compiled_goal source) (compiled_game source)) made.packing so))

  pub to_source : (P : PackingKind → Option ℕ → Game → Type 0) (game : Game) → Reads k.text game → P k.packing k.goal game
      → P (packing_kind source) (compiled_goal source) (compiled_game source)
  to_source P game read so =
      subst (λ (p : PackingKind). P p (compiled_goal source) (compiled_game source)) (sym made.packing)
      (subst (λ (w : Option ℕ). P k.packing w (compiled_game source)) (sym made.goal)
      (subst (λ (g : Game). P k.packing k.goal g) (one_game k.text game (compiled_game source) read made.reads) so))

  pub sound_here : IsSound (Some k) → IsLocallySound (graph_of (packing_kind source) (compiled_goal source) (compiled_game source))
      (IsWideAt (packing_kind source) (compiled_game source)) k.table
  sound_here (game, read, sound) = to_source (λ p w g. IsLocallySound (graph_of p w g) (IsWideAt p g) k.table) game read sound

  module _ (units done : ℕ) (now : Stored (List ℕ))
      (works : IsLocallySound (graph_of (packing_kind source) (compiled_goal source) (compiled_game source))
      (IsWideAt (packing_kind source) (compiled_game source)) k.table
      → IsWorkOf (packing_kind source) (compiled_goal source) (compiled_game source) units k.table done now) where
    pub work_by : (game : Game) → Reads k.text game → IsLocallySound (graph_of k.packing k.goal game) (IsWideAt k.packing game) k.table
        → IsWorkOf k.packing k.goal game units k.table done now
    work_by game read sound =
        of_any (λ p w g. IsWorkOf p w g units k.table done now) game read
        (works (to_source (λ p w g. IsLocallySound (graph_of p w g) (IsWideAt p g) k.table) game read sound))

    -- a sound table stays sound
    pub worked_sound : IsSound (Some k) → IsSound (Some (kept_as k.text k.packing k.goal now))
    worked_sound sound = (
      compiled_game source,
      made.reads,
      of_any (λ p w g. IsLocallySound (graph_of p w g) (IsWideAt p g) now) (compiled_game source) made.reads (works (sound_here sound)).sound,
    )

    -- and fits, with positions of the same length
    pub not_unfit : IsSound (Some k) → ((n : ℕ) → FitsTogether n k.table → ¬ FitsTogether n now) → ⊥
    not_unfit sound cause =
        let game = compiled_game source in
        let here = sound_here sound in
        let start = starts_are_positions k.text game made.reads in
        let (were, was_fits) = sound_tables_fit (packing_kind source) (compiled_goal source) game k.table start here in
        let (are, is_fits) = sound_tables_fit (packing_kind source) (compiled_goal source) game now start (works here).sound in
        cause (packed_length (packing_kind source) game) was_fits is_fits

module _ (Stores : ℕ → Layout) (old new : State) (source : Compiled) (k : Kept) (made : IsMadeOf source k) (loaded : old.kept ≡ Some k)
    (units done : ℕ) (now : Stored (List ℕ))
    (works : IsTrue old.disk.honest → IsLocallySound (graph_of (packing_kind source) (compiled_goal source) (compiled_game source))
    (IsWideAt (packing_kind source) (compiled_game source)) k.table
    → IsWorkOf (packing_kind source) (compiled_goal source) (compiled_game source) units k.table done now) where
  works_of : (counts : Counts) → counts ≡ counts_of now → IsTrue old.disk.honest
      → WorksOnTable units old.kept done counts (Some (kept_as k.text k.packing k.goal now))
  works_of counts counted honest = record {
    was = k;
    loaded = loaded;
    is = kept_as k.text k.packing k.goal now;
    worked = refl;
    same_text = refl;
    same_packing = refl;
    same_goal = refl;
    work = work_by source k made units done now (works honest);
    counted = counted;
  }

  -- units are done and kept
  pub worked_done : (counts : Counts) → (IsTrue old.disk.honest → counts ≡ counts_of now) → Leaves Stores new → GoesOn old.disk new.disk
      → IsPut Stores (kept_as k.text k.packing k.goal now) old new → IsDone Stores (work units) (Worked done counts) old new
  worked_done counts counted leaves goes_on put = record {
    step = record {
      does = λ honest. subst (λ (kept : Option Kept). WorksOnTable units old.kept done counts kept) (sym (put.kept honest))
          (works_of counts (counted honest) honest);
      reason = tt;
    };
    stops = put_stops Stores (kept_as k.text k.packing k.goal now) old new leaves goes_on put;
  }

  -- they are kept, and sound
  pub kept_sound : IsTrue old.disk.honest → IsSound old.kept → IsPut Stores (kept_as k.text k.packing k.goal now) old new → IsSound new.kept
  kept_sound honest sound put =
      subst (λ (kept : Option Kept). IsSound kept) (sym (put.kept honest))
      (worked_sound source k made units done now (works honest) (subst (λ (kept : Option Kept). IsSound kept) loaded sound))

  keep_cause : (fault : FileFault) → FileCommitCause k.table now old new fault → WorkCause units old new (file_fault fault)
  keep_cause file.Disk cause = cause
  keep_cause file.NotATable cause = absurd cause
  keep_cause file.AlreadyATable cause = absurd cause
  keep_cause file.Damaged cause = cause
  keep_cause file.OldLayout cause = absurd cause
  keep_cause file.TooSmall cause = absurd cause
  keep_cause file.TableFull cause = absurd cause
  keep_cause file.OutOfMemory cause = absurd cause
  keep_cause file.Closed cause = cause
  keep_cause file.Inconsistent cause = λ honest sound.
      not_unfit source k made units done now (works honest) (subst (λ (kept : Option Kept). IsSound kept) loaded sound) (cause honest)

  -- they are not kept
  pub not_kept : (fault : FileFault) → IsNotPut Stores (kept_as k.text k.packing k.goal now) old new → FileCommitCause k.table now old new fault
      → (fault ≢ file.Disk → new.closed ≡ old.closed) → IsRefused Stores (work units) old new (file_fault fault)
  not_kept fault left cause still = record {
    step = record { does = left.kept; reason = keep_cause fault cause };
    stops = record {
      commits = left.commits;
      counts = left.counts;
      text = left.text;
      packing = left.packing;
      goal = left.goal;
      same = left.kept;
      since = left.leaves;
      failed = λ honest was is. (
        Some (kept_as k.text k.packing k.goal now),
        (Worked done (counts_of now), works_of (counts_of now) refl honest),
        left.either honest was,
      );
    };
    still = λ other. still (λ is. other (ap file_fault is));
  }

-- no unit is done, and nothing kept
pub idle_done : (Stores : ℕ → Layout) (state : State) (source : Compiled) (k : Kept) → IsMadeOf source k → state.kept ≡ Some k
    → (units done : ℕ) (now : Stored (List ℕ)) (counts : Counts)
    → (IsTrue state.disk.honest → IsLocallySound (graph_of (packing_kind source) (compiled_goal source) (compiled_game source))
    (IsWideAt (packing_kind source) (compiled_game source)) k.table
    → IsWorkOf (packing_kind source) (compiled_goal source) (compiled_game source) units k.table done now)
    → (IsTrue state.disk.honest → now ≡ k.table) → (IsTrue state.disk.honest → counts ≡ counts_of now) → Leaves Stores state → state.closed ≡ false
    → IsDone Stores (work units) (Worked done counts) state state
idle_done Stores state source k made loaded units done now counts works same counted leaves is_open = record {
  step = record {
    does = λ honest. record {
      was = k;
      loaded = loaded;
      is = kept_as k.text k.packing k.goal now;
      worked = loaded ∙ ap (λ (t : Stored (List ℕ)). Some (kept_as k.text k.packing k.goal t)) (sym (same honest));
      same_text = refl;
      same_packing = refl;
      same_goal = refl;
      work = work_by source k made units done now (works honest);
      counted = counted honest;
    };
    reason = tt;
  };
  stops = record {
    is_open = is_open;
    since = λ honest. leaves_now state.disk (λ image left. inl (leaves honest is_open image left));
    now = λ honest. leaves honest is_open;
  };
}

-- what a unit that is not done leaves, once the command is given up
pub given_up : {Ahead Whole Kept_so Same : Type 0} (Fails : TableFault → Type 0) (Cause : TableFault → Type 0) (fault : StepFault)
    → LeavesUnit Ahead Fails fault → (Ahead → Whole × Kept_so × Same) → ((f : TableFault) → Fails f → Whole × Kept_so × Cause f) → Whole × Kept_so
given_up Fails Cause step.TooWide left back failed = let b = back left in (b.0, b.1)
given_up Fails Cause (step.KeeperChooses number) left back failed = let b = back left in (b.0, b.1)
given_up Fails Cause step.TooManyPositions left back failed = let b = back left in (b.0, b.1)
given_up Fails Cause step.Inconsistent left back failed = let b = back left in (b.0, b.1)
given_up Fails Cause step.OutOfMemory left back failed = let b = back left in (b.0, b.1)
given_up Fails Cause (step.Table fault) left back failed = let b = failed fault left in (b.0, b.1)

-- what is so of each state that it may leave
pub left_so : {Ahead So : Type 0} (Fails : TableFault → Type 0) (fault : StepFault) → LeavesUnit Ahead Fails fault → (Ahead → So)
    → ((f : TableFault) → Fails f → So) → So
left_so Fails step.TooWide left back failed = back left
left_so Fails (step.KeeperChooses number) left back failed = back left
left_so Fails step.TooManyPositions left back failed = back left
left_so Fails step.Inconsistent left back failed = back left
left_so Fails step.OutOfMemory left back failed = back left
left_so Fails (step.Table fault) left back failed = failed fault left

module _ (Stores : ℕ → Layout) (old new : State) (source : Compiled) (k : Kept) (made : IsMadeOf source k) (loaded : old.kept ≡ Some k) (units : ℕ) where
  stops_at : (fault : StepFault) →
      (IsTrue old.disk.honest → IsLocallySound (graph_of (packing_kind source) (compiled_goal source) (compiled_game source))
      (IsWideAt (packing_kind source) (compiled_game source)) k.table
      → StopsWith (graph_of (packing_kind source) (compiled_goal source) (compiled_game source))
      (IsWideAt (packing_kind source) (compiled_game source)) k.table units fault) → IsTrue old.disk.honest → StopsAt units old.kept fault
  stops_at fault cause honest =
      subst (λ (kept : Option Kept). StopsAt units kept fault) (sym loaded)
      (λ game read sound.
      of_any source k made (λ p w g. StopsWith (graph_of p w g) (IsWideAt p g) k.table units fault) game read
      (cause honest (to_source source k made (λ p w g. IsLocallySound (graph_of p w g) (IsWideAt p g) k.table) game read sound)))

  other_origin : (IsTrue old.disk.honest → IsLocallySound (graph_of (packing_kind source) (compiled_goal source) (compiled_game source))
      (IsWideAt (packing_kind source) (compiled_game source)) k.table → ⊥) → IsTrue old.disk.honest → IsSound old.kept → ⊥
  other_origin consistent honest sound = consistent honest (sound_here source k made (subst (λ (kept : Option Kept). IsSound kept) loaded sound))

  unfinished_there : (IsTrue old.disk.honest → IsLocallySound (graph_of (packing_kind source) (compiled_goal source) (compiled_game source))
      (IsWideAt (packing_kind source) (compiled_game source)) k.table
      → IsFinished (view_of k.table) → ⊥) → IsTrue old.disk.honest → IsUnfinished old.kept
  unfinished_there unfinished honest =
      subst (λ (kept : Option Kept). IsUnfinished kept) (sym loaded) (λ sound. unfinished honest (sound_here source k made sound))

  module _ (Ahead : Type 0) (Fails : TableFault → Type 0) (cause_of : (f : TableFault) → Fails f → FileTableCause old new f)
      (unfinished : IsTrue old.disk.honest → IsLocallySound (graph_of (packing_kind source) (compiled_goal source) (compiled_game source))
      (IsWideAt (packing_kind source) (compiled_game source)) k.table
      → IsFinished (view_of k.table) → ⊥) where
    work_cause : (fault : StepFault)
        → (IsTrue old.disk.honest → IsLocallySound (graph_of (packing_kind source) (compiled_goal source) (compiled_game source))
        (IsWideAt (packing_kind source) (compiled_game source)) k.table
        → StopsWith (graph_of (packing_kind source) (compiled_goal source) (compiled_game source))
        (IsWideAt (packing_kind source) (compiled_game source)) k.table units fault)
        → (IsTrue old.disk.honest → IsLocallySound (graph_of (packing_kind source) (compiled_goal source) (compiled_game source))
        (IsWideAt (packing_kind source) (compiled_game source)) k.table → fault ≡ step.Inconsistent → ⊥)
        → LeavesUnit Ahead Fails fault → WorkCause units old new (step_fault fault)
    work_cause step.TooWide cause consistent left = stops_at step.TooWide cause
    work_cause (step.KeeperChooses number) cause consistent left = stops_at (step.KeeperChooses number) cause
    work_cause step.TooManyPositions cause consistent left = stops_at step.TooManyPositions cause
    work_cause step.Inconsistent cause consistent left = other_origin (λ honest sound. consistent honest sound refl)
    work_cause step.OutOfMemory cause consistent left = tt
    work_cause (step.Table fault) cause consistent left = by_fault fault (cause_of fault left)
      where
        by_fault : (f : TableFault) → FileTableCause old new f → WorkCause units old new (table_fault f)
        by_fault table.Disk cause = cause
        by_fault table.Damaged cause = cause
        by_fault table.TableFull cause = unfinished_there unfinished
        by_fault table.OutOfMemory cause = tt
        by_fault table.Closed cause = cause

    -- units are refused, and the command is given up
    pub work_refused : (fault : StepFault)
        → (IsTrue old.disk.honest → IsLocallySound (graph_of (packing_kind source) (compiled_goal source) (compiled_game source))
        (IsWideAt (packing_kind source) (compiled_game source)) k.table
        → StopsWith (graph_of (packing_kind source) (compiled_goal source) (compiled_game source))
        (IsWideAt (packing_kind source) (compiled_game source)) k.table units fault)
        → (IsTrue old.disk.honest → IsLocallySound (graph_of (packing_kind source) (compiled_goal source) (compiled_game source))
        (IsWideAt (packing_kind source) (compiled_game source)) k.table → fault ≡ step.Inconsistent → ⊥)
        → LeavesUnit Ahead Fails fault → old.closed ≡ false → IsNothingPut Stores old new
        → (Ahead → new.closed ≡ old.closed) → ((f : TableFault) → Fails f → f ≢ table.Disk → new.closed ≡ old.closed)
        → IsRefused Stores (work units) old new (step_fault fault)
    work_refused fault cause consistent left is_open given back failed = record {
      step = record { does = given.kept; reason = work_cause fault cause consistent left };
      stops = record {
        commits = given.commits;
        counts = given.counts;
        text = given.text;
        packing = given.packing;
        goal = given.goal;
        same = given.kept;
        since = λ honest open_. given.leaves honest is_open;
        failed = λ honest was is. (old.kept, (Refused (step_fault fault), refl), leaves_more (λ image left. inl left) (given.leaves honest is_open));
      };
      still = by_fault fault left;
    }
      where
        by_fault : (fault : StepFault) → LeavesUnit Ahead Fails fault → step_fault fault ≢ Disk → new.closed ≡ old.closed
        by_fault step.TooWide left other = back left
        by_fault (step.KeeperChooses number) left other = back left
        by_fault step.TooManyPositions left other = back left
        by_fault step.Inconsistent left other = back left
        by_fault step.OutOfMemory left other = back left
        by_fault (step.Table f) left other = failed f left (λ is. other (ap table_fault is))

-- no page was free, of the pages that the units may take
pub short_of_pages : (source : Compiled) (k : Kept) → IsMadeOf source k → (kept : Option Kept) → kept ≡ Some k → (stored : Stored (List ℕ)) → stored ≡ k.table
    → (units count free : ℕ) → count ≡ units →
    (IsLocallySound (graph_of (packing_kind source) (compiled_goal source) (compiled_game source))
    (IsWideAt (packing_kind source) (compiled_game source)) stored
    → WantsPages (graph_of (packing_kind source) (compiled_goal source) (compiled_game source))
    (IsWideAt (packing_kind source) (compiled_game source)) stored count free)
    → IsShortOfPages units free kept
short_of_pages source k made kept loaded stored same units count free counted wants =
    subst (λ (o : Option Kept). IsShortOfPages units free o) (sym loaded)
    (λ game read sound.
    of_any source k made (λ p w g. WantsPages (graph_of p w g) (IsWideAt p g) k.table units free) game read
    (subst (λ (n : ℕ). WantsPages (graph_of (packing_kind source) (compiled_goal source) (compiled_game source))
    (IsWideAt (packing_kind source) (compiled_game source)) k.table n free) counted
    (subst (λ (t : Stored (List ℕ)). IsLocallySound (graph_of (packing_kind source) (compiled_goal source) (compiled_game source))
    (IsWideAt (packing_kind source) (compiled_game source)) t
    → WantsPages (graph_of (packing_kind source) (compiled_goal source) (compiled_game source))
    (IsWideAt (packing_kind source) (compiled_game source)) t count free) same wants
    (to_source source k made (λ p w g. IsLocallySound (graph_of p w g) (IsWideAt p g) k.table) game read sound))))

-- the fault of a unit is E7 where no page was free for the table
pub full_unit : (fault : StepFault) → step_fault fault ≡ solver.TableFull → fault ≡ step.Table table.TableFull
full_unit step.TooWide is = let no : solver.TooWide ≡ solver.TableFull = is in cc
full_unit (step.KeeperChooses number) is = let no : solver.KeeperChooses number ≡ solver.TableFull = is in cc
full_unit step.TooManyPositions is = let no : solver.TooManyPositions ≡ solver.TableFull = is in cc
full_unit step.Inconsistent is = let no : solver.Inconsistent ≡ solver.TableFull = is in cc
full_unit step.OutOfMemory is = let no : solver.OutOfMemory ≡ solver.TableFull = is in cc
full_unit (step.Table table.Disk) is = let no : solver.Disk ≡ solver.TableFull = is in cc
full_unit (step.Table table.Damaged) is = let no : solver.Damaged ≡ solver.TableFull = is in cc
full_unit (step.Table table.TableFull) is = refl
full_unit (step.Table table.OutOfMemory) is = let no : solver.OutOfMemory ≡ solver.TableFull = is in cc
full_unit (step.Table table.Closed) is = let no : solver.Closed ≡ solver.TableFull = is in cc

-- a commit is never refused for want of a page
pub commit_not_full : (was now : Stored (List ℕ)) (old new : State) (fault : FileFault) → FileCommitCause was now old new fault
    → file_fault fault ≡ solver.TableFull → ⊥
commit_not_full was now old new file.Disk cause is = let no : solver.Disk ≡ solver.TableFull = is in cc
commit_not_full was now old new file.NotATable cause is = absurd cause
commit_not_full was now old new file.AlreadyATable cause is = absurd cause
commit_not_full was now old new file.Damaged cause is = let no : solver.Damaged ≡ solver.TableFull = is in cc
commit_not_full was now old new file.OldLayout cause is = absurd cause
commit_not_full was now old new file.TooSmall cause is = absurd cause
commit_not_full was now old new file.TableFull cause is = absurd cause
commit_not_full was now old new file.OutOfMemory cause is = absurd cause
commit_not_full was now old new file.Closed cause is = let no : solver.Closed ≡ solver.TableFull = is in cc
commit_not_full was now old new file.Inconsistent cause is = let no : solver.Inconsistent ≡ solver.TableFull = is in cc

-- no question is refused for want of a page
pub asked_not_full : (state : State) (fault : SolverFault) → AskCause state state fault → fault ≡ solver.TableFull → ⊥
asked_not_full state fault cause is = subst (λ (f : SolverFault). AskCause state state f) is cause

-- what forbids a question forbids work
pub asked_work : (units : ℕ) (state : State) (fault : SolverFault) → AskCause state state fault → WorkCause units state state fault
asked_work units state solver.Disk cause = cause
asked_work units state solver.NotATable cause = absurd cause
asked_work units state solver.AlreadyATable cause = absurd cause
asked_work units state solver.Damaged cause = cause
asked_work units state solver.OldLayout cause = absurd cause
asked_work units state solver.TooSmall cause = absurd cause
asked_work units state solver.TableFull cause = absurd cause
asked_work units state solver.OutOfMemory cause = tt
asked_work units state solver.Closed cause = cause
asked_work units state (solver.Game g) cause = absurd cause
asked_work units state solver.NoGame cause = cause.1
asked_work units state solver.GameAlready cause = absurd cause
asked_work units state (solver.KeeperChooses n) cause = absurd cause
asked_work units state solver.TooWide cause = absurd cause
asked_work units state solver.TooManyPositions cause = absurd cause
asked_work units state solver.Inconsistent cause = absurd cause
asked_work units state solver.NoSuchPosition cause = absurd cause
asked_work units state solver.NotSettled cause = absurd cause
asked_work units state solver.ListingsUsedUp cause = absurd cause
asked_work units state solver.BadPosition cause = absurd cause
