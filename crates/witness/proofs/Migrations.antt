-- What is known of a disk in the course of migrations, from one call to the next.
use Rattle.std.proofs.Common.{◌≡◌, ℕ, inl, inr, ◌∙◌, List, [], length, Option, Some, refl, sym, subst, arith}
use Rattle.std.specs.Prelude.{IsTrue, Result, Ok, Err, IfOk}
use Rattle.sector_disk.specs.Disk.{Image, Shown, Disk, MayLeave, AllSynced, Grew, IsFresh, at_present, counting}
use Rattle.sector_disk.specs.InMemory.{disk_in}
use Rattle.sector_disk.specs.declared.memory.MemDisk.{MemDisk}
use Rattle.sector_disk.specs.lemmas.Moments.{reads_left}
use Rattle.table.specs.Fit.{FitsTogether}
use Rattle.game_file.specs.Kept.{Kept, Layout, in_any}
use Rattle.game_file.specs.State.{State, GoesFrom}
use Rattle.game_file.specs.Stops.{LeavesNow}
use Rattle.position_pack.specs.Bits.{width}
use Rattle.position_pack.specs.declared.kind.PackingKind.{PackingKind}
use Rattle.position_pack.specs.declared.kind.PackingKind.TheVariants.{Bytes, Bits}
use Rattle.earlier_layouts.specs.Held.{Stores}
use Rattle.tree_table.specs.Held.{StoresTrees}
use Rattle.recover.specs.Migrations.{EitherLayout, AreMigrations, began, was_migrated, was_current, was_refused, IsFoundThen}
use Rattle.recover.specs.Migrations.{IsMigrated, IsCurrent, MigrateCause}
use Rattle.recover.specs.declared.migration.Migration.{Migration}
use Rattle.recover.specs.declared.migration.Migration.TheVariants.{Migrated, Current}
use Rattle.solver.specs.declared.fault.SolverFault.{SolverFault}
use Rattle.solver.specs.declared.fault.SolverFault.TheVariants as fault
use Rattle.solver.specs.Headline.{HeadlineFrom}
use Rattle.solver.specs.Held.{IsSound}
use Rattle.solver.specs.Histories.{Sitting, HistoryFrom}
use Rattle.solver.specs.Opened.{IsCreated, IsOpened, OpenCause}
use Rattle.solver.specs.lemmas.Laws.{a_sound_table_is_held, a_sound_table_is_right}
use Rattle.witness.specs.Game.{witness_game}
use Rattle.witness.specs.Sittings.{IsWantOfRoom}
use Rattle.witness.specs.lemmas.Sittings.{IsItFinished, IsNoneOrIt, HasSuchTable}
use Rattle.witness.specs.lemmas.Migrations.{IsLeftFinished, EarlierLayouts, IsInMigrations, WasBegun, GoesOnFinished}
use Rattle.witness.proofs.Positions.{graph}
use Rattle.witness.proofs.Told.{its_own, unlucky}

module _ (Layouts : ℕ → Layout) where
  -- the empty table that was made
  pub created_so : (disk : Disk) (count : ℕ) (state : State) → IsFresh 256 disk → IsCreated Layouts disk count state → HasSuchTable IsNoneOrIt state
  created_so disk count state fresh created = record {
    honest = subst (λ h. IsTrue h) (sym created.from.goes_on.honest) fresh.honest;
    is_open = created.is_open;
    sound = subst IsSound (sym (created.empty fresh.honest)) tt;
    such = subst IsNoneOrIt (sym (created.empty fresh.honest)) tt;
  }

  -- the finished one, once it is closed
  pub left_so : (state : State) → HasSuchTable IsItFinished state → LeavesNow (Layouts state.capacity) state.disk state.kept
      → IsLeftFinished Layouts state.disk
  left_so state table leaves = record {
    honest = table.honest;
    kept = state.kept;
    sound = table.sound;
    finished = table.such;
    leaves = λ image may. (state.capacity, leaves image may);
  }

-- before the first migration
pub not_begun : (disk : Disk) → IsLeftFinished (StoresTrees 2) disk → IsInMigrations disk
not_begun disk it = record {
  honest = it.honest;
  kept = it.kept;
  sound = it.sound;
  finished = it.finished;
  before = disk.now;
  going = began (λ image may. let (pages, stores) = it.leaves image may in (pages, inl (inr stores)));
  as_left = λ image may. may;
}

-- whatever the disk counts as failed
pub counted_so : (disk : Disk) (failed : ℕ) → IsInMigrations disk → IsInMigrations (counting disk failed)
counted_so disk failed it = record {
  honest = it.honest;
  kept = it.kept;
  sound = it.sound;
  finished = it.finished;
  before = it.before;
  going = it.going;
  as_left = it.as_left;
}

-- what is found after a stop
pub found_so : (disk found : Disk) → IsInMigrations disk → IsTrue found.honest → MayLeave disk.now found.now.contents → AllSynced found.now
    → IsInMigrations found
found_so disk found it honest left all = record {
  honest = honest;
  kept = it.kept;
  sound = it.sound;
  finished = it.finished;
  before = it.before;
  going = it.going;
  as_left = λ image may. it.as_left image (record {
    no_shorter = omega (arith, left.no_shorter, all.lasting, may.no_shorter);
    no_longer = omega (arith, may.no_longer, left.no_longer);
    same = λ k synced. may.same k (all.synced k) ∙ left.same k synced;
  });
}

-- so is whatever a stop leaves of a disk in memory
pub found_all : {E : Type 0} (result : Result MemDisk E) (disk : Disk) → IsInMigrations disk
    → IfOk result (λ m. MayLeave disk.now (disk_in m).now.contents) → IfOk result (λ m. AllSynced (disk_in m).now)
    → IfOk result (λ m. IsTrue (disk_in m).honest) → IfOk result (λ m. IsInMigrations (disk_in m))
found_all (Ok m) disk it left all honest = found_so disk (disk_in m) it honest left all
found_all (Err e) disk it left all honest = tt

-- a migration was begun, whatever it answered
pub begun_so : (First Second Today : ℕ → Layout) (disk back : Disk) (count now : ℕ) (which : Migration)
    → (which ≡ Migrated → IsMigrated (EitherLayout First Second) Today disk count back now)
    → (which ≡ Current → IsCurrent (EitherLayout First Second) Today disk count back now)
    → WasBegun (EitherLayout First Second) Today disk count back now
begun_so First Second Today disk back count now Migrated migrated current = inl (migrated refl)
begun_so First Second Today disk back count now Current migrated current = inr (inl (current refl))

module _ (disk back : Disk) (count now : ℕ) (it : IsInMigrations disk) where
  -- the disk behind a migration, however that went
  behind : GoesFrom disk count back now → AreMigrations EarlierLayouts (StoresTrees 3) it.kept back.now → IsInMigrations back
  behind from going = record {
    honest = subst (λ h. IsTrue h) (sym from.goes_on.honest) it.honest;
    kept = it.kept;
    sound = it.sound;
    finished = it.finished;
    before = back.now;
    going = going;
    as_left = λ image may. may;
  }

  pub behind_begun : WasBegun EarlierLayouts (StoresTrees 3) disk count back now → IsInMigrations back
  behind_begun (inl done) =
      behind done.from (was_migrated it.going (it.honest, it.as_left) done at_present)
  behind_begun (inr (inl done)) =
      behind done.from (was_current it.going (it.honest, it.as_left) done at_present)
  behind_begun (inr (inr (why, refused))) =
      behind refused.from (was_refused it.going (it.honest, it.as_left) refused at_present)

  -- behind one that is answered a history goes on
  module _ (migrated_law : (kept : Option Kept) (before : Shown) (from to : Disk) (m n : ℕ)
      → AreMigrations EarlierLayouts (StoresTrees 3) kept before → IsFoundThen before from
      → IsMigrated EarlierLayouts (StoresTrees 3) from m to n → HistoryFrom (StoresTrees 3) kept [] to.now)
      (current_law : (kept : Option Kept) (before : Shown) (from to : Disk) (m n : ℕ)
      → AreMigrations EarlierLayouts (StoresTrees 3) kept before → IsFoundThen before from
      → IsCurrent EarlierLayouts (StoresTrees 3) from m to n → HistoryFrom (StoresTrees 3) kept [] to.now) where
    goes_on : GoesFrom disk count back now → HistoryFrom (StoresTrees 3) it.kept [] back.now → GoesOnFinished back
    goes_on from history = record {
      honest = subst (λ h. IsTrue h) (sym from.goes_on.honest) it.honest;
      kept = it.kept;
      sound = it.sound;
      finished = it.finished;
      history = history;
    }

    pub goes_on_behind : (which : Migration) → (which ≡ Migrated → IsMigrated EarlierLayouts (StoresTrees 3) disk count back now)
        → (which ≡ Current → IsCurrent EarlierLayouts (StoresTrees 3) disk count back now) → GoesOnFinished back
    goes_on_behind Migrated migrated current =
        let done = migrated refl in
        goes_on done.from (migrated_law it.kept it.before disk back count now it.going (it.honest, it.as_left) done)
    goes_on_behind Current migrated current =
        let done = current refl in
        goes_on done.from (current_law it.kept it.before disk back count now it.going (it.honest, it.as_left) done)

-- ---- why a migration is refused

-- a position of the small game has bytes
some_bytes : (kind : PackingKind) → length (graph kind).start ≡ 0 → ⊥
unfolding width
some_bytes Bytes none = absurd (omega (arith, none))
some_bytes Bits none = let one : length (graph Bits).start ≡ 1 = refl in absurd (omega (arith, none, one))

fits_with_bytes : (kept : Kept) → IsItFinished (Some kept) → IsSound (Some kept) → FitsTogether 0 kept.table → ⊥
fits_with_bytes kept its sound fits =
    some_bytes kept.packing
    (fits.long 0 (graph kept.packing).start (a_sound_table_is_right kept witness_game sound (its_own (StoresTrees 3) kept its.0.0)).moves.first)

module _ (disk : Disk) (before now : ℕ) (it : IsInMigrations disk)
    (leaves : (kept : Option Kept) (left : Shown) (image : Image) → AreMigrations EarlierLayouts (StoresTrees 3) kept left → MayLeave left image
    → in_any (EitherLayout EarlierLayouts (StoresTrees 3)) image kept)
    (one : (m n : ℕ) (image : Image) (a b : Option Kept) → EitherLayout EarlierLayouts (StoresTrees 3) m image a
    → EitherLayout EarlierLayouts (StoresTrees 3) n image b → a ≡ b) where
  -- the disk reads as the table, in one of the layouts
  there : in_any (EitherLayout EarlierLayouts (StoresTrees 3)) disk.now.contents it.kept
  there = leaves it.kept it.before disk.now.contents it.going (it.as_left disk.now.contents (reads_left disk))

  pub refused_for : (why : SolverFault) → MigrateCause Stores (StoresTrees 2) (StoresTrees 3) disk before now why → IsWantOfRoom (Grew before now) why
  refused_for fault.Disk cause = cause
  refused_for fault.NotATable cause = go there
    where
      go : in_any (EitherLayout EarlierLayouts (StoresTrees 3)) disk.now.contents it.kept → ⊥
      go (pages, inl (inl stores)) = cause it.honest stores.holds.table
      go (pages, inl (inr stores)) = cause it.honest stores.holds.table
      go (pages, inr stores) = cause it.honest stores.holds.table
  refused_for fault.Damaged cause = go there
    where
      go : in_any (EitherLayout EarlierLayouts (StoresTrees 3)) disk.now.contents it.kept → ⊥
      go (pages, inl (inl stores)) =
          (cause it.honest).1 it.kept (a_sound_table_is_held (in_any Stores) disk.now.contents it.kept (pages, stores) it.sound)
      go (pages, inl (inr stores)) =
          (cause it.honest).2 it.kept (a_sound_table_is_held (in_any (StoresTrees 2)) disk.now.contents it.kept (pages, stores) it.sound)
      go (pages, inr stores) =
          (cause it.honest).3 it.kept (a_sound_table_is_held (in_any (StoresTrees 3)) disk.now.contents it.kept (pages, stores) it.sound)
  refused_for fault.TableFull cause = tt
  refused_for fault.OutOfMemory cause = tt
  refused_for fault.Inconsistent cause =
      let (kept, holds, fits) = cause it.honest in
      let (pages, stores) = holds.stores in
      let (m, here) = there in
      let same : it.kept ≡ Some kept = one m pages disk.now.contents it.kept (Some kept) here (inl (inl stores)) in
      absurd (fits_with_bytes kept (subst IsItFinished same it.finished) (subst IsSound same it.sound) fits)
  refused_for why cause = absurd cause

-- ---- what is opened behind them

module _ (disk : Disk) (it : GoesOnFinished disk)
    (law : (begins : Option Kept) (sittings : List Sitting) (left : Shown) (image : Image) → IsSound begins
    → HistoryFrom (StoresTrees 3) begins sittings left → MayLeave left image → HeadlineFrom (StoresTrees 3) begins sittings image) where
  headline : HeadlineFrom (StoresTrees 3) it.kept [] disk.now.contents
  headline = law it.kept [] disk.now disk.now.contents it.sound it.history (reads_left disk)

  pub opened_so : (count : ℕ) (state : State) → IsOpened (StoresTrees 3) disk count state → HasSuchTable IsItFinished state
  opened_so count state opened =
      let given : state.kept ≡ it.kept = (headline.2.gives disk count state it.honest refl opened).0 ∙ headline.1 in
      record {
        honest = subst (λ h. IsTrue h) (sym opened.from.goes_on.honest) it.honest;
        is_open = opened.is_open;
        sound = subst IsSound (sym given) it.sound;
        such = subst IsItFinished (sym given) it.finished;
      }

  pub not_opened_for : (before now : ℕ) (why : SolverFault) → OpenCause (StoresTrees 3) disk before now why → IsWantOfRoom (Grew before now) why
  not_opened_for before now why cause = unlucky (StoresTrees 3) before now why (headline.2.fails disk before now why it.honest refl cause)
