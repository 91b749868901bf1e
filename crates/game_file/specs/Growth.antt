-- What is left where a file of a table gets more pages, and why it does not.
use Rattle.std.specs.Prelude.{◌≡◌, ◌⊎◌, ◌<◌, ◌≤◌, ℕ, true, false, IsTrue}
use Rattle.sector_disk.specs.Disk.{size, GoesOn, Grew, LeavesOnly}
use Rattle.page_store.specs.Store.{ClosesByWrites}
use Rattle.page_store.specs.declared.limits.TheConstants.{MAX_PAGES}
use Rattle.game_file.specs.declared.fault.FileFault.{FileFault}
use Rattle.game_file.specs.declared.fault.FileFault.TheVariants.{Disk as DiskFailed, TooSmall, OutOfMemory, Closed}
use Rattle.game_file.specs.Kept.{Layout, goal_kept, packing_kept, text_kept}
use Rattle.game_file.specs.State.{State, count_behind}
use Rattle.game_file.specs.Stops.{LeavesTable}

-- a later state of the same file, which may have become larger, and its disk longer: a write, a sync or an extension that failed closes it,
-- and nothing else does
pub record GrowsAhead (old new : State) : Type 0 where
  pub goes_on : GoesOn old.disk new.disk
  pub no_shorter : size old.disk ≤ size new.disk
  pub failures : old.failures ≤ new.failures
  pub no_fewer : old.capacity ≤ new.capacity
  pub closes : ClosesByWrites old.closed old.disk.failed_writes new.closed new.disk.failed_writes

-- this many pages are not more than there are, or more than a table may have
abbrev pub IsNoGrowth : ℕ → ℕ → Type 0
IsNoGrowth pages capacity = (pages ≤ capacity) ⊎ (MAX_PAGES < pages)

module _ (Stores : ℕ → Layout) where
  -- between the two moments a stop leaves what was kept, in as many pages as before or in this many
  abbrev pub LeavesEitherSize : ℕ → State → State → Type 0
  LeavesEitherSize pages old new =
      LeavesOnly old.disk new.disk (λ image. Stores old.capacity image old.kept ⊎ Stores pages image old.kept)

  -- the file has this many pages now, by one commit more, and what was kept still is; a stop meanwhile leaves it in as many pages as there
  -- were or in this many
  pub record IsGrownFile (pages : ℕ) (old new : State) : Type 0 where
    pub commits : new.commits ≡ count_behind old.commits
    pub counts : new.counts ≡ old.counts
    pub text : text_kept new.kept ≡ text_kept old.kept
    pub packing : packing_kept new.kept ≡ packing_kept old.kept
    pub goal : goal_kept new.kept ≡ goal_kept old.kept
    pub kept : IsTrue old.disk.honest → new.kept ≡ old.kept
    pub capacity : new.capacity ≡ pages
    pub is_open : new.closed ≡ false
    pub leaves : IsTrue old.disk.honest → LeavesEitherSize pages old new

  -- the file has as many pages as before, and what was kept still is; a stop leaves it so; where a write, a sync or an extension failed, it
  -- leaves it in as many pages as there were or in this many
  pub record IsNotGrown (pages : ℕ) (old new : State) : Type 0 where
    pub commits : new.commits ≡ old.commits
    pub counts : new.counts ≡ old.counts
    pub text : text_kept new.kept ≡ text_kept old.kept
    pub packing : packing_kept new.kept ≡ packing_kept old.kept
    pub goal : goal_kept new.kept ≡ goal_kept old.kept
    pub kept : IsTrue old.disk.honest → new.kept ≡ old.kept
    pub capacity : new.capacity ≡ old.capacity
    pub leaves : IsTrue old.disk.honest → new.closed ≡ false → LeavesTable (Stores old.capacity) old.disk new.disk old.kept
    pub either : IsTrue old.disk.honest → old.closed ≡ false → LeavesEitherSize pages old new

-- `grow`: the disk failed; this many pages are no growth; memory ran out, which needs no cause; or the file was closed
abbrev pub FileGrowCause : ℕ → State → State → FileFault → Type 0
FileGrowCause pages old new DiskFailed = Grew old.failures new.failures
FileGrowCause pages old new TooSmall = IsNoGrowth pages old.capacity
FileGrowCause pages old new OutOfMemory = Unit {0}
FileGrowCause pages old new Closed = old.closed ≡ true
FileGrowCause pages old new _ = ⊥
