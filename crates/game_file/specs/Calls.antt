-- What the calls on a table's file leave.
use Rattle.std.specs.Prelude.{◌≡◌, ℕ, false, None, Some, IsTrue}
use Rattle.sector_disk.specs.Disk.{Disk, LeavesOnly, MayLeave}
use Rattle.root_pair.specs.Root.{BeginsAsTable}
use Rattle.game_file.specs.Kept.{Kept, Layout, goal_kept, packing_kept, text_kept}
use Rattle.game_file.specs.State.{State, GoesAhead, GoesFrom, count_behind, pages_of}
use Rattle.game_file.specs.Stops.{LeavesNow, LeavesTable, LeavesEither, OldOrEmpty}

-- the disk as a refused `open` gives it back: a stop since then leaves what it could leave before
pub record IsNotOpened (disk : Disk) (count : ℕ) (back : Disk) (now : ℕ) : Type 0 where
  pub from : GoesFrom disk count back now
  pub leaves : IsTrue disk.honest → LeavesOnly disk back (MayLeave disk.now)

module _ (Stores : ℕ → Layout) where
  -- a file as `open` gives it: it keeps what the disk stores, and a stop since then leaves what it could leave before
  pub record IsOpenedFile (disk : Disk) (count : ℕ) (file : State) : Type 0 where
    pub from : GoesFrom disk count file.disk file.failures
    pub is_open : file.closed ≡ false
    pub stored : IsTrue disk.honest → Stores file.capacity disk.now.contents file.kept
    pub leaves : IsTrue disk.honest → LeavesOnly disk file.disk (MayLeave disk.now)

  -- a file as `create` gives it: the empty table; a stop since then leaves no table, what it could leave before, or the empty table
  pub record IsCreatedFile (disk : Disk) (count : ℕ) (file : State) : Type 0 where
    pub from : GoesFrom disk count file.disk file.failures
    pub capacity : file.capacity ≡ pages_of disk
    pub is_open : file.closed ≡ false
    pub commits : IsTrue disk.honest → file.commits ≡ 0
    pub empty : IsTrue disk.honest → file.kept ≡ None
    pub fresh : IsTrue disk.honest → ¬ BeginsAsTable disk.now.contents
    pub leaves : IsTrue disk.honest → LeavesOnly disk file.disk (OldOrEmpty (Stores file.capacity) disk.now)

  -- the disk as a refused `create` gives it back; where a table was, a stop leaves what it could leave before
  pub record IsNotCreated (disk : Disk) (count : ℕ) (back : Disk) (now : ℕ) : Type 0 where
    pub from : GoesFrom disk count back now
    pub leaves : IsTrue disk.honest → LeavesOnly disk back (OldOrEmpty (Stores (pages_of disk)) disk.now)
    pub kept : IsTrue disk.honest → BeginsAsTable disk.now.contents → LeavesOnly disk back (MayLeave disk.now)

  -- this is kept now in the place of what was, by one commit more, and a stop meanwhile leaves the one or the other
  pub record IsPut (is : Kept) (old new : State) : Type 0 where
    pub commits : new.commits ≡ count_behind old.commits
    pub text : text_kept new.kept ≡ Some is.text
    pub packing : packing_kept new.kept ≡ Some is.packing
    pub goal : goal_kept new.kept ≡ is.goal
    pub kept : IsTrue old.disk.honest → new.kept ≡ Some is
    pub is_open : new.closed ≡ false
    pub leaves : IsTrue old.disk.honest → LeavesEither (Stores old.capacity) old.disk new.disk old.kept (Some is)

  -- what was kept still is, and a stop leaves it; where a write or a sync failed, it leaves that or what should have been put
  pub record IsNotPut (is : Kept) (old new : State) : Type 0 where
    pub commits : new.commits ≡ old.commits
    pub counts : new.counts ≡ old.counts
    pub text : text_kept new.kept ≡ text_kept old.kept
    pub packing : packing_kept new.kept ≡ packing_kept old.kept
    pub goal : goal_kept new.kept ≡ goal_kept old.kept
    pub kept : IsTrue old.disk.honest → new.kept ≡ old.kept
    pub leaves : IsTrue old.disk.honest → new.closed ≡ false → LeavesTable (Stores old.capacity) old.disk new.disk old.kept
    pub either : IsTrue old.disk.honest → old.closed ≡ false → LeavesEither (Stores old.capacity) old.disk new.disk old.kept (Some is)

  -- nothing is put: what was kept still is, and a stop since then leaves it
  pub record IsNothingPut (old new : State) : Type 0 where
    pub ahead : GoesAhead old new
    pub commits : new.commits ≡ old.commits
    pub counts : new.counts ≡ old.counts
    pub text : text_kept new.kept ≡ text_kept old.kept
    pub packing : packing_kept new.kept ≡ packing_kept old.kept
    pub goal : goal_kept new.kept ≡ goal_kept old.kept
    pub kept : IsTrue old.disk.honest → new.kept ≡ old.kept
    pub leaves : IsTrue old.disk.honest → old.closed ≡ false → LeavesTable (Stores old.capacity) old.disk new.disk old.kept

  -- a question changes nothing: the table is kept; a stop since it was asked leaves what it could leave before, so that table, and
  -- a stop now
  pub record IsAsked (old new : State) : Type 0 where
    pub ahead : GoesAhead old new
    pub commits : new.commits ≡ old.commits
    pub counts : new.counts ≡ old.counts
    pub text : text_kept new.kept ≡ text_kept old.kept
    pub packing : packing_kept new.kept ≡ packing_kept old.kept
    pub goal : goal_kept new.kept ≡ goal_kept old.kept
    pub kept : IsTrue old.disk.honest → new.kept ≡ old.kept
    pub closed : new.closed ≡ old.closed
    pub leaves : IsTrue old.disk.honest → LeavesOnly old.disk new.disk (MayLeave old.disk.now)
    pub since : IsTrue old.disk.honest → old.closed ≡ false → LeavesTable (Stores old.capacity) old.disk new.disk old.kept
    pub now : IsTrue old.disk.honest → old.closed ≡ false → LeavesNow (Stores old.capacity) new.disk old.kept
