-- What is left where a table moves to a file of another layout, and why it does not.
use Rattle.std.specs.Prelude.{◌≡◌, ◌≢◌, ◌⊎◌, ℕ, ◌≤◌, List, true, false, IsTrue}
use Rattle.sector_disk.specs.Disk.{Image, Disk, Grew, LeavesOnly}
use Rattle.root_pair.specs.Root.{HoldsRoot}
use Rattle.game_file.specs.Fields.{commits_in}
use Rattle.page_store.specs.Page.{page}
use Rattle.page_store.specs.Store.{SameHeader}
use Rattle.game_file.specs.declared.fault.FileFault.{FileFault}
use Rattle.game_file.specs.declared.fault.FileFault.TheVariants.{Disk as DiskFailed, Closed}
use Rattle.game_file.specs.Kept.{Layout}
use Rattle.game_file.specs.State.{State, GoesFrom, count_behind}
use Rattle.game_file.specs.Stops.{LeavesNow, LeavesTable}

-- the slot that the gate of the image picks tells this count of commits
pub record TellsCommits (count : ℕ) (image : Image) : Type 0 where
  pub root : List ℕ
  pub holds : HoldsRoot root image
  pub commits : commits_in root ≡ count

module _ (From To : ℕ → Layout) where
  -- a stop meanwhile leaves what the file keeps, in the one layout or in the other, in as many pages
  abbrev pub LeavesOldOrNew : State → Disk → Type 0
  LeavesOldOrNew old back = LeavesOnly old.disk back (λ image. From old.capacity image old.kept ⊎ To old.capacity image old.kept)

  -- what a file of the one layout kept is in one of the other now, in as many pages, by one commit more, on a disk that comes back with the
  -- same header; a stop meanwhile leaves it in the one layout or in the other, and a stop now in the other
  pub record IsMoved (old : State) (back : Disk) (count : ℕ) : Type 0 where
    pub from : GoesFrom old.disk old.failures back count
    pub header : SameHeader old.disk back
    pub leaves : IsTrue old.disk.honest → LeavesOldOrNew old back
    pub now : IsTrue old.disk.honest → LeavesNow (To old.capacity) back old.kept
    pub commits : IsTrue old.disk.honest → TellsCommits (count_behind old.commits) back.now.contents

  -- it is not, and the header is the same: of a file that was open a stop leaves it in the one layout; where a write or a sync failed, in
  -- the one or in the other
  pub record IsNotMoved (old : State) (back : Disk) (count : ℕ) (fault : FileFault) : Type 0 where
    pub from : GoesFrom old.disk old.failures back count
    pub header : SameHeader old.disk back
    pub leaves : IsTrue old.disk.honest → old.closed ≡ false → fault ≢ DiskFailed → LeavesTable (From old.capacity) old.disk back old.kept
    pub unwritten : IsTrue old.disk.honest → old.closed ≡ false → ¬ Grew old.disk.failed_writes back.failed_writes
        → LeavesTable (From old.capacity) old.disk back old.kept
    pub either : IsTrue old.disk.honest → old.closed ≡ false → LeavesOldOrNew old back

-- each page reads as it did
pub record LeavesPages (old new : Disk) : Type 0 where
  pub reads : IsTrue old.honest → (p : ℕ) → 1 ≤ p → page new.now.contents p ≡ page old.now.contents p

-- why a table is not moved by a commit alone: the disk failed, or the file was closed
abbrev pub RenewCause : State → ℕ → FileFault → Type 0
RenewCause old now DiskFailed = Grew old.failures now
RenewCause old now Closed = old.closed ≡ true
RenewCause old now _ = ⊥
