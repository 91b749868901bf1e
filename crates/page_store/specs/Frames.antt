-- What a call of a layer above leaves of a store.
use Rattle.std.specs.Prelude.{◌≡◌, ◌≢◌, ◌⊎◌, ℕ, ◌+◌, ◌≤◌, false, length, IsTrue}
use Rattle.sector_disk.specs.Disk.{size, GoesOn, LeavesOnly, MayLeave}
use Rattle.page_store.specs.declared.marks.Mark.TheVariants.{Committed}
use Rattle.page_store.specs.Marks.{mark, free_count}
use Rattle.page_store.specs.Store.{Store, StoreWorks, IsUnchanged}

-- what one leaves that only reads: nothing is committed, and all but the disk is as it was
pub record PagesRead (old new : Store) : Type 0 where
  pub unchanged : IsUnchanged old new
  pub works : StoreWorks old new

-- what one leaves that writes and is answered: nothing is committed, the store is open, and so many pages at most were taken
pub record PagesWritten (most : ℕ) (old new : Store) : Type 0 where
  pub works : StoreWorks old new
  pub «open» : new.closed ≡ false
  pub takes : free_count old.marks ≤ free_count new.marks + most

-- what one leaves that writes and is refused with this fault: nothing is committed, the store is as open as before unless the disk failed, so
-- many pages at most were taken, and the fault has its cause
pub record PagesRefused {F : Type 0} (disk : F) (Cause : Store → Store → F → Type 0) (most : ℕ) (old new : Store) (fault : F) : Type 0 where
  pub works : StoreWorks old new
  pub still : fault ≢ disk → new.closed ≡ old.closed
  pub takes : free_count old.marks ≤ free_count new.marks + most
  pub cause : Cause old new fault

-- some pages are marked, and else the store is as it was; a stop meanwhile leaves what it could leave before
pub record OnlyMarks (old new : Store) : Type 0 where
  pub works : StoreWorks old new
  pub shown : IsTrue old.disk.honest → new.disk.now ≡ old.disk.now
  pub leaves : IsTrue old.disk.honest → LeavesOnly old.disk new.disk (MayLeave old.disk.now)
  pub closed : new.closed ≡ old.closed
  pub others : (p : ℕ) → (mark new.marks p ≡ mark old.marks p) ⊎ (mark new.marks p ≡ Committed)

-- what is left of a store that was just opened, once all that its root names was read and it was sealed, or that was refused: it has the root
-- and the pages that it had, it is as open, and a stop meanwhile leaves what it could leave before
pub record IsReadOn (found now : Store) : Type 0 where
  pub goes_on : GoesOn found.disk now.disk
  pub same_size : size now.disk ≡ size found.disk
  pub failures : found.failures ≤ now.failures
  pub root : now.root ≡ found.root
  pub same_pages : length now.marks ≡ length found.marks
  pub shown : IsTrue found.disk.honest → now.disk.now ≡ found.disk.now
  pub leaves : IsTrue found.disk.honest → LeavesOnly found.disk now.disk (MayLeave found.disk.now)
  pub closed : now.closed ≡ found.closed
