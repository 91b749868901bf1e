-- What the calls of this crate leave of a disk: a record for each kind of call.
use Rattle.std.specs.Prelude.{◌≡◌, ◌≢◌, ℕ, ◌≤◌, List, IsTrue, Result, IsErrOf}
use Rattle.sector_disk.specs.Disk.{Disk, GoesOn, Keeps, LeavesOnly, MayLeave, SyncedMore, AllSynced, sector, size}
use Rattle.root_pair.specs.Root.{HoldsRoot, HasBothSlots, IsAtRest, IsUnwritten, OldOrNew, OldOrNoneOrNew, RootCreateCause, blank_gate, spare_by}
use Rattle.root_pair.specs.declared.fault.RootFault.{RootFault}
use Rattle.root_pair.specs.declared.fault.RootFault.TheVariants.{Read, Write}

-- what a sync and reads behind it leave: reads give what they gave, a stop leaves what it could leave before, and the count of failures,
-- from this to that, did not fall
pub record IsOnlyRead (old new : Disk) (before now : ℕ) : Type 0 where
  pub same : IsTrue old.honest → SyncedMore old.now new.now
  pub moments : IsTrue old.honest → LeavesOnly old new (MayLeave old.now)
  pub time : GoesOn old new
  pub same_size : size new ≡ size old
  pub failures : before ≤ now

-- what `publish` leaves, done or refused: a stop leaves the old root or the new one, and all sectors but the gate and the spare slot read as before
pub record IsPublishing (root : List ℕ) (old new : Disk) (before now : ℕ) : Type 0 where
  pub moments : IsTrue old.honest → IsAtRest old.now → LeavesOnly old new (OldOrNew old.now root)
  pub others : IsTrue old.honest → (k : ℕ) → k ≢ 1 → k ≢ spare_by (sector old.now.contents 1)
      → sector new.now.contents k ≡ sector old.now.contents k
  pub time : GoesOn old new
  pub same_size : size new ≡ size old
  pub failures : before ≤ now

-- where a read failed in `publish`: reads give what they gave, and a stop leaves what it could leave before
pub record IsUnpublished {X : Type 0} (old new : Disk) (result : Result X RootFault) : Type 0 where
  pub read : IsTrue old.honest → IsErrOf result Read → new.now ≡ old.now
  pub unwritten : IsTrue old.honest → IsErrOf result Read → LeavesOnly old new (MayLeave old.now)

-- what `create` answers: there was room, and a table with this root is there, in both slots, under a blank gate, all of it synced
pub record IsCreated (root : List ℕ) (old new : Disk) : Type 0 where
  pub room : 128 ≤ size old
  pub ok : IsTrue old.honest → HoldsRoot root new.now.contents
  pub synced : IsTrue old.honest → AllSynced new.now
  pub slots : IsTrue old.honest → HasBothSlots root new.now.contents
  pub gate : IsTrue old.honest → sector new.now.contents 1 ≡ blank_gate

-- what `create` leaves, done or refused: a stop leaves no table, or what it could leave before, or a table with this root, and the pages read as before
pub record IsCreating (root : List ℕ) (old new : Disk) (before now : ℕ) : Type 0 where
  pub moments : IsTrue old.honest → LeavesOnly old new (OldOrNoneOrNew old.now root)
  pub pages : IsTrue old.honest → Keeps (λ k. 4 ≤ k) old.now new.now
  pub time : GoesOn old new
  pub same_size : size new ≡ size old
  pub failures : before ≤ now

-- why `create` is refused: and then, but for a failed write, nothing was written
pub record IsNotCreated (old new : Disk) (before now : ℕ) (why : RootFault) : Type 0 where
  pub fault : RootCreateCause old before now why
  pub refused : IsTrue old.honest → why ≢ Write → IsUnwritten old new
