-- What a write of one page and a call that makes room leave of a disk.
use Rattle.std.specs.Prelude.{◌≤◌, ℕ, IsTrue}
use Rattle.sector_disk.specs.Disk.{Disk, size, AgreesBelow, AllSynced, GoesOn, IsLonger, LeavesOnly}

-- it was made longer, or left as long as it was: what it showed it shows, and a stop meanwhile leaves what was synced
pub record IsMadeLonger (old new : Disk) : Type 0 where
  pub longer : IsTrue old.honest → IsLonger old.now new.now
  pub moments : IsTrue old.honest → LeavesOnly old new (AgreesBelow old.now)
  pub time : GoesOn old new
  pub no_shorter : size old ≤ size new

-- it has this many sectors, and all is synced
pub record HasSyncedSectors (sectors : ℕ) (old new : Disk) : Type 0 where
  pub room : sectors ≤ size new
  pub synced : IsTrue old.honest → AllSynced new.now
