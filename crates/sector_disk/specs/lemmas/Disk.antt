-- What is stated of a disk: what it shows, what a stop leaves, and how a call goes on.
use Rattle.std.specs.Prelude.{ℕ, IsTrue}
use Rattle.sector_disk.specs.Disk.{Agrees, Disk, GoesOn, LeavesOnly, Keeps}

-- from the one moment to the other these sectors are kept, and a stop leaves those of them that were synced
pub record KeepsThroughout (at : ℕ → Type 0) (old new : Disk) : Type 0 where
  pub goes_on : GoesOn old new
  pub keeps : Keeps at old.now new.now
  pub leaves : LeavesOnly old new (Agrees old.now (λ k. at k × IsTrue (old.now.synced k)))
