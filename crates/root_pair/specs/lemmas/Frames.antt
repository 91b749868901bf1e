-- What the steps within the calls leave of a disk.
use Rattle.std.specs.Prelude.{◌≡◌, ℕ, IsTrue}
use Rattle.sector_disk.specs.Disk.{Disk, GoesOn, Steps, size}
use Rattle.sector_disk.specs.lemmas.Disk.{KeepsThroughout}

-- what one read leaves: the disk shows what it showed, and no write counts as a failed one
pub record IsLookedAt (old new : Disk) : Type 0 where
  pub unchanged : IsTrue old.honest → new.now ≡ old.now
  pub time : Steps old new
  pub spared : new.failed_writes ≡ old.failed_writes

-- what writes and a sync leave that come to none of these sectors
pub record IsWrittenElsewhere (at : ℕ → Type 0) (old new : Disk) : Type 0 where
  pub kept : IsTrue old.honest → KeepsThroughout at old new
  pub time : GoesOn old new
  pub same_size : size new ≡ size old
