-- The steps of a migration.
use Rattle.std.specs.Prelude.{◌≡◌, ℕ, IsTrue}
use Rattle.sector_disk.specs.Disk.{Image, Disk, LeavesOnly, MayLeave}
use Rattle.game_file.specs.State.{GoesFrom}

-- a stop leaves what reads give, and nothing else
abbrev pub IsAllSynced : Disk → Type 0
IsAllSynced disk = (image : Image) → MayLeave disk.now image → image ≡ disk.now.contents

-- the disk was synced and then read: it reads as at first, a stop since then leaves what it could leave at first, and a stop now what it reads
pub record IsReadSince (first : Disk) (count : ℕ) (disk : Disk) (now : ℕ) : Type 0 where
  pub from : GoesFrom first count disk now
  pub contents : IsTrue first.honest → disk.now.contents ≡ first.now.contents
  pub synced : IsTrue first.honest → IsAllSynced disk
  pub leaves : IsTrue first.honest → LeavesOnly first disk (MayLeave first.now)
