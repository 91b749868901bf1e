-- Which of the images that a stop may leave a number picks.
use Rattle.std.specs.Prelude.{◌≡◌, ◌≢◌, ℕ, zero, suc, ◌+◌, ◌/◌, ◌%◌, ◌^◌, ◌<◌, ◌≤◌, Bool, if◌then◌else◌, ◌==◌, List, ◌++◌, length}
use Rattle.std.specs.Prelude.{take, drop, replicate, slice_index_or}
use Rattle.sector_disk.specs.Disk.{Image, sector, Disk, size, AllSynced}

-- all was synced at this moment, and at no later one
pub record IsLastSync (disk : Disk) (moment : ℕ) : Type 0 where
  pub past : moment ≤ disk.clock
  pub all : AllSynced (disk.was moment)
  pub later : (k : ℕ) → moment < k → k ≤ disk.clock → ¬ AllSynced (disk.was k)

-- how many of the sectors below this number are not synced
abbrev pub unsynced_below : (ℕ → Bool) → ℕ → ℕ
unsynced_below synced zero = 0
unsynced_below synced (suc k) = unsynced_below synced k + (if synced k then 0 else 1)

-- a digit to the base 4, the lowest has the number 0, and again from the start after 32 of them
unfoldable pub digit : ℕ → ℕ → ℕ
digit pick number = pick / 4 ^ (number % 32) % 4

-- what a stop makes of a sector by a digit: as at the last sync, as written, its first half written, or filled
unfoldable pub torn : ℕ → ℕ → List ℕ → List ℕ → List ℕ
torn digit fill before written =
    if digit == 0 then before
    else if digit == 1 then written
    else if digit == 2 then take 256 written ++ drop 256 before
    else replicate 512 fill

-- a sector as at the last sync: zeros where it was not there yet
abbrev pub was_at : Image → ℕ → List ℕ
was_at before k = slice_index_or before k (replicate 512 0)

-- a sector after the stop that a number picks: the sectors that are not synced take its digits, by their place
abbrev pub left_at : ℕ → (ℕ → Bool) → Image → Image → ℕ → List ℕ
left_at pick synced before written k =
    if synced k then sector written k
    else torn (digit pick (unsynced_below synced k)) ((k + pick / 4) % 256) (was_at before k) (sector written k)

-- where the image ends after the stop that a number picks: of the sectors that are new since the last sync the first with digit 0 is
-- not there, as at that sync, and none after it is
pub record IsEndOf (pick : ℕ) (synced : ℕ → Bool) (lasting written end : ℕ) : Type 0 where
  pub no_shorter : lasting ≤ end
  pub no_longer : end ≤ written
  pub there : (k : ℕ) → lasting ≤ k → k < end → digit pick (unsynced_below synced k) ≢ 0
  pub gone : end < written → digit pick (unsynced_below synced end) ≡ 0

-- the image after the stop that a number picks
pub record IsPickedBy (pick : ℕ) (disk : Disk) (left : Image) : Type 0 where
  pub sync : ℕ
  pub last_sync : IsLastSync disk sync
  pub ends : IsEndOf pick disk.now.synced disk.now.lasting (size disk) (length left)
  pub each : (k : ℕ) → k < length left
      → sector left k ≡ left_at pick disk.now.synced (disk.was sync).contents disk.now.contents k
