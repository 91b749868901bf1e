-- What is stated of a table's file between commands.
use Rattle.std.specs.Prelude.{◌≡◌, ℕ, ◌+◌, ◌/◌, ◌%◌, ◌^◌, ◌≤◌, min, Bool, Option}
use Rattle.sector_disk.specs.Disk.{Disk, size, GoesOn}
use Rattle.page_store.specs.Store.{ClosesByWrites}
use Rattle.retrograde.specs.declared.records.Counts.{Counts}
use Rattle.game_file.specs.Kept.{Kept}
use Rattle.page_store.specs.declared.limits.TheConstants.{MAX_PAGES}

-- its disk, how often that has failed, how many pages there are, whether a write or a sync has failed since it was opened, how many
-- commits it counts since it was made, and of the last one, if a game is loaded, the counts that the file tells, and the text, the
-- packing, the goal and the table
pub record State : Type 0 where
  pub disk : Disk
  pub failures : ℕ
  pub capacity : ℕ
  pub closed : Bool
  pub commits : ℕ
  pub counts : Option Counts
  pub kept : Option Kept

-- the next count: 0 follows the greatest number of 64 bits
abbrev pub count_behind : ℕ → ℕ
count_behind count = (count + 1) % 2 ^ 64

-- a later state of the same file: a write, a sync or an extension that failed closes it, and nothing else does
pub record GoesAhead (old new : State) : Type 0 where
  pub goes_on : GoesOn old.disk new.disk
  pub same_size : size new.disk ≡ size old.disk
  pub failures : old.failures ≤ new.failures
  pub capacity : new.capacity ≡ old.capacity
  pub closes : ClosesByWrites old.closed old.disk.failed_writes new.closed new.disk.failed_writes

-- as many pages as a disk has room for, 1,048,576 at most
abbrev pub pages_of : Disk → ℕ
pages_of disk = min (size disk / 8) MAX_PAGES

-- a later state of the same disk, with as many sectors
pub record GoesFrom (disk : Disk) (count : ℕ) (later : Disk) (now : ℕ) : Type 0 where
  pub goes_on : GoesOn disk later
  pub failures : count ≤ now
  pub same_size : size later ≡ size disk
