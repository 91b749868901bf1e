-- Eight sectors side by side, as one page.
use Rattle.std.specs.Prelude.{◌≡◌, ◌⊎◌, ℕ, ◌+◌, ◌*◌, ◌<◌, ◌≤◌, List, length, take, drop, IsTrue}
use Rattle.sector_disk.specs.Disk.{Image, Disk, sector, size, GoesOn, LeavesOnly, MayLeave}
use Rattle.sector_disk.specs.lemmas.Disk.{KeepsThroughout}

-- one of the eight parts of the bytes of a page
abbrev pub eighth : ℕ → List ℕ → List ℕ
eighth k bytes = take 512 (drop (512 * k) bytes)

-- these are the bytes of the page, each part as its sector has it
pub record HasSectors (image : Image) (number : ℕ) (bytes : List ℕ) : Type 0 where
  pub long : length bytes ≡ 4096
  pub each : (k : ℕ) → k < 8 → sector image (8 * number + k) ≡ eighth k bytes

-- a page was read: the disk shows what it showed, no write has failed, and a stop meanwhile leaves what it could leave before
pub record IsDiskRead (old new : Disk) : Type 0 where
  pub unchanged : IsTrue old.honest → new.now ≡ old.now
  pub moments : IsTrue old.honest → LeavesOnly old new (MayLeave old.now)
  pub time : GoesOn old new
  pub same_size : size new ≡ size old
  pub spared : new.failed_writes ≡ old.failed_writes

-- a sector of none but other pages
abbrev pub IsOutside : ℕ → ℕ → Type 0
IsOutside number k = (k < 8 * number) ⊎ (8 * number + 8 ≤ k)

-- a page was written, to its end or not: each sector outside of it is kept, at each moment
pub record IsPagePut (number : ℕ) (old new : Disk) : Type 0 where
  pub kept : IsTrue old.honest → KeepsThroughout (IsOutside number) old new
  pub time : GoesOn old new
  pub same_size : size new ≡ size old

-- a page was edited: of the bytes that its sectors had the edit may make those that they have
pub record IsPageEdited (Edits : List ℕ → List ℕ → Type 0) (number : ℕ) (old new : Image) : Type 0 where
  pub was : List ℕ
  pub is : List ℕ
  pub had : HasSectors old number was
  pub has : HasSectors new number is
  pub edits : Edits was is
