-- Pages of which all sectors wait.
use Rattle.std.specs.Prelude.{◌≡◌, ℕ, ◌+◌, ◌*◌, ◌<◌, ◌≤◌, true, List, Some, length}
use Rattle.sector_disk.specs.Pages.{IsOutside}
use Rattle.file_disk.specs.declared.waiting_page.WaitingPage.{WaitingPage}
use Rattle.file_disk.specs.declared.waiting_writes.WaitingWrites.{WaitingWrites}
use Rattle.file_disk.specs.Bytes.{bytes_at, sector_of}
use Rattle.file_disk.specs.Shown.{shown}
use Rattle.file_disk.specs.WaitingSectors.{page_at, has_sector, place_of, slot_of}

-- all sectors of the page wait, and these are their bytes
pub record WaitsWhole (pages : List WaitingPage) (count : ℕ) (bytes : List ℕ) (page : ℕ) (its : List ℕ) : Type 0 where
  pub place : ℕ
  pub found : place_of pages count page ≡ Some place
  pub whole : (s : ℕ) → s < 8 → has_sector (page_at pages place) s ≡ true
  pub long : length its ≡ 4096
  pub stand : its ≡ bytes_at bytes (4096 * place) 4096

-- these are the bytes that are shown of a page that lies within so many sectors
pub record ShowsPage (waiting : WaitingWrites) (content : List ℕ) (sectors page : ℕ) (its : List ℕ) : Type 0 where
  pub inside : 8 * page + 8 ≤ sectors
  pub long : length its ≡ 4096
  pub each : (k : ℕ) → k < 8 → shown waiting content (8 * page + k) ≡ sector_of its k

-- all sectors of the page wait at this place, and it fits
pub record IsEditPlace (Fits : List ℕ → Type 0) (page place : ℕ) (waiting : WaitingWrites) : Type 0 where
  pub there : place < waiting.count
  pub found : place_of waiting.pages.items waiting.count page ≡ Some place
  pub whole : (s : ℕ) → s < 8 → has_sector (page_at waiting.pages.items place) s ≡ true
  pub fits : Fits (bytes_at waiting.bytes.items (4096 * place) 4096)

-- all else is shown as it was, and waits where it did
pub record KeepsOthers (page : ℕ) (old new : WaitingWrites) : Type 0 where
  pub shown : (content : List ℕ) (k : ℕ) → IsOutside page k → shown new content k ≡ shown old content k
  pub slots : (k : ℕ) → IsOutside page k → slot_of new.pages.items new.count k ≡ slot_of old.pages.items old.count k

-- a page was edited where all its sectors wait, and nothing else changed
pub record IsEditedWaiting (Edits : List ℕ → List ℕ → Type 0) (page : ℕ) (old new : WaitingWrites) : Type 0 where
  pub was : List ℕ
  pub is : List ℕ
  pub had : WaitsWhole old.pages.items old.count old.bytes.items page was
  pub has : WaitsWhole new.pages.items new.count new.bytes.items page is
  pub edits : Edits was is
  pub others : KeepsOthers page old new
