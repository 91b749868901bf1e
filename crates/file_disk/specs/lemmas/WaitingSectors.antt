-- What holds of the places where sectors wait, and what a write of them to the file leaves.
use Rattle.std.specs.Prelude.{◌≡◌, ◌≢◌, ℕ, ◌+◌, ◌*◌, ◌%◌, ◌^◌, ◌<◌, ◌≤◌, Bool, true, List, length, slice_index, Option, Some}
use Rattle.file_disk.specs.declared.waiting_page.WaitingPage.{WaitingPage}
use Rattle.file_disk.specs.Bytes.{bytes_at, sector_of}
use Rattle.file_disk.specs.WaitingSectors.{page_at, has_sector, shown_of}

-- no two of this many places have the same page
abbrev pub AreDistinct : List WaitingPage → ℕ → Type 0
AreDistinct pages count = (p q : ℕ) → p < count → q < count → (page_at pages p).number ≡ (page_at pages q).number → p ≡ q

-- for the remainder of the number of each of this many pages something is noted
abbrev pub AreHinted : List WaitingPage → ℕ → List ℕ → Type 0
AreHinted pages count hints = (p : ℕ) → p < count → slice_index hints ((page_at pages p).number % 16384) ≢ 0

-- each of this many pages begins below 2 ^ 64
abbrev pub ArePlaced : List WaitingPage → ℕ → Type 0
ArePlaced pages count = (p : ℕ) → p < count → 4096 * (page_at pages p).number < 2 ^ 64

-- each sector that waits ends within this many bytes
abbrev pub AreInside : List WaitingPage → ℕ → ℕ → Type 0
AreInside pages count end =
    (p s : ℕ) → p < count → s < 8 → has_sector (page_at pages p) s ≡ true → 512 * (8 * (page_at pages p).number + s + 1) ≤ end

-- from a place on this many whole pages stand side by side that lie side by side in the file
pub record IsRun (pages : List WaitingPage) (count place run : ℕ) : Type 0 where
  pub within : place + run ≤ count
  pub next : (k : ℕ) → k < run → (page_at pages (place + k)).number ≡ (page_at pages place).number + k
  pub whole : (k s : ℕ) → k < run → s < 8 → has_sector (page_at pages (place + k)) s ≡ true

-- another content of the file with which the same is shown
pub record ShowsSame (pages : List WaitingPage) (count : ℕ) (bytes old new : List ℕ) : Type 0 where
  pub same_length : length new ≡ length old
  pub shown : (k : ℕ) → shown_of pages count bytes new k ≡ shown_of pages count bytes old k

-- this of the eight sectors of a place is in the file, if it waits
abbrev pub IsInFile : List WaitingPage → List ℕ → List ℕ → ℕ → ℕ → Type 0
IsInFile pages bytes content place s =
    has_sector (page_at pages place) s ≡ true → sector_of content (8 * (page_at pages place).number + s) ≡ sector_of bytes (8 * place + s)

-- what was in the file still is
abbrev pub StaysInFile : List WaitingPage → ℕ → List ℕ → List ℕ → List ℕ → Type 0
StaysInFile pages count bytes old new = (p s : ℕ) → p < count → s < 8 → IsInFile pages bytes old p s → IsInFile pages bytes new p s

-- all that waits at this many places is in the file
abbrev pub AreAllInFile : List WaitingPage → ℕ → List ℕ → List ℕ → Type 0
AreAllInFile pages count bytes content = (p s : ℕ) → p < count → s < 8 → IsInFile pages bytes content p s

-- of the pages from the one number on up to the other all is in the file
abbrev pub AreInFile : List WaitingPage → ℕ → List ℕ → ℕ → ℕ → List ℕ → Type 0
AreInFile pages count bytes from to content =
    (p s : ℕ) → p < count → s < 8 → from ≤ (page_at pages p).number → (page_at pages p).number < to → IsInFile pages bytes content p s

-- what a write of sectors that wait does to the file, done or not
pub record Puts (pages : List WaitingPage) (count : ℕ) (bytes old new : List ℕ) (done : Bool) : Type 0 where
  pub same : ShowsSame pages count bytes old new
  pub stays : done ≡ true → StaysInFile pages count bytes old new

-- a page in memory, if there is one, has the bytes that the file has
abbrev pub IsCopyOf : Option ℕ → List ℕ → List ℕ → Type 0
IsCopyOf number bytes content = (page : ℕ) → number ≡ Some page → bytes ≡ bytes_at content (4096 * page) 4096
