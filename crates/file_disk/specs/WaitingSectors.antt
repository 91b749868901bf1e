-- Sectors that were written and wait in memory: pages by their places, the bytes of all places one after another.
use Rattle.std.specs.Prelude.{◌≡◌, ◌⊎◌, ℕ, zero, suc, ◌+◌, ◌*◌, ◌/◌, ◌%◌, ◌<◌, ◌==◌, Bool, false, if◌then◌else◌, List, [], length}
use Rattle.std.specs.Prelude.{slice_index_or, Option, None, Some}
use Rattle.file_disk.specs.declared.waiting_page.WaitingPage.{WaitingPage}
use Rattle.file_disk.specs.Bytes.{sector_of}

-- a place without a page
abbrev pub no_page : WaitingPage
no_page = record { number = 0; has = [] }

-- the page at a place
abbrev pub page_at : List WaitingPage → ℕ → WaitingPage
page_at pages place = slice_index_or pages place no_page

-- whether this of its eight sectors waits
abbrev pub has_sector : WaitingPage → ℕ → Bool
has_sector page sector = slice_index_or page.has sector false

-- the place of a page among this many, if it has one
abbrev pub place_of : List WaitingPage → ℕ → ℕ → Option ℕ
place_of pages zero page = None
place_of pages (suc count) page = if (page_at pages count).number == page then Some count else place_of pages count page

-- where this of the eight sectors of a place stands among the sectors of all places, if it waits
abbrev pub slot_in : List WaitingPage → ℕ → Option ℕ → Option ℕ
slot_in pages sector None = None
slot_in pages sector (Some place) = if has_sector (page_at pages place) sector then Some (8 * place + sector) else None

-- where a sector of the file waits, among the slots of all places; none where it does not wait
abbrev pub slot_of : List WaitingPage → ℕ → ℕ → Option ℕ
slot_of pages count at = slot_in pages (at % 8) (place_of pages count (at / 8))

-- the bytes at the slot, or else these
abbrev pub given : List ℕ → List ℕ → Option ℕ → List ℕ
given bytes otherwise None = otherwise
given bytes otherwise (Some slot) = sector_of bytes slot

-- what is shown of a sector: what waits for it, and else what the file has
abbrev pub shown_of : List WaitingPage → ℕ → List ℕ → List ℕ → ℕ → List ℕ
shown_of pages count bytes content at = given bytes (sector_of content at) (slot_of pages count at)

-- there is a place for this sector: its page has one, or one is free
abbrev pub HasWaitingPlace : List WaitingPage → ℕ → ℕ → Type 0
HasWaitingPlace pages count at = ((p : ℕ) × (place_of pages count (at / 8) ≡ Some p)) ⊎ (count < length pages)
