-- What is shown where nothing waits.
use Rattle.std.proofs.Common.{◌≡◌, ◌≢◌, inl, inr, ℕ, ◌+◌, ◌*◌, ◌/◌, ◌%◌, ◌<◌, ◌≤◌, Bool, true, false, List, length, Some, None, refl, sym, ap, ◌∙◌, arith}
use Rattle.std.specs.Prelude.{Option, replicate, if◌then◌else◌}
use Rattle.std.proofs.lemmas.Bool.{cases_lt}
use Rattle.file_disk.specs.declared.waiting_page.WaitingPage.{WaitingPage}
use Rattle.file_disk.specs.Bytes.{bytes_at, sector_of, IsResized, KeepsUpTo, LeavesOthers}
use Rattle.file_disk.specs.WaitingSectors.{page_at, has_sector, place_of, slot_in, slot_of, given, shown_of}
use Rattle.file_disk.specs.lemmas.WaitingSectors.{AreInside, IsInFile}
use Rattle.file_disk.proofs.Slots.{place_is, sector_of_page}
use Rattle.file_disk.proofs.SectorPlaces.{part_of}

-- where each sector that waits is in the file too, the file's is shown
pub all_in_file : (pages : List WaitingPage) (count : ℕ) (bytes content : List ℕ)
    → ((p s : ℕ) → p < count → s < 8 → IsInFile pages bytes content p s) → (k : ℕ) → shown_of pages count bytes content k ≡ sector_of content k
all_in_file pages count bytes content all k = at (place_of pages count (k / 8)) (λ p is. place_is pages count (k / 8) p is)
  where
    by_has : (p : ℕ) (b : Bool) → (b ≡ true → sector_of content k ≡ sector_of bytes (8 * p + k % 8))
        → given bytes (sector_of content k) (if b then Some (8 * p + k % 8) else None) ≡ sector_of content k
    by_has p true so = sym (so refl)
    by_has p false so = refl

    at : (o : Option ℕ) → ((p : ℕ) → o ≡ Some p → (p < count) × ((page_at pages p).number ≡ k / 8))
        → given bytes (sector_of content k) (slot_in pages (k % 8) o) ≡ sector_of content k
    at None found = refl
    at (Some p) found =
        let its : (p < count) × ((page_at pages p).number ≡ k / 8) = found p refl in
        by_has p (has_sector (page_at pages p) (k % 8))
        (λ has. ap (sector_of content) (omega (arith, its.1)) ∙ all p (k % 8) its.0 (omega arith) has)

-- where no sector from a place on waits, the file's is shown
pub none_waits : (pages : List WaitingPage) (count : ℕ) (bytes content : List ℕ) (sectors : ℕ) → AreInside pages count (512 * sectors)
    → (k : ℕ) → sectors ≤ k → shown_of pages count bytes content k ≡ sector_of content k
none_waits pages count bytes content sectors inside k le = at (place_of pages count (k / 8)) (λ p is. place_is pages count (k / 8) p is)
  where
    by_has : (p : ℕ) (b : Bool) → (b ≡ true → ⊥) → given bytes (sector_of content k) (if b then Some (8 * p + k % 8) else None) ≡ sector_of content k
    by_has p true so = absurd (so refl)
    by_has p false so = refl

    at : (o : Option ℕ) → ((p : ℕ) → o ≡ Some p → (p < count) × ((page_at pages p).number ≡ k / 8))
        → given bytes (sector_of content k) (slot_in pages (k % 8) o) ≡ sector_of content k
    at None found = refl
    at (Some p) found =
        let its : (p < count) × ((page_at pages p).number ≡ k / 8) = found p refl in
        by_has p (has_sector (page_at pages p) (k % 8)) (λ has. absurd (omega (arith, its.1, inside p (k % 8) its.0 (omega arith) has)))

-- where nothing waits the file's is shown
pub nothing_waits : (pages : List WaitingPage) (count : ℕ) (bytes content : List ℕ) → count ≡ 0 → (k : ℕ)
    → shown_of pages count bytes content k ≡ sector_of content k
nothing_waits pages count bytes content is k = ap (λ (n : ℕ). shown_of pages n bytes content k) is

-- another content that has this sector as it was shows it as it was
pub shows_as : (pages : List WaitingPage) (count : ℕ) (bytes old new : List ℕ) (k : ℕ) → sector_of new k ≡ sector_of old k
    → shown_of pages count bytes new k ≡ shown_of pages count bytes old k
shows_as pages count bytes old new k same = ap (λ (b : List ℕ). given bytes b (slot_of pages count k)) same

-- a sector of a page in memory
pub page_gives : (content bytes : List ℕ) (at : ℕ) → bytes ≡ bytes_at content (4096 * (at / 8)) 4096 → sector_of bytes (at % 8) ≡ sector_of content at
page_gives content bytes at is =
    ap (λ (b : List ℕ). sector_of b (at % 8)) is ∙ part_of content (4096 * (at / 8)) 4096 (512 * (at % 8)) 512 (omega arith)
    ∙ ap (λ (n : ℕ). bytes_at content n 512) (omega arith)

-- a sector of a page that has no place, and of one that has one
pub shown_apart : (pages : List WaitingPage) (count : ℕ) (bytes content : List ℕ) (page k : ℕ) → k < 8 → place_of pages count page ≡ None
    → shown_of pages count bytes content (8 * page + k) ≡ sector_of content (8 * page + k)
shown_apart pages count bytes content page k lt none =
    let at : ℕ = 8 * page + k in
    let is = sector_of_page page k at lt refl in
    ap (λ (o : Option ℕ). given bytes (sector_of content at) (slot_in pages (at % 8) o)) (ap (place_of pages count) is.0 ∙ none)

pub shown_over : (pages : List WaitingPage) (count : ℕ) (bytes content : List ℕ) (page k place : ℕ) → k < 8 → place_of pages count page ≡ Some place
    → shown_of pages count bytes content (8 * page + k) ≡ given bytes (sector_of content (8 * page + k)) (slot_in pages k (Some place))
shown_over pages count bytes content page k place lt found =
    let at : ℕ = 8 * page + k in
    let is = sector_of_page page k at lt refl in
    ap (λ (o : Option ℕ). given bytes (sector_of content at) (slot_in pages (at % 8) o)) (ap (place_of pages count) is.0 ∙ found)
    ∙ ap (λ (s : ℕ). given bytes (sector_of content at) (slot_in pages s (Some place))) is.1

-- one that waits, whatever the file has
pub given_waits : (pages : List WaitingPage) (bytes one other : List ℕ) (k place : ℕ) → has_sector (page_at pages place) k ≡ true
    → given bytes one (slot_in pages k (Some place)) ≡ given bytes other (slot_in pages k (Some place))
given_waits pages bytes one other k place has =
    ap (λ (b : Bool). given bytes one (if b then Some (8 * place + k) else None)) has
    ∙ sym (ap (λ (b : Bool). given bytes other (if b then Some (8 * place + k) else None)) has)

-- a sector of a page that was read at once
pub part_read : (content bytes : List ℕ) (page k : ℕ) → k < 8 → bytes ≡ bytes_at content (4096 * page) 4096 → sector_of bytes k ≡ sector_of content (8 * page + k)
part_read content bytes page k lt is =
    ap (λ (b : List ℕ). sector_of b k) is ∙ part_of content (4096 * page) 4096 (512 * k) 512 (omega arith)
    ∙ ap (λ (n : ℕ). bytes_at content n 512) (omega arith)

-- the other parts of a page that is written over at one part
pub other_part : (old new : List ℕ) (part s : ℕ) → LeavesOthers (512 * part) 512 old new → s ≢ part → sector_of new s ≡ sector_of old s
other_part old new part s leaves ne = elim (cases_lt s part) [
  | inl before ↦ leaves.before (512 * s) 512 (omega arith)
  | inr behind ↦ leaves.behind (512 * s) 512 (omega (arith, behind, ne))
]

-- a file that is made longer from its last whole sector on
pub longer_zeros : (old mid new : List ℕ) (from to k : ℕ) → IsResized (512 * from) old mid → IsResized (512 * to) mid new → from ≤ k → k < to
    → sector_of new k ≡ replicate 512 0
longer_zeros old mid new from to k cut long le lt = long.zeros (512 * k) 512 (omega (arith, cut.long)) (omega arith)

pub longer_keeps : (old mid new : List ℕ) (from to k : ℕ) → KeepsUpTo (512 * from) old mid → KeepsUpTo (512 * to) mid new
    → 512 * from ≤ length old → from ≤ to → k < from → sector_of new k ≡ sector_of old k
longer_keeps old mid new from to k first second within le lt =
    second.kept (512 * k) 512 (omega (arith, first.no_shorter)) (omega arith) ∙ first.kept (512 * k) 512 (omega arith) (omega arith)

-- one that is cut to its whole sectors
pub cut_keeps : (old new : List ℕ) (from k : ℕ) → KeepsUpTo (512 * from) old new → 512 * from ≤ length old → k < from → sector_of new k ≡ sector_of old k
cut_keeps old new from k keeps within lt = keeps.kept (512 * k) 512 (omega arith) (omega arith)
