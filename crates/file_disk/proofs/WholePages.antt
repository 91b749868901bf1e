-- Pages of which all sectors wait.
use Rattle.std.proofs.Common.{◌≡◌, ◌≢◌, ◌⊎◌, inl, inr, ℕ, zero, suc, ◌+◌, ◌*◌, ◌/◌, ◌%◌, ◌<◌, ◌≤◌, true, false, List, [], ◌∷◌, length, Some, None, refl, sym, ap, ◌∙◌, arith}
use Rattle.std.specs.Prelude.{Option, slice_set, slice_index_or}
use Rattle.std.proofs.lemmas.Bool.{cases_eq, cases_lt}
use Rattle.sector_disk.specs.Pages.{IsOutside}
use Rattle.file_disk.specs.declared.waiting_page.WaitingPage.{WaitingPage}
use Rattle.file_disk.specs.Bytes.{bytes_at, sector_of, LeavesOthers}
use Rattle.file_disk.specs.WaitingSectors.{page_at, has_sector, place_of, slot_in, slot_of, given, shown_of}
use Rattle.file_disk.specs.declared.waiting_writes.WaitingWrites.{WaitingWrites}
use Rattle.file_disk.specs.lemmas.WaitingSectors.{AreAllInFile, AreDistinct, AreInside}
use Rattle.file_disk.specs.lemmas.WholePages.{ShowsPage, WaitsWhole}
use Rattle.file_disk.proofs.PagePlaces.{set_here, set_else}
use Rattle.file_disk.proofs.SectorPlaces.{part_of}
use Rattle.file_disk.proofs.Shown.{shown_apart}
use Rattle.file_disk.proofs.Slots.{place_found, place_is, place_same, shown_same, slots_same, sector_of_page}

-- where a sector of a page stands that waits whole
pub whole_slot : (pages : List WaitingPage) (count : ℕ) (bytes : List ℕ) (page : ℕ) (its : List ℕ) (waits : WaitsWhole pages count bytes page its) (k : ℕ) → k < 8
    → slot_of pages count (8 * page + k) ≡ Some (8 * waits.place + k)
whole_slot pages count bytes page its waits k lt =
    let is = sector_of_page page k (8 * page + k) lt refl in
    ap (λ (o : Option ℕ). slot_in pages ((8 * page + k) % 8) o) (ap (place_of pages count) is.0 ∙ waits.found)
    ∙ ap (λ (s : ℕ). slot_in pages s (Some waits.place)) is.1
    ∙ rw (waits.whole k lt) refl

-- and what is shown of it
pub whole_shown : (pages : List WaitingPage) (count : ℕ) (bytes : List ℕ) (page : ℕ) (its : List ℕ) → WaitsWhole pages count bytes page its → (content : List ℕ) (k : ℕ) → k < 8
    → shown_of pages count bytes content (8 * page + k) ≡ sector_of its k
whole_shown pages count bytes page its waits content k lt =
    ap (λ (o : Option ℕ). given bytes (sector_of content (8 * page + k)) o) (whole_slot pages count bytes page its waits k lt)
    ∙ ap (λ (n : ℕ). bytes_at bytes n 512) (omega arith)
    ∙ sym (part_of bytes (4096 * waits.place) 4096 (512 * k) 512 (omega (arith, lt)))
    ∙ ap (λ (b : List ℕ). sector_of b k) (sym waits.stand)

-- a page that waits whole lies within
pub whole_inside : (pages : List WaitingPage) (count : ℕ) (bytes : List ℕ) (page sectors : ℕ) (its : List ℕ) → WaitsWhole pages count bytes page its
    → AreInside pages count (512 * sectors) → 8 * page + 8 ≤ sectors
whole_inside pages count bytes page sectors its waits inside =
    let is = place_is pages count page waits.place waits.found in
    let last : 512 * (8 * (page_at pages waits.place).number + 7 + 1) ≤ 512 * sectors =
    inside waits.place 7 is.0 (omega arith) (waits.whole 7 (omega arith)) in
    omega (arith, last, is.1)

-- it is shown so
pub shows_waiting : (waiting : WaitingWrites) (content : List ℕ) (sectors page : ℕ) (its : List ℕ)
    → WaitsWhole waiting.pages.items waiting.count waiting.bytes.items page its → AreInside waiting.pages.items waiting.count (512 * sectors)
    → ShowsPage waiting content sectors page its
shows_waiting waiting content sectors page its waits inside = record {
  inside = whole_inside waiting.pages.items waiting.count waiting.bytes.items page sectors its waits inside;
  long = waits.long;
  each = λ k lt. whole_shown waiting.pages.items waiting.count waiting.bytes.items page its waits content k lt;
}

-- so is a page that is in the file, where none of its sectors waits
pub shows_written : (waiting written : WaitingWrites) (content : List ℕ) (sectors page : ℕ) (its : List ℕ)
    → WaitsWhole written.pages.items written.count written.bytes.items page its → place_of waiting.pages.items waiting.count page ≡ None
    → AreInside written.pages.items written.count (512 * sectors) → AreAllInFile written.pages.items written.count written.bytes.items content
    → ShowsPage waiting content sectors page its
shows_written waiting written content sectors page its waits none inside in_file = record {
  inside = whole_inside written.pages.items written.count written.bytes.items page sectors its waits inside;
  long = waits.long;
  each = λ k lt.
      shown_apart waiting.pages.items waiting.count waiting.bytes.items content page k lt none
      ∙ ap (λ (n : ℕ). sector_of content (8 * n + k)) (sym is.1)
      ∙ in_file waits.place k is.0 lt (waits.whole k lt)
      ∙ ap (λ (n : ℕ). bytes_at written.bytes.items n 512) (omega arith)
      ∙ sym (part_of written.bytes.items (4096 * waits.place) 4096 (512 * k) 512 (omega (arith, lt)))
      ∙ ap (λ (b : List ℕ). sector_of b k) (sym waits.stand);
}
  where
    is : (waits.place < written.count) × ((page_at written.pages.items waits.place).number ≡ page)
    is = place_is written.pages.items written.count page waits.place waits.found

-- the page of one place changes, but for its number
module _ (pages later : List WaitingPage) (count place page : ℕ) (here : (page_at pages place).number ≡ page)
    (number : (page_at later place).number ≡ (page_at pages place).number)
    (else_same : (q : ℕ) → q ≢ place → page_at later q ≡ page_at pages q) where
  pub numbers_same : (p : ℕ) → (page_at later p).number ≡ (page_at pages p).number
  numbers_same p = elim (cases_eq p place) [
    | inl is ↦ ap (λ (n : ℕ). (page_at later n).number) is ∙ number ∙ ap (λ (n : ℕ). (page_at pages n).number) (sym is)
    | inr ne ↦ ap (λ (w : WaitingPage). w.number) (else_same p ne)
  ]

  pub places_same : (x : ℕ) → place_of later count x ≡ place_of pages count x
  places_same x = place_same pages later count x (λ p lt. numbers_same p)

  apart : (k : ℕ) → IsOutside page k → (q : ℕ) → place_of pages count (k / 8) ≡ Some q → q ≢ place
  apart k outside q found is =
      let its : page ≡ k / 8 = sym here ∙ ap (λ (n : ℕ). (page_at pages n).number) (sym is) ∙ (place_is pages count (k / 8) q found).1 in
      by outside its
    where
      by : IsOutside page k → page ≡ k / 8 → ⊥
      by (inl low) its = omega (arith, low, its)
      by (inr high) its = omega (arith, high, its)

  -- what lies outside is shown as it was
  pub whole_others : (bytes written content : List ℕ) → LeavesOthers (4096 * place) 4096 bytes written → (k : ℕ) → IsOutside page k
      → shown_of later count written content k ≡ shown_of pages count bytes content k
  whole_others bytes written content leaves k outside =
      shown_same pages later count count bytes written content k (places_same (k / 8))
      (λ q found. (ap (λ (w : WaitingPage). has_sector w (k % 8)) (else_same q (apart k outside q found)), stays q (apart k outside q found) (cases_lt q place)))
    where
      stays : (q : ℕ) → q ≢ place → (q < place) ⊎ (place ≤ q) → sector_of written (8 * q + k % 8) ≡ sector_of bytes (8 * q + k % 8)
      stays q ne (inl before) = leaves.before (512 * (8 * q + k % 8)) 512 (omega (arith, before))
      stays q ne (inr behind) = leaves.behind (512 * (8 * q + k % 8)) 512 (omega (arith, behind, ne))

  -- and waits where it did
  pub whole_slots : (k : ℕ) → IsOutside page k → slot_of later count k ≡ slot_of pages count k
  whole_slots k outside =
      slots_same pages later count count k (places_same (k / 8))
      (λ q found. ap (λ (w : WaitingPage). has_sector w (k % 8)) (else_same q (apart k outside q found)))

-- a page that has all sectors
pub has_all : (s : ℕ) → s < 8 → slice_index_or (true ∷ true ∷ true ∷ true ∷ true ∷ true ∷ true ∷ true ∷ []) s false ≡ true
has_all zero lt = refl
has_all (suc zero) lt = refl
has_all (suc (suc zero)) lt = refl
has_all (suc (suc (suc zero))) lt = refl
has_all (suc (suc (suc (suc zero)))) lt = refl
has_all (suc (suc (suc (suc (suc zero))))) lt = refl
has_all (suc (suc (suc (suc (suc (suc zero)))))) lt = refl
has_all (suc (suc (suc (suc (suc (suc (suc zero))))))) lt = refl
has_all (suc (suc (suc (suc (suc (suc (suc (suc s)))))))) lt = absurd (omega (arith, lt))

-- a page is put whole into its place
module _ (pages : List WaitingPage) (count place : ℕ) (page : WaitingPage) (lt : place < count) (le : count ≤ length pages)
    (its : (page_at pages place).number ≡ page.number) where
  here : page_at (slice_set pages place page) place ≡ page
  here = set_here pages place page (omega (arith, lt, le))

  pub filled_number : (page_at (slice_set pages place page) place).number ≡ (page_at pages place).number
  filled_number = ap (λ (w : WaitingPage). w.number) here ∙ sym its

  pub filled_else : (q : ℕ) → q ≢ place → page_at (slice_set pages place page) q ≡ page_at pages q
  filled_else q ne = set_else pages place q page ne

  pub filled_waits : (bytes written from : List ℕ) → AreDistinct pages count → ((s : ℕ) → s < 8 → has_sector page s ≡ true)
      → length from ≡ 4096 → bytes_at written (4096 * place) 4096 ≡ from → WaitsWhole (slice_set pages place page) count written page.number from
  filled_waits bytes written from distinct all long is = record {
    long = long;
    place = place;
    found = places_same pages (slice_set pages place page) count place page.number its filled_number filled_else page.number
        ∙ place_found pages count place page.number distinct lt its;
    whole = λ s below. ap (λ (w : WaitingPage). has_sector w s) here ∙ all s below;
    stand = sym is;
  }

  pub filled_inside : (end : ℕ) → 4096 * page.number + 4096 ≤ end → AreInside pages count end → AreInside (slice_set pages place page) count end
  filled_inside end within inside = λ p s p_lt s_lt has. elim (cases_eq p place) [
    | inl is ↦
        let number : (page_at (slice_set pages place page) p).number ≡ page.number =
        ap (λ (n : ℕ). (page_at (slice_set pages place page) n).number) is ∙ ap (λ (w : WaitingPage). w.number) here in
        omega (arith, within, number, s_lt)
    | inr ne ↦
        let same : page_at (slice_set pages place page) p ≡ page_at pages p = filled_else p ne in
        let number : (page_at (slice_set pages place page) p).number ≡ (page_at pages p).number = ap (λ (w : WaitingPage). w.number) same in
        let before : 512 * (8 * (page_at pages p).number + s + 1) ≤ end =
        inside p s p_lt s_lt (sym (ap (λ (w : WaitingPage). has_sector w s) same) ∙ has) in
        omega (arith, before, number)
  ]
