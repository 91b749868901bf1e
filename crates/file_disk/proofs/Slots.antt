-- Where a sector waits.
use Rattle.std.proofs.Common.{◌≡◌, ◌≢◌, inl, inr, ℕ, zero, suc, ◌+◌, ◌*◌, ◌/◌, ◌%◌, ◌<◌, Bool, true, false, List, length, Some, None, refl, sym, ap, ◌∙◌, get_or}
use Rattle.std.proofs.Common.{arith, eq-eqb, ne_eqb}
use Rattle.std.specs.Prelude.{Option, ◌==◌, if◌then◌else◌}
use Rattle.std.proofs.lemmas.Bool.{cases_eq}
use Rattle.std.proofs.lemmas.List.{get_or_default}
use Rattle.std.proofs.lemmas.Option.{same_Some}
use Rattle.file_disk.specs.declared.waiting_page.WaitingPage.{WaitingPage}
use Rattle.file_disk.specs.Bytes.{sector_of}
use Rattle.file_disk.specs.WaitingSectors.{no_page, page_at, has_sector, place_of, slot_in, slot_of, given, shown_of}
use Rattle.file_disk.specs.lemmas.WaitingSectors.{AreDistinct, AreHinted}

-- a page that has a place is found there
pub place_found : (pages : List WaitingPage) (count p page : ℕ) → AreDistinct pages count → p < count → (page_at pages p).number ≡ page
    → place_of pages count page ≡ Some p
place_found pages zero p page distinct lt is = absurd (omega arith)
place_found pages (suc n) p page distinct lt is = elim (cases_eq p n) [
  | inl same ↦
      let here : ((page_at pages n).number == page) ≡ true = eq-eqb _ _ (ap (λ (q : ℕ). (page_at pages q).number) (sym same) ∙ is) in
      rw here (ap Some (sym same))
  | inr other ↦
      let not_here : ((page_at pages n).number == page) ≡ false =
      ne_eqb _ _ (λ here. other (distinct p n (omega arith) (omega arith) (is ∙ sym here))) in
      rw not_here (place_found pages n p page (λ q r q_lt r_lt. distinct q r (omega arith) (omega arith)) (omega arith) is)
]

-- one that has none is not found
pub place_none : (pages : List WaitingPage) (count page : ℕ) → ((p : ℕ) → p < count → (page_at pages p).number ≢ page)
    → place_of pages count page ≡ None
place_none pages zero page none = refl
place_none pages (suc n) page none =
    let not_here : ((page_at pages n).number == page) ≡ false = ne_eqb _ _ (none n (omega arith)) in
    rw not_here (place_none pages n page (λ p lt. none p (omega arith)))

-- a page of whose remainder nothing is noted has no place
pub not_noted : (pages : List WaitingPage) (count page hint : ℕ) (hints : List ℕ) → AreHinted pages count hints → hint ≡ page % 16384
    → get_or hints hint 0 ≡ 0
    → place_of pages count page ≡ None
not_noted pages count page hint hints noted at none =
    place_none pages count page (λ p lt is. noted p lt (ap (λ (n : ℕ). get_or hints (n % 16384) 0) is ∙ ap (λ (n : ℕ). get_or hints n 0) (sym at) ∙ none))

-- what is found is the place of the page
pub place_is : (pages : List WaitingPage) (count page p : ℕ) → place_of pages count page ≡ Some p
    → (p < count) × ((page_at pages p).number ≡ page)
place_is pages zero page p is = cc
place_is pages (suc n) page p is = elim (cases_eq (page_at pages n).number page) [
  | inl here ↦
      let test : ((page_at pages n).number == page) ≡ true = eq-eqb _ _ here in
      let same : n ≡ p = same_Some _ _ (rw test at is) in
      (omega arith, ap (λ (q : ℕ). (page_at pages q).number) (sym same) ∙ here)
  | inr other ↦
      let test : ((page_at pages n).number == page) ≡ false = ne_eqb _ _ other in
      let found : (p < n) × ((page_at pages p).number ≡ page) = place_is pages n page p (rw test at is) in
      (omega (arith, found.0), found.1)
]

-- if none is found, no place has the page
pub none_is : (pages : List WaitingPage) (count page p : ℕ) → place_of pages count page ≡ None → p < count → (page_at pages p).number ≢ page
none_is pages zero page p is lt = absurd (omega arith)
none_is pages (suc n) page p is lt = elim (cases_eq (page_at pages n).number page) [
  | inl here ↦
      let test : ((page_at pages n).number == page) ≡ true = eq-eqb _ _ here in
      let no : Some n ≡ None = rw test at is in cc
  | inr other ↦
      let test : ((page_at pages n).number == page) ≡ false = ne_eqb _ _ other in
      elim (cases_eq p n) [
        | inl same ↦ λ its. other (ap (λ (q : ℕ). (page_at pages q).number) (sym same) ∙ its)
        | inr ne ↦ none_is pages n page p (rw test at is) (omega arith)
      ]
]

-- places with the same pages are found alike
pub place_same : (pages later : List WaitingPage) (count page : ℕ)
    → ((p : ℕ) → p < count → (page_at later p).number ≡ (page_at pages p).number) → place_of later count page ≡ place_of pages count page
place_same pages later zero page same = refl
place_same pages later (suc n) page same =
    ap (λ (number : ℕ). if number == page then Some n else place_of later n page) (same n (omega arith))
    ∙ ap (λ (o : Option ℕ). if (page_at pages n).number == page then Some n else o) (place_same pages later n page (λ p lt. same p (omega arith)))

-- a sector that waits at a place has its slot there
pub slot_found : (pages : List WaitingPage) (count place at : ℕ) → AreDistinct pages count → place < count
    → (page_at pages place).number ≡ at / 8 → has_sector (page_at pages place) (at % 8) ≡ true → slot_of pages count at ≡ Some (8 * place + at % 8)
slot_found pages count place at distinct lt is has =
    ap (slot_in pages (at % 8)) (place_found pages count place (at / 8) distinct lt is) ∙ rw has refl

-- one of a page that has a place, which does not wait
pub slot_missing : (pages : List WaitingPage) (count place at : ℕ) → place_of pages count (at / 8) ≡ Some place
    → has_sector (page_at pages place) (at % 8) ≡ false → slot_of pages count at ≡ None
slot_missing pages count place at is has = ap (slot_in pages (at % 8)) is ∙ rw has refl

-- the sector of this number of a page
pub sector_of_page : (number s at : ℕ) → s < 8 → at ≡ 8 * number + s → (at / 8 ≡ number) × (at % 8 ≡ s)
sector_of_page number s at lt is = (omega arith, omega arith)

-- what is shown of a sector that is found at the same place, where it waits as before with the same bytes
pub shown_same : (pages later : List WaitingPage) (count more : ℕ) (bytes written content : List ℕ) (k : ℕ)
    → place_of later more (k / 8) ≡ place_of pages count (k / 8)
    → ((q : ℕ) → place_of pages count (k / 8) ≡ Some q → (has_sector (page_at later q) (k % 8) ≡ has_sector (page_at pages q) (k % 8))
    × (sector_of written (8 * q + k % 8) ≡ sector_of bytes (8 * q + k % 8)))
    → shown_of later more written content k ≡ shown_of pages count bytes content k
shown_same pages later count more bytes written content k same each =
    ap (λ (o : Option ℕ). given written (sector_of content k) (slot_in later (k % 8) o)) same ∙ at (place_of pages count (k / 8)) each
  where
    by_has : (b : Bool) (slot : ℕ) → sector_of written slot ≡ sector_of bytes slot
        → given written (sector_of content k) (if b then Some slot else None) ≡ given bytes (sector_of content k) (if b then Some slot else None)
    by_has true slot is = is
    by_has false slot is = refl

    at : (o : Option ℕ)
        → ((q : ℕ) → o ≡ Some q → (has_sector (page_at later q) (k % 8) ≡ has_sector (page_at pages q) (k % 8))
        × (sector_of written (8 * q + k % 8) ≡ sector_of bytes (8 * q + k % 8)))
        → given written (sector_of content k) (slot_in later (k % 8) o) ≡ given bytes (sector_of content k) (slot_in pages (k % 8) o)
    at None each = refl
    at (Some q) each =
        let both : (has_sector (page_at later q) (k % 8) ≡ has_sector (page_at pages q) (k % 8))
        × (sector_of written (8 * q + k % 8) ≡ sector_of bytes (8 * q + k % 8)) = each q refl in
        ap (λ (b : Bool). given written (sector_of content k) (if b then Some (8 * q + k % 8) else None)) both.0
        ∙ by_has (has_sector (page_at pages q) (k % 8)) (8 * q + k % 8) both.1

-- what stands at an index is what is read there
pub stands : (pages : List WaitingPage) (p : ℕ) (page : WaitingPage) → page ≡ get_or pages p page → p < length pages → page_at pages p ≡ page
stands pages p page is lt = get_or_default pages p no_page page lt ∙ sym is

-- a sector that is found at the same place, where it waits as before, has the slot that it had
pub slots_same : (pages later : List WaitingPage) (count more : ℕ) (k : ℕ) → place_of later more (k / 8) ≡ place_of pages count (k / 8)
    → ((q : ℕ) → place_of pages count (k / 8) ≡ Some q → has_sector (page_at later q) (k % 8) ≡ has_sector (page_at pages q) (k % 8))
    → slot_of later more k ≡ slot_of pages count k
slots_same pages later count more k same each = ap (slot_in later (k % 8)) same ∙ at (place_of pages count (k / 8)) each
  where
    at : (o : Option ℕ) → ((q : ℕ) → o ≡ Some q → has_sector (page_at later q) (k % 8) ≡ has_sector (page_at pages q) (k % 8))
        → slot_in later (k % 8) o ≡ slot_in pages (k % 8) o
    at None each = refl
    at (Some q) each = ap (λ (b : Bool). if b then Some (8 * q + k % 8) else None) (each q refl)
