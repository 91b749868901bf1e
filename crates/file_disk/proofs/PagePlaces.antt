-- A page gets a place, and a sector is put there.
use Rattle.std.proofs.Common.{◌≡◌, ◌≢◌, ◌⊎◌, inl, inr, ℕ, zero, suc, ◌+◌, ◌*◌, ◌/◌, ◌%◌, ◌^◌, ◌<◌, ◌≤◌, Bool, true, false, List, length, Some, None, refl, sym, ap, ◌∙◌, arith, eq-eqb, ne_eqb, get_or, ◌∷◌, []}
use Rattle.std.specs.Prelude.{Option, ◌==◌, slice_set, slice_index_or}
use Rattle.std.proofs.lemmas.Bool.{cases_eq, cases_lt}
use Rattle.std.proofs.lemmas.List.{get_or-set_same, get_or-set_other}
use Rattle.file_disk.specs.declared.waiting_page.WaitingPage.{WaitingPage}
use Rattle.file_disk.specs.Bytes.{sector_of, LeavesOthers}
use Rattle.file_disk.specs.WaitingSectors.{no_page, page_at, has_sector, place_of, slot_in, slot_of, given, shown_of}
use Rattle.file_disk.specs.lemmas.WaitingSectors.{AreDistinct, AreHinted, ArePlaced}
use Rattle.file_disk.proofs.Slots.{place_found, place_is, none_is, place_same, shown_same, slots_same, stands}

-- the page at a place, once it is put there
pub set_here : (pages : List WaitingPage) (place : ℕ) (page : WaitingPage) → place < length pages → page_at (slice_set pages place page) place ≡ page
set_here pages place page lt = get_or-set_same pages place page no_page lt

-- and the pages at all others
pub set_else : (pages : List WaitingPage) (place q : ℕ) (page : WaitingPage) → q ≢ place → page_at (slice_set pages place page) q ≡ page_at pages q
set_else pages place q page ne = get_or-set_other pages place q page no_page ne

-- a new page with no sector in it shows nothing
pub added_same : (pages : List WaitingPage) (count : ℕ) (page : WaitingPage) → count < length pages
    → ((s : ℕ) → s < 8 → has_sector page s ≡ false) → place_of pages count page.number ≡ None
    → (bytes content : List ℕ) (k : ℕ)
    → shown_of (slice_set pages count page) (count + 1) bytes content k ≡ shown_of pages count bytes content k
added_same pages count page room empty none bytes content k =
    ap (λ (n : ℕ). shown_of (slice_set pages count page) n bytes content k) next
    ∙ elim (cases_eq (k / 8) page.number) [
      | inl its ↦
          let test : ((page_at (slice_set pages count page) count).number == (k / 8)) ≡ true =
          eq-eqb _ _ (ap (λ (p : WaitingPage). p.number) (set_here pages count page room) ∙ sym its) in
          let missing : has_sector (page_at (slice_set pages count page) count) (k % 8) ≡ false =
          ap (λ (p : WaitingPage). has_sector p (k % 8)) (set_here pages count page room) ∙ empty (k % 8) (omega arith) in
          let gone : place_of pages count (k / 8) ≡ None = ap (place_of pages count) its ∙ none in
          rw test (rw missing (rw gone refl))
      | inr other ↦
          let test : ((page_at (slice_set pages count page) count).number == (k / 8)) ≡ false =
          ne_eqb _ _ (λ is. other (sym is ∙ ap (λ (p : WaitingPage). p.number) (set_here pages count page room))) in
          let same : place_of (slice_set pages count page) (suc count) (k / 8) ≡ place_of pages count (k / 8) =
          rw test (place_same pages (slice_set pages count page) count (k / 8)
          (λ p lt. ap (λ (w : WaitingPage). w.number) (set_else pages count p page (omega arith)))) in
          shown_same pages (slice_set pages count page) count (suc count) bytes bytes content k same
          (λ q found. (
            ap (λ (p : WaitingPage). has_sector p (k % 8))
                (set_else pages count q page (omega (arith, (place_is pages count (k / 8) q found).0))),
            refl,
          ))
    ]
  where
    next : count + 1 ≡ suc count
    next = omega arith

-- nor does a sector wait that did not
pub added_slots : (pages : List WaitingPage) (count : ℕ) (page : WaitingPage) → count < length pages
    → ((s : ℕ) → s < 8 → has_sector page s ≡ false) → place_of pages count page.number ≡ None
    → (k : ℕ) → slot_of (slice_set pages count page) (count + 1) k ≡ slot_of pages count k
added_slots pages count page room empty none k =
    ap (λ (n : ℕ). slot_of (slice_set pages count page) n k) next
    ∙ elim (cases_eq (k / 8) page.number) [
      | inl its ↦
          let test : ((page_at (slice_set pages count page) count).number == (k / 8)) ≡ true =
          eq-eqb _ _ (ap (λ (p : WaitingPage). p.number) (set_here pages count page room) ∙ sym its) in
          let missing : has_sector (page_at (slice_set pages count page) count) (k % 8) ≡ false =
          ap (λ (p : WaitingPage). has_sector p (k % 8)) (set_here pages count page room) ∙ empty (k % 8) (omega arith) in
          let gone : place_of pages count (k / 8) ≡ None = ap (place_of pages count) its ∙ none in
          rw test (rw missing (rw gone refl))
      | inr other ↦
          let test : ((page_at (slice_set pages count page) count).number == (k / 8)) ≡ false =
          ne_eqb _ _ (λ is. other (sym is ∙ ap (λ (p : WaitingPage). p.number) (set_here pages count page room))) in
          let same : place_of (slice_set pages count page) (suc count) (k / 8) ≡ place_of pages count (k / 8) =
          rw test (place_same pages (slice_set pages count page) count (k / 8)
          (λ p lt. ap (λ (w : WaitingPage). w.number) (set_else pages count p page (omega arith)))) in
          slots_same pages (slice_set pages count page) count (suc count) k same
          (λ q found. ap (λ (p : WaitingPage). has_sector p (k % 8)) (set_else pages count q page (omega (arith, (place_is pages count (k / 8) q found).0))))
    ]
  where
    next : count + 1 ≡ suc count
    next = omega arith

-- all places have different pages then
pub added_distinct : (pages : List WaitingPage) (count : ℕ) (page : WaitingPage) → count < length pages → place_of pages count page.number ≡ None
    → AreDistinct pages count → AreDistinct (slice_set pages count page) (count + 1)
added_distinct pages count page room none distinct = λ p q p_lt q_lt same. elim (cases_eq p count) [
  | inl p_is ↦ elim (cases_eq q count) [
    | inl q_is ↦ p_is ∙ sym q_is
    | inr q_not ↦ absurd (none_is pages count page.number q none (omega arith) (sym (old q q_not) ∙ sym same ∙ new p p_is))
  ]
  | inr p_not ↦ elim (cases_eq q count) [
    | inl q_is ↦ absurd (none_is pages count page.number p none (omega arith) (sym (old p p_not) ∙ same ∙ new q q_is))
    | inr q_not ↦ distinct p q (omega arith) (omega arith) (sym (old p p_not) ∙ same ∙ old q q_not)
  ]
]
  where
    old : (p : ℕ) → p ≢ count → (page_at (slice_set pages count page) p).number ≡ (page_at pages p).number
    old p ne = ap (λ (w : WaitingPage). w.number) (set_else pages count p page ne)

    new : (p : ℕ) → p ≡ count → (page_at (slice_set pages count page) p).number ≡ page.number
    new p is = ap (λ (n : ℕ). (page_at (slice_set pages count page) n).number) is ∙ ap (λ (w : WaitingPage). w.number) (set_here pages count page room)

-- and begin below 2 ^ 64
pub added_placed : (pages : List WaitingPage) (count : ℕ) (page : WaitingPage) → count < length pages → 4096 * page.number < 2 ^ 64
    → ArePlaced pages count → ArePlaced (slice_set pages count page) (count + 1)
added_placed pages count page room below placed = λ p lt. elim (cases_eq p count) [
  | inl is ↦
      let new : (page_at (slice_set pages count page) p).number ≡ page.number =
      ap (λ (n : ℕ). (page_at (slice_set pages count page) n).number) is ∙ ap (λ (w : WaitingPage). w.number) (set_here pages count page room) in
      omega (arith, new, below)
  | inr ne ↦
      let old : (page_at (slice_set pages count page) p).number ≡ (page_at pages p).number = ap (λ (w : WaitingPage). w.number)
      (set_else pages count p page ne) in
      omega (arith, old, placed p (omega arith))
]

-- and are noted
pub added_noted : (pages : List WaitingPage) (count hint note : ℕ) (page : WaitingPage) (hints : List ℕ) → note ≢ 0 → count < length pages
    → hint ≡ page.number % 16384 → hint < length hints → AreHinted pages count hints
    → AreHinted (slice_set pages count page) (count + 1) (slice_set hints hint note)
added_noted pages count hint note page hints told room at within noted =
    let here : get_or (slice_set hints hint note) hint 0 ≡ note = get_or-set_same hints hint note 0 within in
    let some : (n : ℕ) → n % 16384 ≡ hint → get_or (slice_set hints hint note) (n % 16384) 0 ≢ 0 =
    λ n is none. told (sym here ∙ sym (ap (λ (k : ℕ). get_or (slice_set hints hint note) k 0) is) ∙ none) in
    λ p lt. elim (cases_eq p count) [
      | inl is ↦
          let new : (page_at (slice_set pages count page) p).number ≡ page.number =
          ap (λ (n : ℕ). (page_at (slice_set pages count page) n).number) is ∙ ap (λ (w : WaitingPage). w.number) (set_here pages count page room) in
          some _ (ap (λ (n : ℕ). n % 16384) new ∙ sym at)
      | inr ne ↦
          let old : (page_at (slice_set pages count page) p).number ≡ (page_at pages p).number = ap (λ (w : WaitingPage). w.number)
          (set_else pages count p page ne) in
          elim (cases_eq ((page_at (slice_set pages count page) p).number % 16384) hint) [
            | inl is ↦ some _ is
            | inr other ↦ λ none. noted p (omega arith)
                (ap (λ (n : ℕ). get_or hints (n % 16384) 0) (sym old) ∙ sym (get_or-set_other hints hint _ note 0 other) ∙ none)
          ]
    ]

-- a page that gets a sector more
pub record GetsSector (old new : WaitingPage) (sector : ℕ) : Type 0 where
  pub number : new.number ≡ old.number
  pub has : has_sector new sector ≡ true
  pub others : (r : ℕ) → r ≢ sector → has_sector new r ≡ has_sector old r

-- the places are found as before then
fill_place : (pages : List WaitingPage) (count place : ℕ) (page : WaitingPage) (sector : ℕ) → place < length pages
    → GetsSector (page_at pages place) page sector → (k : ℕ) → place_of (slice_set pages place page) count k ≡ place_of pages count k
fill_place pages count place page sector lt gets k = place_same pages (slice_set pages place page) count k (λ p p_lt. at p (cases_eq p place))
  where
    at : (p : ℕ) → (p ≡ place) ⊎ (p ≡ place → ⊥) → (page_at (slice_set pages place page) p).number ≡ (page_at pages p).number
    at p (inl is) = ap (λ (n : ℕ). (page_at (slice_set pages place page) n).number) is ∙ ap (λ (w : WaitingPage). w.number) (set_here pages place page lt)
        ∙ gets.number ∙ ap (λ (n : ℕ). (page_at pages n).number) (sym is)
    at p (inr ne) = ap (λ (w : WaitingPage). w.number) (set_else pages place p page ne)

-- what was put in is shown
pub fill_put : (pages : List WaitingPage) (count place at : ℕ) (page : WaitingPage) (bytes from content : List ℕ) → place < count → count ≤ length pages
    → AreDistinct pages count → (page_at pages place).number ≡ at / 8 → GetsSector (page_at pages place) page (at % 8)
    → sector_of bytes (8 * place + at % 8) ≡ from → shown_of (slice_set pages place page) count bytes content at ≡ from
fill_put pages count place at page bytes from content lt le distinct its gets written =
    let here : place < length pages = omega arith in
    let found : place_of (slice_set pages place page) count (at / 8) ≡ Some place =
    fill_place pages count place page (at % 8) here gets (at / 8) ∙ place_found pages count place (at / 8) distinct lt its in
    let has : has_sector (page_at (slice_set pages place page) place) (at % 8) ≡ true =
    ap (λ (w : WaitingPage). has_sector w (at % 8)) (set_here pages place page here) ∙ gets.has in
    ap (λ (o : Option ℕ). given bytes (sector_of content at) (slot_in (slice_set pages place page) (at % 8) o)) found ∙ rw has written

-- and all else as before
pub fill_others : (pages : List WaitingPage) (count place at : ℕ) (page : WaitingPage) (bytes written content : List ℕ) → place < count
    → count ≤ length pages → (page_at pages place).number ≡ at / 8 → GetsSector (page_at pages place) page (at % 8)
    → LeavesOthers (512 * (8 * place + at % 8)) 512 bytes written
    → (k : ℕ) → k ≢ at → shown_of (slice_set pages place page) count written content k ≡ shown_of pages count bytes content k
fill_others pages count place at page bytes written content lt le its gets leaves k other =
    shown_same pages (slice_set pages place page) count count bytes written content k (fill_place pages count place page (at % 8) here gets (k / 8))
    (λ q found. (has q found (cases_eq q place), stays q found (cases_lt (8 * q + k % 8) (8 * place + at % 8))))
  where
    here : place < length pages
    here = omega arith

    has : (q : ℕ) → place_of pages count (k / 8) ≡ Some q → (q ≡ place) ⊎ (q ≡ place → ⊥)
        → has_sector (page_at (slice_set pages place page) q) (k % 8) ≡ has_sector (page_at pages q) (k % 8)
    has q found (inl is) =
        let its_too : (page_at pages place).number ≡ k / 8 = ap (λ (n : ℕ). (page_at pages n).number) (sym is) ∙ (place_is pages count (k / 8) q found).1 in
        let apart : k % 8 ≢ at % 8 = λ same. other (omega arith) in
        ap (λ (n : ℕ). has_sector (page_at (slice_set pages place page) n) (k % 8)) is
        ∙ ap (λ (w : WaitingPage). has_sector w (k % 8)) (set_here pages place page here)
        ∙ gets.others (k % 8) apart
        ∙ ap (λ (n : ℕ). has_sector (page_at pages n) (k % 8)) (sym is)
    has q found (inr ne) = ap (λ (w : WaitingPage). has_sector w (k % 8)) (set_else pages place q page ne)

    apart_slots : (q : ℕ) → place_of pages count (k / 8) ≡ Some q → 8 * q + k % 8 ≢ 8 * place + at % 8
    apart_slots q found same =
        let q_is : q ≡ place = omega arith in
        let its_too : (page_at pages place).number ≡ k / 8 = ap (λ (n : ℕ). (page_at pages n).number) (sym q_is) ∙ (place_is pages count (k / 8) q found).1 in
        other (omega arith)

    stays : (q : ℕ) → place_of pages count (k / 8) ≡ Some q → (8 * q + k % 8 < 8 * place + at % 8) ⊎ (8 * place + at % 8 ≤ 8 * q + k % 8)
        → sector_of written (8 * q + k % 8) ≡ sector_of bytes (8 * q + k % 8)
    stays q found (inl before) = leaves.before (512 * (8 * q + k % 8)) 512 (omega arith)
    stays q found (inr behind) =
        let ne : 8 * q + k % 8 ≢ 8 * place + at % 8 = apart_slots q found in
        leaves.behind (512 * (8 * q + k % 8)) 512 (omega arith)

-- no other sector begins to wait
pub fill_slots : (pages : List WaitingPage) (count place at : ℕ) (page : WaitingPage) → place < count
    → count ≤ length pages → (page_at pages place).number ≡ at / 8 → GetsSector (page_at pages place) page (at % 8)
    → (k : ℕ) → k ≢ at → slot_of (slice_set pages place page) count k ≡ slot_of pages count k
fill_slots pages count place at page lt le its gets k other =
    slots_same pages (slice_set pages place page) count count k (fill_place pages count place page (at % 8) here gets (k / 8))
    (λ q found. has q found (cases_eq q place))
  where
    here : place < length pages
    here = omega arith

    has : (q : ℕ) → place_of pages count (k / 8) ≡ Some q → (q ≡ place) ⊎ (q ≡ place → ⊥)
        → has_sector (page_at (slice_set pages place page) q) (k % 8) ≡ has_sector (page_at pages q) (k % 8)
    has q found (inl is) =
        let its_too : (page_at pages place).number ≡ k / 8 = ap (λ (n : ℕ). (page_at pages n).number) (sym is) ∙ (place_is pages count (k / 8) q found).1 in
        let apart : k % 8 ≢ at % 8 = λ same. other (omega arith) in
        ap (λ (n : ℕ). has_sector (page_at (slice_set pages place page) n) (k % 8)) is
        ∙ ap (λ (w : WaitingPage). has_sector w (k % 8)) (set_here pages place page here)
        ∙ gets.others (k % 8) apart
        ∙ ap (λ (n : ℕ). has_sector (page_at pages n) (k % 8)) (sym is)
    has q found (inr ne) = ap (λ (w : WaitingPage). has_sector w (k % 8)) (set_else pages place q page ne)

-- a page that is lent and gets a sector
pub gets_sector : (pages : List WaitingPage) (place sector : ℕ) (lent : WaitingPage) (has : List Bool) → lent ≡ get_or pages place lent
    → place < length pages → slice_index_or has sector false ≡ true
    → ((r : ℕ) → r ≢ sector → slice_index_or has r false ≡ slice_index_or lent.has r false)
    → GetsSector (page_at pages place) (record { number = lent.number; has = has }) sector
gets_sector pages place sector lent has is lt its others = record {
  number = ap (λ (w : WaitingPage). w.number) (sym stood);
  has = its;
  others = λ r ne. others r ne ∙ ap (λ (w : WaitingPage). has_sector w r) (sym stood);
}
  where
    stood : page_at pages place ≡ lent
    stood = stands pages place lent is lt

-- a page that has none
pub has_none : (s : ℕ) → slice_index_or (false ∷ false ∷ false ∷ false ∷ false ∷ false ∷ false ∷ false ∷ []) s false ≡ false
has_none zero = refl
has_none (suc zero) = refl
has_none (suc (suc zero)) = refl
has_none (suc (suc (suc zero))) = refl
has_none (suc (suc (suc (suc zero)))) = refl
has_none (suc (suc (suc (suc (suc zero))))) = refl
has_none (suc (suc (suc (suc (suc (suc zero)))))) = refl
has_none (suc (suc (suc (suc (suc (suc (suc zero))))))) = refl
has_none (suc (suc (suc (suc (suc (suc (suc (suc s)))))))) = refl
