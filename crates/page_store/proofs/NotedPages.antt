-- What is noted of the places of pages.
use Rattle.std.proofs.Common.{◌≡◌, ◌≢◌, ◌⊎◌, inl, inr, ℕ, ◌+◌, ◌%◌, ◌<◌, ◌≤◌, List, Some, None, sym, ap, ◌∙◌, set, get_or, length, length-set, arith}
use Rattle.std.proofs.lemmas.Bool.{cases_eq, cases_lt}
use Rattle.std.proofs.lemmas.List.{get_or-set_same, get_or-set_other, get_or_past}
use Rattle.std.proofs.lemmas.Option.{same_Some}
use Rattle.page_store.specs.Places.{StandWhereNoted, IsPlaced, number_at}
use Rattle.page_store.proofs.CachedPages.{Kept, Numbers}

-- where fewer pages stand
pub fewer_noted : (numbers numbers' : Numbers) (kept kept' : Kept) (hints : List ℕ)
    → ((p place : ℕ) → IsPlaced numbers' kept' p place → IsPlaced numbers kept p place) → StandWhereNoted numbers kept hints → StandWhereNoted numbers' kept' hints
fewer_noted numbers numbers' kept kept' hints fewer noted p place at = noted p place (fewer p place at)

-- at a place without a page none stands
not_here : (numbers : Numbers) (kept : Kept) (place p at : ℕ) → at ≡ place → IsPlaced (set numbers place None) kept p at → ⊥
not_here numbers kept place p at same there =
    let none : number_at (set numbers place None) at ≡ None = ap (number_at (set numbers place None)) same ∙ gone (cases_lt place (length numbers)) in
    let no : None ≡ Some p = sym none ∙ there.number in cc
  where
    gone : (place < length numbers) ⊎ (length numbers ≤ place) → number_at (set numbers place None) place ≡ None
    gone (inl within) = get_or-set_same numbers place None None within
    gone (inr past) = get_or_past (set numbers place None) place None (omega (arith, past, length-set numbers place None))

-- a place has no page any more
pub none_placed : (numbers : Numbers) (kept : Kept) (place p at : ℕ) → IsPlaced (set numbers place None) kept p at → IsPlaced numbers kept p at
none_placed numbers kept place p at there = elim (cases_eq at place) [
  | inl same ↦ absurd (not_here numbers kept place p at same there)
  | inr other ↦ record { number = sym (get_or-set_other numbers place at None None other) ∙ there.number; within = there.within }
]

-- a page is put at a place that is noted, where no other of its remainder stands
pub put_noted : (numbers : Numbers) (kept : Kept) (hints : List ℕ) (page place hint : ℕ) (bytes : List ℕ) → place < length numbers
    → hint ≡ page % 4096 → hint < length hints → ((p at : ℕ) → IsPlaced numbers kept p at → p % 4096 ≢ page % 4096) → StandWhereNoted numbers kept hints
    → StandWhereNoted (set numbers place (Some page)) (set kept place bytes) (set hints hint (place + 1))
put_noted numbers kept hints page place hint bytes here at_hint within others noted p at there = elim (cases_eq at place) [
  | inl same ↦
      let is : p ≡ page = same_Some _ _
      (sym there.number ∙ ap (number_at (set numbers place (Some page))) same ∙ get_or-set_same numbers place (Some page) None here) in
      ap (λ (n : ℕ). get_or (set hints hint (place + 1)) n 0) (ap (λ (q : ℕ). q % 4096) is ∙ sym at_hint)
      ∙ get_or-set_same hints hint (place + 1) 0 within ∙ ap (λ (n : ℕ). n + 1) (sym same)
  | inr other ↦
      let was : IsPlaced numbers kept p at = record {
        number = sym (get_or-set_other numbers place at (Some page) None other) ∙ there.number;
        within = omega (arith, there.within, length-set kept place bytes);
      } in
      get_or-set_other hints hint (p % 4096) (place + 1) 0 (λ same. others p at was (same ∙ at_hint)) ∙ noted p at was
]

-- where a page of the same remainder stands
pub same_remainder : (numbers : Numbers) (kept : Kept) (hints : List ℕ) (page hint : ℕ) → StandWhereNoted numbers kept hints → hint ≡ page % 4096
    → (p place : ℕ) → IsPlaced numbers kept p place → p % 4096 ≡ page % 4096 → get_or hints hint 0 ≡ place + 1
same_remainder numbers kept hints page hint noted at p place there same =
    ap (λ (n : ℕ). get_or hints n 0) (at ∙ sym same) ∙ noted p place there
