-- From which page on all are free.
use Rattle.std.proofs.Common.{◌≡◌, inl, inr, ℕ, zero, suc, ◌+◌, ◌-◌, ◌<◌, ◌≤◌, Bool, true, false, List, [], ◌∷◌, length, take, min, slice_index_or, IsTrue, refl, sym, ◌∙◌, ap, arith}
use Rattle.std.proofs.lemmas.Bool.{cases_lt, cases_eq}
use Rattle.std.proofs.lemmas.List.{get_or_past}
use Rattle.page_store.specs.declared.marks.Mark.{Mark}
use Rattle.page_store.specs.declared.marks.Mark.TheVariants.{Committed, Free}
use Rattle.page_store.specs.declared.holds.HoldPlace.{HoldPlace}
use Rattle.page_store.specs.declared.holds.HoldPlace.TheVariants.{First, Second, Third, Fourth}
use Rattle.page_store.specs.declared.holds.Holders.{Holders}
use Rattle.page_store.specs.Holds.{none, needed_by, with_need, holders_at}
use Rattle.page_store.specs.Marks.{mark, stays, committed, left, turned, free_count, IsMarked, Turned, AreCommitted, AreLeft, AreGrown, AreCut, AreFreeFrom}
use Rattle.page_store.specs.lemmas.Counts.{all_free}
use Rattle.page_store.proofs.ChangedMarks.{one_at_most, without_none}

-- one page is marked: if it is not free, it lies before the new end
pub unused_marked : (high later page : ℕ) (now : Mark) (old new : List Mark) → AreFreeFrom high old → IsMarked page now old new → high ≤ later
    → (later ≤ page → now ≡ Free) → AreFreeFrom later new
unused_marked high later page now old new free marks more here = record {
  each = λ p from within. elim (cases_eq p page) [
    | inl same ↦ ap (λ (q : ℕ). mark new q) same ∙ marks.is ∙ here (omega (arith, same, from))
    | inr other ↦ marks.others p other ∙ free.each p (omega (arith, from, more)) (omega (arith, within, marks.same_length))
  ];
}

-- a page that is not free lies before it
pub not_free_below : (high page : ℕ) (marks : List Mark) → AreFreeFrom high marks → page < length marks → (mark marks page ≡ Free → ⊥) → page < high
not_free_below high page marks free within other = elim (cases_lt page high) [
  | inl below ↦ below
  | inr above ↦ absurd (other (free.each page above within))
]

pub unused_turned : (fresh released waiting : Mark) (high : ℕ) (old new : List Mark) → AreFreeFrom high old → Turned fresh released waiting old new
    → AreFreeFrom high new
unused_turned fresh released waiting high old new free marks = record {
  each = λ p from within. marks.each p ∙ ap (turned fresh released waiting) (free.each p from (omega (arith, within, marks.same_length)));
}

pub unused_committed : (holders : List Holders) (high : ℕ) (old new : List Mark) → AreFreeFrom high old → AreCommitted holders old new → AreFreeFrom high new
unused_committed holders high old new free marks = record {
  each = λ p from within. marks.each p ∙ ap (committed (holders_at holders p)) (free.each p from (omega (arith, within, marks.same_length)));
}

pub unused_left : (holders : List Holders) (high : ℕ) (old new : List Mark) → AreFreeFrom high old → AreLeft holders old new → AreFreeFrom high new
unused_left holders high old new free marks = record {
  each = λ p from within. marks.each p ∙ ap (left (holders_at holders p)) (free.each p from (omega (arith, within, marks.same_length)));
}

pub unused_grown : (holders : List Holders) (pages high : ℕ) (old new : List Mark) → AreFreeFrom high old → AreGrown holders pages old new
    → AreFreeFrom high new
unused_grown holders pages high old new free marks = record {
  each = λ p from within. elim (cases_lt p (length old)) [
    | inl low ↦ marks.each p low ∙ ap (committed (holders_at holders p)) (free.each p from low)
    | inr past ↦ marks.added p past (omega (arith, within, marks.long))
  ];
}

pub unused_cut : (pages high : ℕ) (old new : List Mark) → pages ≤ length old → AreFreeFrom high old → AreCut pages old new → AreFreeFrom high new
unused_cut pages high old new fewer free marks = record {
  each = λ p from within. marks.each p (omega (arith, within, marks.long)) ∙ free.each p from (omega (arith, within, marks.long, fewer));
}

-- where no page lies from there on
pub unused_past : (high : ℕ) (marks : List Mark) → length marks ≤ high → AreFreeFrom high marks
unused_past high marks past = record { each = λ p from within. absurd (omega (arith, from, within, past)) }

-- one page fewer
pub unused_less : (high : ℕ) (marks : List Mark) → AreFreeFrom (high + 1) marks → mark marks high ≡ Free → AreFreeFrom high marks
unused_less high marks free is = record {
  each = λ p from within. elim (cases_eq p high) [
    | inl same ↦ ap (λ (q : ℕ). mark marks q) same ∙ is
    | inr other ↦ free.each p (omega (arith, from, other)) within
  ];
}

no_need : (b : Bool) → (IsTrue b → ⊥) → b ≡ false
no_need true not = absurd (not refl)
no_need false not = refl

four_none : (h : Holders) → h.first ≡ false → h.second ≡ false → h.third ≡ false → h.fourth ≡ false → h ≡ none
four_none h first second third fourth = λ i. record { first = first i; second = second i; third = third i; fourth = fourth i }

-- no hold needs a page that is free
pub free_unheld : (marks : List Mark) (holds : List Holders) (high : ℕ) → AreFreeFrom high marks → length holds ≡ length marks
    → ((place : HoldPlace) (p : ℕ) → IsTrue (needed_by (holders_at holds p) place) → IsTrue (stays (mark marks p))) → (p : ℕ) → high ≤ p
    → holders_at holds p ≡ none
free_unheld marks holds high free long stay p from = elim (cases_lt p (length marks)) [
  | inl low ↦
      let not : (place : HoldPlace) → needed_by (holders_at holds p) place ≡ false = λ place. no_need _ (λ it.
      let no : false ≡ true = sym (ap stays (free.each p from low)) ∙ stay place p it in cc) in
      four_none (holders_at holds p) (not First) (not Second) (not Third) (not Fourth)
  | inr past ↦ get_or_past holds p none (omega (arith, past, long))
]

-- so many are free
pub free_beyond : (marks : List Mark) (used : ℕ) → used ≤ length marks → AreFreeFrom used marks
    → free_count marks ≡ free_count (take used marks) + (length marks - used)
free_beyond marks zero low free = omega (arith, all_free marks (λ p within. free.each p (omega arith) within))
free_beyond [] (suc used) low free = absurd (omega (arith, low))
free_beyond (m ∷ marks) (suc used) low free =
    let rest = free_beyond marks used (omega (arith, low))
    (record { each = λ p from within. free.each (suc p) (omega (arith, from)) (omega (arith, within)) }) in
    omega (arith, rest, low)

-- no more than there are
pub free_at_most : (marks : List Mark) → free_count marks ≤ length marks
free_at_most [] = omega arith
free_at_most (m ∷ marks) = omega (arith, free_at_most marks, one_at_most m)

-- all places up to one have their new values, and from there on the new value is the old one
pub each_upto : {A : Type 0} (d : A) (g : ℕ → A → A) (start new : List A) (at : ℕ)
    → ((p : ℕ) → at ≤ p → g p (slice_index_or start p d) ≡ slice_index_or start p d)
    → ((p : ℕ) → p < at → slice_index_or new p d ≡ g p (slice_index_or start p d))
    → ((p : ℕ) → at ≤ p → slice_index_or new p d ≡ slice_index_or start p d) → (p : ℕ) → slice_index_or new p d ≡ g p (slice_index_or start p d)
each_upto d g start new at same done ahead p = elim (cases_lt p at) [
  | inl low ↦ done p low
  | inr high ↦ ahead p high ∙ sym (same p high)
]

-- a page from there on keeps its mark as a hold is let go
pub unused_left_same : (holders : Holders) (high : ℕ) (marks : List Mark) → AreFreeFrom high marks → (p : ℕ) → min high (length marks) ≤ p
    → left holders (mark marks p) ≡ mark marks p
unused_left_same holders high marks free p from = elim (cases_lt p (length marks)) [
  | inl low ↦ let is = free.each p (omega (arith, low, from)) low in ap (left holders) is ∙ sym is
  | inr past ↦ let is = get_or_past marks p Committed past in ap (left holders) is ∙ sym is
]

-- no hold needs a page from there on
pub unheld_from : (high : ℕ) (holds : List Holders) → ((p : ℕ) → high ≤ p → holders_at holds p ≡ none) → (p : ℕ) → min high (length holds) ≤ p
    → holders_at holds p ≡ none
unheld_from high holds unheld p from = elim (cases_lt p (length holds)) [
  | inl low ↦ unheld p (omega (arith, low, from))
  | inr past ↦ get_or_past holds p none past
]

-- and a hold that does not need it leaves it so
pub unheld_same : (place : HoldPlace) (h : Holders) → h ≡ none → with_need h place false ≡ h
unheld_same place h is = ap (λ (hs : Holders). with_need hs place false) is ∙ without_none place ∙ sym is

-- so from the last page on, where that comes first
pub unused_within : (high : ℕ) (marks : List Mark) → AreFreeFrom high marks → AreFreeFrom (min high (length marks)) marks
unused_within high marks free = record { each = λ p from within. free.each p (omega (arith, from, within)) within }
