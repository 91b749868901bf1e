-- Marks are changed.
use Rattle.std.proofs.Common.{◌≡◌, ◌≢◌, inl, inr, ℕ, suc, ◌+◌, ◌<◌, ◌≤◌, List, [], ◌∷◌, ◌++◌, length, refl, sym, ◌∙◌, ap, subst, arith}
use Rattle.std.proofs.lemmas.List.{get_or-set_same, get_or-set_other, length-set, get_or_past}
use Rattle.std.proofs.lemmas.Bool.{cases_lt, cases_eq}
use Rattle.std.specs.Prelude.{slice_index_or, slice_set, false}
use Rattle.page_store.specs.declared.marks.Mark.{Mark}
use Rattle.page_store.specs.declared.marks.Mark.TheVariants.{Committed, Waiting, Fresh, Released, Free, Past}
use Rattle.page_store.specs.declared.holds.HoldPlace.{HoldPlace}
use Rattle.page_store.specs.declared.holds.HoldPlace.TheVariants.{First, Second, Third, Fourth}
use Rattle.page_store.specs.declared.holds.Holders.{Holders}
use Rattle.page_store.specs.Holds.{none, with_need}
use Rattle.page_store.specs.Marks.{mark, turned, Turned, committed, left, IsMarked, free_one, free_count}

-- one page more has its new mark
module _ (f r w now : Mark) (start old : List Mark) (at : ℕ) (here : at < length old) (is : now ≡ turned f r w (mark start at))
    (done : (p : ℕ) → p < at → mark old p ≡ turned f r w (mark start p)) (ahead : (p : ℕ) → at ≤ p → mark old p ≡ mark start p) where
  pub turn_done : (p : ℕ) → p < at + 1 → mark (slice_set old at now) p ≡ turned f r w (mark start p)
  turn_done p low = elim (cases_eq p at) [
    | inl same ↦ subst (λ (q : ℕ). mark (slice_set old at now) q ≡ turned f r w (mark start q)) (sym same) (get_or-set_same old at now Committed here ∙ is)
    | inr other ↦ get_or-set_other old at p now Committed other ∙ done p (omega (arith, low, other))
  ]

  pub turn_ahead : (p : ℕ) → at + 1 ≤ p → mark (slice_set old at now) p ≡ mark start p
  turn_ahead p high = get_or-set_other old at p now Committed (omega (arith, high)) ∙ ahead p (omega (arith, high))

-- a mark is put
pub marked : (old : List Mark) (at : ℕ) (now : Mark) → at < length old → IsMarked at now old (slice_set old at now)
marked old at now here = record {
  same_length = length-set old at now;
  is = get_or-set_same old at now Committed here;
  others = λ p other. get_or-set_other old at p now Committed other;
}

-- one mark more is counted
pub free_count-more : (marks : List Mark) (m : Mark) → free_count (marks ++ m ∷ []) ≡ free_count marks + free_one m
free_count-more [] m = omega arith
free_count-more (x ∷ marks) m = omega (arith, free_count-more marks m)

-- where no page is free none is counted
pub none_free : (marks : List Mark) → ((p : ℕ) → p < length marks → mark marks p ≢ Free) → free_count marks ≡ 0
none_free [] none = refl
none_free (Committed ∷ marks) none = omega (arith, none_free marks (λ p low. none (suc p) (omega (arith, low))))
none_free (Waiting ∷ marks) none = omega (arith, none_free marks (λ p low. none (suc p) (omega (arith, low))))
none_free (Fresh ∷ marks) none = omega (arith, none_free marks (λ p low. none (suc p) (omega (arith, low))))
none_free (Released ∷ marks) none = omega (arith, none_free marks (λ p low. none (suc p) (omega (arith, low))))
none_free (Past ∷ marks) none = omega (arith, none_free marks (λ p low. none (suc p) (omega (arith, low))))
none_free (Free ∷ marks) none = absurd (none 0 (omega arith) refl)

pub one_at_most : (m : Mark) → free_one m ≤ 1
one_at_most Committed = omega arith
one_at_most Waiting = omega arith
one_at_most Fresh = omega arith
one_at_most Released = omega arith
one_at_most Free = omega arith
one_at_most Past = omega arith

-- all pages have their new marks
pub all_turned : (f r w : Mark) (start new : List Mark) (at : ℕ) → length new ≡ length start → length start ≤ at
    → ((p : ℕ) → p < at → mark new p ≡ turned f r w (mark start p)) → Turned f r w start new
all_turned f r w start new at long end done = record { same_length = long; each = each }
  where
    each : (p : ℕ) → mark new p ≡ turned f r w (mark start p)
    each p = elim (cases_lt p at) [
      | inl low ↦ done p low
      | inr high ↦ get_or_past new p Committed (omega (arith, long, end, high))
          ∙ sym (ap (turned f r w) (get_or_past start p Committed (omega (arith, end, high))))
    ]

-- one place more has its new value
module _ {A : Type 0} (d : A) (g : ℕ → A → A) (start old : List A) (at : ℕ) (now : A) (here : at < length old) (is : now ≡ g at (slice_index_or start at d))
    (done : (p : ℕ) → p < at → slice_index_or old p d ≡ g p (slice_index_or start p d))
    (ahead : (p : ℕ) → at ≤ p → slice_index_or old p d ≡ slice_index_or start p d) where
  pub each_done : (p : ℕ) → p < at + 1 → slice_index_or (slice_set old at now) p d ≡ g p (slice_index_or start p d)
  each_done p low = elim (cases_eq p at) [
    | inl same ↦ subst (λ (q : ℕ). slice_index_or (slice_set old at now) q d ≡ g q (slice_index_or start q d)) (sym same)
        (get_or-set_same old at now d here ∙ is)
    | inr other ↦ get_or-set_other old at p now d other ∙ done p (omega (arith, low, other))
  ]

  pub each_ahead : (p : ℕ) → at + 1 ≤ p → slice_index_or (slice_set old at now) p d ≡ slice_index_or start p d
  each_ahead p high = get_or-set_other old at p now d (omega (arith, high)) ∙ ahead p (omega (arith, high))

-- all places have their new values, where a place after the last one has the same
pub all_each : {A : Type 0} (d : A) (g : ℕ → A → A) (start new : List A) (at : ℕ) → length new ≡ length start → length start ≤ at
    → ((p : ℕ) → length start ≤ p → g p d ≡ d) → ((p : ℕ) → p < at → slice_index_or new p d ≡ g p (slice_index_or start p d)) → (p : ℕ)
    → slice_index_or new p d ≡ g p (slice_index_or start p d)
all_each d g start new at long end same done p = elim (cases_lt p (length start)) [
  | inl low ↦ done p (omega (arith, low, end))
  | inr high ↦ get_or_past new p d (omega (arith, long, high)) ∙ sym (ap (g p) (get_or_past start p d high) ∙ same p high)
]

pub committed_same : (h : Holders) → committed h Committed ≡ Committed
committed_same h = refl

pub left_same : (h : Holders) → left h Committed ≡ Committed
left_same h = refl

pub without_none : (place : HoldPlace) → with_need none place false ≡ none
without_none First = refl
without_none Second = refl
without_none Third = refl
without_none Fourth = refl
