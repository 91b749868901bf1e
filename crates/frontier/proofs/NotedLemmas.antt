-- The successors are noted one after the other.
use Rattle.std.proofs.Common.{◌≡◌, ◌∙◌, sym, ap, subst, ℕ, ◌+◌, ◌≤◌, ◌<◌, Some, List, [], ◌∷◌, ◌++◌, length, map, take, drop, get_or, refl, arith, slice_get}
use Rattle.std.specs.declared.cmp.Ordering.{Ordering}
use Rattle.std.specs.Cmp.{IsTotalOrder}
use Rattle.std.proofs.lemmas.List.{drop_more, get_or-map, length-map, map_more, take-map}
use Rattle.retrograde.specs.Stored.{Stored}
use Rattle.retrograde.specs.Changes.{with_position, with_edge}
use Rattle.retrograde.specs.lemmas.Expansion.{IsNoted, AreNoted}
use Rattle.frontier.proofs.NumberLemmas.{IsReady, ready_next, still_unknown}

noted_push : {P : Type 0} (e : ℕ) (ys : List P) (y : P) (a b c : Stored P) → AreNoted e ys a b → IsNoted e y b c → AreNoted e (ys ++ y ∷ []) a c
noted_push e [] y a b c same step = (c, subst (λ (t : Stored _). IsNoted e y t c) same step, refl)
noted_push e (z ∷ ys) y a b c (next, first, rest) step = (next, first, noted_push e ys y next b c rest step)

module _ {A P : Type 0} (f : A → P) (items : List A) (i : ℕ) (x : A) (within : i < length items) (is : x ≡ get_or items i x) where
  -- one more of a list, as a loop goes over it
  pub take_at : take (i + 1) (map f items) ≡ take i (map f items) ++ f x ∷ []
  take_at =
      take-map f (i + 1) items
      ∙ (map_more f items i x within
      ∙ (ap (λ z. map f (take i items) ++ f z ∷ []) (sym is)
      ∙ ap (λ zs. zs ++ f x ∷ []) (sym (take-map f i items))))

  pub drop_at : drop i (map f items) ≡ f x ∷ drop (i + 1) (map f items)
  drop_at =
      let longer : i < length (map f items) = let same : length (map f items) ≡ length items = length-map items f in omega arith in
      drop_more (map f items) i (f x) longer
      ∙ ap (λ z. z ∷ drop (i + 1) (map f items)) (get_or-map f items i x (f x) within ∙ ap f (sym is))

  module _ (cmp : P → P → Ordering) (laws : IsTotalOrder cmp) (base : List P) (e : ℕ) (numbers : List ℕ) (even : length numbers ≡ length items) (now : Stored P)
      (ready : IsReady cmp laws base e (drop i (map f items)) (drop i numbers) now) (k : ℕ) (counted : k ≡ length now.positions) where
    here : IsReady cmp laws base e (f x ∷ drop (i + 1) (map f items)) (get_or numbers i 0 ∷ drop (i + 1) numbers) now
    here =
        subst (λ (ys : List P). IsReady cmp laws base e ys (get_or numbers i 0 ∷ drop (i + 1) numbers) now) drop_at
        (subst (λ (ns : List ℕ). IsReady cmp laws base e (drop i (map f items)) ns now) (drop_more numbers i 0 (omega arith)) ready)

    pub unknown_here : k ≤ get_or numbers i 0 → (j : ℕ) → slice_get now.positions j ≡ Some (f x) → ⊥
    unknown_here past =
        let past' : length now.positions ≤ get_or numbers i 0 = omega arith in
        still_unknown cmp laws base e (f x) (drop (i + 1) (map f items)) (get_or numbers i 0) (drop (i + 1) numbers) now here past'

    pub noted_here : (old new : Stored P) → AreNoted e (take i (map f items)) old now
        → (get_or numbers i 0 < k → new ≡ with_edge now (get_or numbers i 0) e)
        → (k ≤ get_or numbers i 0 → new ≡ with_edge (with_position now (f x)) k e)
        → AreNoted e (take (i + 1) (map f items)) old new × IsReady cmp laws base e (drop (i + 1) (map f items)) (drop (i + 1) numbers) new
    noted_here old new before known added =
        let (first, rest) =
        ready_next cmp laws base e (f x) (drop (i + 1) (map f items)) (get_or numbers i 0) (drop (i + 1) numbers) now here new
        (λ within'. known (omega arith))
        (λ past. let past' : k ≤ get_or numbers i 0 = omega arith in
        subst (λ (n : ℕ). new ≡ with_edge (with_position now (f x)) n e) counted (added past')) in (
          subst (λ (ys : List P). AreNoted e ys old new) (sym take_at) (noted_push e (take i (map f items)) (f x) old now new before first),
          rest,
        )
