-- Rows of marks of some numbers.
use Rattle.std.proofs.Common.{◌≡◌, ◌==◌, ◌||◌, ◌⊎◌, inl, inr, ◌↔◌, ℕ, ◌+◌, ◌<◌, Bool, true, false, List, [], ◌∷◌, length, take, get_or, slice_index_or, refl, sym, ap, ◌∙◌}
use Rattle.std.specs.Cmp.{both_ways}
use Rattle.std.specs.List.{list_any}
use Rattle.std.proofs.lemmas.Bool.{eqb-true, eq-eqb}
use Rattle.std.proofs.lemmas.List.{take_more}
use Rattle.std.proofs.lemmas.List.Folds.{list_any-append}
use Rattle.legal_moves.specs.lemmas.Marks.{IsMarkSet}

-- one mark more
pub one_marked : (xs : List ℕ) (i x : ℕ) (old new : List Bool) → i < length xs → x ≡ get_or xs i x
    → ((k : ℕ) → slice_index_or old k false ≡ list_any (λ j. j == k) (take i xs))
    → ((k : ℕ) → IsMarkSet new k ↔ (IsMarkSet old k ⊎ (k ≡ x)))
    → (k : ℕ) → slice_index_or new k false ≡ list_any (λ j. j == k) (take (i + 1) xs)
one_marked xs i x old new inside is before marked k =
    both_ways (slice_index_or new k false) (list_any (λ j. j == k) (take (i + 1) xs)) there back
  where
    split : list_any (λ j. j == k) (take (i + 1) xs) ≡ (list_any (λ j. j == k) (take i xs) || ((x == k) || false))
    split =
        ap (list_any (λ j. j == k)) (take_more xs i x inside)
        ∙ list_any-append (λ j. j == k) (take i xs) (get_or xs i x ∷ [])
        ∙ ap (λ y. list_any (λ j. j == k) (take i xs) || ((y == k) || false)) (sym is)

    joined : (s t : Bool) → (s ≡ true) ⊎ (t ≡ true) → (s || (t || false)) ≡ true
    joined true t h = refl
    joined false true h = refl
    joined false false (inl h) = h
    joined false false (inr h) = h

    parted : (s t : Bool) → (s || (t || false)) ≡ true → (s ≡ true) ⊎ (t ≡ true)
    parted true t h = inl refl
    parted false true h = inr refl
    parted false false h = inl h

    there : slice_index_or new k false ≡ true → list_any (λ j. j == k) (take (i + 1) xs) ≡ true
    there set = split ∙ joined (list_any (λ j. j == k) (take i xs)) (x == k) (either ((marked k).0 set))
      where
        either : IsMarkSet old k ⊎ (k ≡ x) → (list_any (λ j. j == k) (take i xs) ≡ true) ⊎ ((x == k) ≡ true)
        either (inl h) = inl (sym (before k) ∙ h)
        either (inr h) = inr (eq-eqb x k (sym h))

    back : list_any (λ j. j == k) (take (i + 1) xs) ≡ true → slice_index_or new k false ≡ true
    back h = (marked k).1 (either (parted (list_any (λ j. j == k) (take i xs)) (x == k) (sym split ∙ h)))
      where
        either : (list_any (λ j. j == k) (take i xs) ≡ true) ⊎ ((x == k) ≡ true) → IsMarkSet old k ⊎ (k ≡ x)
        either (inl h) = inl (before k ∙ h)
        either (inr h) = inr (sym (eqb-true x k h))

-- what is said of each element by two tests that agree
pub any_agree : {A : Type 0} (p q : A → Bool) → ((x : A) → p x ≡ q x) → (xs : List A) → list_any p xs ≡ list_any q xs
any_agree p q same [] = refl
any_agree p q same (x ∷ xs) = ap (λ t. t || list_any p xs) (same x) ∙ ap (λ t. q x || t) (any_agree p q same xs)
