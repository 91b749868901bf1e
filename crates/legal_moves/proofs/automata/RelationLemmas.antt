-- The numbers related so far by a loop.
use Rattle.std.proofs.Common.{◌≡◌, ℕ, ◌+◌, ◌<◌, ◌≤◌, ◌∷◌, ◌++◌, ◌⊎◌, inl, inr, ◌↔◌, List, [], length, get_or, take, Contains, sym, subst, arith}
use Rattle.std.proofs.lemmas.List.{take_more, take_all}
use Rattle.std.proofs.lemmas.List.Elements.{Contains-append_left, Contains-push, Contains-push_cases}

contains_none : (j : ℕ) → Contains [] j → ⊥
contains_none j h = omega (arith, h.1)

contains_more : (xs : List ℕ) (i j x : ℕ) → i < length xs → x ≡ get_or xs i x → Contains (take (i + 1) xs) j ↔ (Contains (take i xs) j ⊎ (j ≡ x))
contains_more xs i j x h is = subst (λ ys. Contains ys j ↔ (Contains (take i xs) j ⊎ (j ≡ x))) (sym (take_more xs i x h)) (
  (λ c. ways (Contains-push_cases (take i xs) (get_or xs i x) j c)),
  back,
)
  where
    ways : Contains (take i xs) j ⊎ (get_or xs i x ≡ j) → Contains (take i xs) j ⊎ (j ≡ x)
    ways (inl c) = inl c
    ways (inr e) = inr (cc)

    back : Contains (take i xs) j ⊎ (j ≡ x) → Contains (take i xs ++ get_or xs i x ∷ []) j
    back (inl c) = Contains-append_left (take i xs) _ j c
    back (inr e) = subst (Contains (take i xs ++ get_or xs i x ∷ [])) (cc) (Contains-push (take i xs) (get_or xs i x))

-- one turn of the loop over the right
module _ (Old Now New : ℕ → ℕ → Type 0) (left : ℕ) (xs : List ℕ) (n x : ℕ) (within : n < length xs) (item : x ≡ get_or xs n x)
    (before : (i j : ℕ) → Now i j ↔ (Old i j ⊎ (i ≡ left) × Contains (take n xs) j)) (turn : (i j : ℕ) → New i j ↔ (Now i j ⊎ (i ≡ left) × (j ≡ x))) where
  pub each_more : (i j : ℕ) → New i j ↔ (Old i j ⊎ (i ≡ left) × Contains (take (n + 1) xs) j)
  each_more i j = ((λ h. there ((turn i j).0 h)), (λ h. (turn i j).1 (back h)))
    where
      there : Now i j ⊎ (i ≡ left) × (j ≡ x) → Old i j ⊎ (i ≡ left) × Contains (take (n + 1) xs) j
      there (inl h) = again ((before i j).0 h)
        where
          again : Old i j ⊎ (i ≡ left) × Contains (take n xs) j → Old i j ⊎ (i ≡ left) × Contains (take (n + 1) xs) j
          again (inl o) = inl o
          again (inr c) = inr (c.0, (contains_more xs n j x within item).1 (inl c.1))
      there (inr e) = inr (e.0, (contains_more xs n j x within item).1 (inr e.1))

      back : Old i j ⊎ (i ≡ left) × Contains (take (n + 1) xs) j → Now i j ⊎ (i ≡ left) × (j ≡ x)
      back (inl o) = inl ((before i j).1 (inl o))
      back (inr c) = split ((contains_more xs n j x within item).0 c.1)
        where
          split : Contains (take n xs) j ⊎ (j ≡ x) → Now i j ⊎ (i ≡ left) × (j ≡ x)
          split (inl d) = inl ((before i j).1 (inr (c.0, d)))
          split (inr e) = inr (c.0, e)

-- one turn of the loop over the left
module _ (Old Now New : ℕ → ℕ → Type 0) (Right : ℕ → Type 0) (xs : List ℕ) (n x : ℕ) (within : n < length xs) (item : x ≡ get_or xs n x)
    (before : (i j : ℕ) → Now i j ↔ (Old i j ⊎ Contains (take n xs) i × Right j)) (turn : (i j : ℕ) → New i j ↔ (Now i j ⊎ (i ≡ x) × Right j)) where
  pub all_more : (i j : ℕ) → New i j ↔ (Old i j ⊎ Contains (take (n + 1) xs) i × Right j)
  all_more i j = ((λ h. there ((turn i j).0 h)), (λ h. (turn i j).1 (back h)))
    where
      there : Now i j ⊎ (i ≡ x) × Right j → Old i j ⊎ Contains (take (n + 1) xs) i × Right j
      there (inl h) = again ((before i j).0 h)
        where
          again : Old i j ⊎ Contains (take n xs) i × Right j → Old i j ⊎ Contains (take (n + 1) xs) i × Right j
          again (inl o) = inl o
          again (inr c) = inr ((contains_more xs n i x within item).1 (inl c.0), c.1)
      there (inr e) = inr ((contains_more xs n i x within item).1 (inr e.0), e.1)

      back : Old i j ⊎ Contains (take (n + 1) xs) i × Right j → Now i j ⊎ (i ≡ x) × Right j
      back (inl o) = inl ((before i j).1 (inl o))
      back (inr c) = split ((contains_more xs n i x within item).0 c.0)
        where
          split : Contains (take n xs) i ⊎ (i ≡ x) → Now i j ⊎ (i ≡ x) × Right j
          split (inl d) = inl ((before i j).1 (inr (d, c.1)))
          split (inr e) = inr (e, c.1)

-- the loops at their ends
pub each_all : (Old Now : ℕ → ℕ → Type 0) (left : ℕ) (xs : List ℕ) (n : ℕ) → length xs ≤ n
    → ((i j : ℕ) → Now i j ↔ (Old i j ⊎ (i ≡ left) × Contains (take n xs) j)) → (i j : ℕ) → Now i j ↔ (Old i j ⊎ (i ≡ left) × Contains xs j)
each_all Old Now left xs n past h i j =
    subst (λ ys. Now i j ↔ (Old i j ⊎ (i ≡ left) × Contains ys j)) (take_all n xs past) (h i j)

pub all_all : (Old Now : ℕ → ℕ → Type 0) (Right : ℕ → Type 0) (xs : List ℕ) (n : ℕ) → length xs ≤ n
    → ((i j : ℕ) → Now i j ↔ (Old i j ⊎ Contains (take n xs) i × Right j)) → (i j : ℕ) → Now i j ↔ (Old i j ⊎ Contains xs i × Right j)
all_all Old Now Right xs n past h i j =
    subst (λ ys. Now i j ↔ (Old i j ⊎ Contains ys i × Right j)) (take_all n xs past) (h i j)
