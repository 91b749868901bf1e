-- The listed first and last numbers are those with which words begin and end.
use Rattle.std.proofs.Common.{◌≡◌, ℕ, zero, suc, ◌+◌, ◌<◌, get_or, ◌⊎◌, inl, inr, ◌↔◌, Bool, true, false, cond, List, [], ◌∷◌, ◌++◌, Contains, refl, sym, arith}
use Rattle.std.proofs.lemmas.List.Elements.{Contains-append_left, Contains-append_right, Contains-append_cases}
use Rattle.rbg_game.specs.Rules.{Regex, one, empty, cat, alt, star, count}
use Rattle.legal_moves.specs.Glushkov.{is_nullable, IsFirst, IsLast}
use Rattle.legal_moves.specs.Tables.{first_of, last_of}

contains_none : (k : ℕ) → Contains [] k → ⊥
contains_none k h = omega (arith, h.1)

contains_one : (n k : ℕ) → Contains (n ∷ []) k ↔ (k ≡ n)
contains_one n k = ((λ h. at_place h.0 h.1 h.2), (λ e. (0, omega arith, sym e)))
  where
    at_place : (i : ℕ) → i < 1 → get_or (n ∷ []) i k ≡ k → k ≡ n
    at_place zero l e = sym e
    at_place (suc i) l e = absurd (omega arith)

contains_both : (xs ys : List ℕ) (k : ℕ) (P Q : Type 0) → Contains xs k ↔ P → Contains ys k ↔ Q → Contains (xs ++ ys) k ↔ (P ⊎ Q)
contains_both xs ys k P Q p q = ((λ h. there (Contains-append_cases xs ys k h)), back)
  where
    there : Contains xs k ⊎ Contains ys k → P ⊎ Q
    there (inl h) = inl (p.0 h)
    there (inr h) = inr (q.0 h)

    back : P ⊎ Q → Contains (xs ++ ys) k
    back (inl h) = Contains-append_left xs ys k (p.1 h)
    back (inr h) = Contains-append_right xs ys k (q.1 h)

-- what a test adds
first_and : (xs ys : List ℕ) (k : ℕ) (t : Bool) (P Q : Type 0) → Contains xs k ↔ P → Contains ys k ↔ Q
    → Contains (cond t (xs ++ ys) xs) k ↔ (P ⊎ (t ≡ true) × Q)
first_and xs ys k true P Q p q = let b = contains_both xs ys k P Q p q in ((λ h. there (b.0 h)), (λ h. b.1 (back h)))
  where
    there : P ⊎ Q → P ⊎ (true ≡ true) × Q
    there (inl h) = inl h
    there (inr h) = inr (refl, h)

    back : P ⊎ (true ≡ true) × Q → P ⊎ Q
    back (inl h) = inl h
    back (inr h) = inr h.1
first_and xs ys k false P Q p q = ((λ h. inl (p.0 h)), (λ h. back h))
  where
    back : P ⊎ (false ≡ true) × Q → Contains xs k
    back (inl h) = p.1 h
    back (inr h) = let never : false ≡ true = h.0 in absurd (cc)

last_and : (xs ys : List ℕ) (k : ℕ) (t : Bool) (P Q : Type 0) → Contains xs k ↔ P → Contains ys k ↔ Q → Contains (cond t (xs ++ ys) ys) k ↔ (Q ⊎ (t ≡ true) × P)
last_and xs ys k true P Q p q = let b = contains_both xs ys k P Q p q in ((λ h. there (b.0 h)), (λ h. b.1 (back h)))
  where
    there : P ⊎ Q → Q ⊎ (true ≡ true) × P
    there (inl h) = inr (refl, h)
    there (inr h) = inl h

    back : Q ⊎ (true ≡ true) × P → P ⊎ Q
    back (inl h) = inr h
    back (inr h) = inl h.1
last_and xs ys k false P Q p q = ((λ h. inl (q.0 h)), (λ h. back h))
  where
    back : Q ⊎ (false ≡ true) × P → Contains ys k
    back (inl h) = q.1 h
    back (inr h) = let never : false ≡ true = h.0 in absurd (cc)

pub contains_first : (e : Regex) (n k : ℕ) → Contains (first_of e n) k ↔ IsFirst e n k
contains_first (one a) n k = contains_one n k
contains_first empty n k = (contains_none k, (λ h. absurd h))
contains_first (cat a b) n k = first_and (first_of a n) (first_of b (n + count a)) k (is_nullable a) (IsFirst a n k)
    (IsFirst b (n + count a) k) (contains_first a n k) (contains_first b (n + count a) k)
contains_first (alt a b) n k = contains_both (first_of a n) (first_of b (n + count a)) k (IsFirst a n k) (IsFirst b (n + count a) k)
    (contains_first a n k) (contains_first b (n + count a) k)
contains_first (star a) n k = contains_first a n k

pub contains_last : (e : Regex) (n k : ℕ) → Contains (last_of e n) k ↔ IsLast e n k
contains_last (one a) n k = contains_one n k
contains_last empty n k = (contains_none k, (λ h. absurd h))
contains_last (cat a b) n k = last_and (last_of a n) (last_of b (n + count a)) k (is_nullable b) (IsLast a n k) (IsLast b (n + count a) k)
    (contains_last a n k) (contains_last b (n + count a) k)
contains_last (alt a b) n k = contains_both (last_of a n) (last_of b (n + count a)) k (IsLast a n k) (IsLast b (n + count a) k)
    (contains_last a n k) (contains_last b (n + count a) k)
contains_last (star a) n k = contains_last a n k
