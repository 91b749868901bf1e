-- An expression that is not too large as it is written is small as it is meant, and names what is declared.
use Rattle.std.proofs.Common.{◌≡◌, ℕ, ◌*◌, ◌^◌, ◌<◌, ◌≤◌, Bool, true, false, cond, List, [], ◌∷◌, ◌++◌, length, Some, None, inl, inr, refl, sym, ap, ◌∙◌, subst, arith}
use Rattle.std.specs.Prelude.{nat_lt, unwrap_or}
use Rattle.std.specs.List.{list_any, position_or_len}
use Rattle.std.specs.Str.{bytes_eq}
use Rattle.std.proofs.lemmas.Bool.{cases_Bool, or_parts, ltb-true, ltb-false, not-false}
use Rattle.std.proofs.lemmas.List.Folds.{list_any-append}
use Rattle.rbg_text.specs.Token.{Text}
use Rattle.rbg_text.specs.Syntax.{Expr, sum_of, plus, minus, Term, product_of, times, Factor, positive, negative, Atom, literal, parenthesized}
use Rattle.rbg_game.specs.Expressions.{size_of, HasSmallParts, NamesBelow}
use Rattle.rbg_read.specs.Means.{Names, values_of, index_of, expression, product_expression, factor_expression, atom_expression}
use Rattle.rbg_read.specs.Causes.{max_size, names_in, names_in_term, names_in_factor, names_in_atom, is_unknown, size, term_size, factor_size, atom_size, is_large, is_large_term, is_large_factor, is_large_atom}

-- ---- names that are declared have a place

some_of : {X : Type 0} (p : X → Bool) (xs : List X) → list_any p xs ≡ true → 0 < length xs
some_of p [] h = absurd (cc)
some_of p (x ∷ xs) h = omega arith

place_below : (k n : ℕ) → 0 < n → unwrap_or (cond (nat_lt k n) (Some k) None) 0 < n
place_below k n h = elim (cases_Bool (nat_lt k n)) [
  | inl is ↦ rw is (ltb-true k n is)
  | inr isnt ↦ rw isnt h
]

pub index_below : (names : List Text) (w : Text) → is_unknown names w ≡ false → index_of names w < length names
index_below names w h =
    place_below (position_or_len (bytes_eq w) names) (length names) (some_of (bytes_eq w) names (not-false (list_any (bytes_eq w) names) h))

-- no element of two joined lists passes the test
pub none_parts : {X : Type 0} (p : X → Bool) (xs ys : List X) → list_any p (xs ++ ys) ≡ false → (list_any p xs ≡ false) × (list_any p ys ≡ false)
none_parts p xs ys h = or_parts (list_any p xs) (list_any p ys) (sym (list_any-append p xs ys) ∙ h)

-- ---- expressions

within : (n : ℕ) → nat_lt max_size n ≡ false → n ≤ 2 ^ 62
within n h = ltb-false max_size n h

module _ (names : Names) (bounds : List ℕ) where
  mutual
    size_is : (e : Expr) → size_of bounds (expression names e) ≡ size (values_of names) bounds e
    size_is (sum_of t) = term_size_is t
    size_is (plus e t) = omega (arith, size_is e, term_size_is t)
    size_is (minus e t) = omega (arith, size_is e, term_size_is t)

    term_size_is : (t : Term) → size_of bounds (product_expression names t) ≡ term_size (values_of names) bounds t
    term_size_is (product_of f) = factor_size_is f
    term_size_is (times t f) =
        ap (λ n. n * size_of bounds (factor_expression names f)) (term_size_is t) ∙ ap (λ n. term_size (values_of names) bounds t * n) (factor_size_is f)

    factor_size_is : (f : Factor) → size_of bounds (factor_expression names f) ≡ factor_size (values_of names) bounds f
    factor_size_is (positive a) = atom_size_is a
    factor_size_is (negative a) = atom_size_is a

    atom_size_is : (a : Atom) → size_of bounds (atom_expression names a) ≡ atom_size (values_of names) bounds a
    atom_size_is (literal n) = refl
    atom_size_is (Atom.variable v) = refl
    atom_size_is (parenthesized e) = size_is e

  mutual
    pub small : (e : Expr) → is_large (values_of names) bounds e ≡ false → HasSmallParts bounds (expression names e)
    small (sum_of t) h = term_small t h
    small (plus e t) h =
        let p = or_parts _ _ h in
        let q = or_parts _ _ p.0 in
        (omega (arith, size_is e, term_size_is t, within _ p.1), small e q.0, term_small t q.1)
    small (minus e t) h =
        let p = or_parts _ _ h in
        let q = or_parts _ _ p.0 in
        (omega (arith, size_is e, term_size_is t, within _ p.1), small e q.0, term_small t q.1)

    term_small : (t : Term) → is_large_term (values_of names) bounds t ≡ false → HasSmallParts bounds (product_expression names t)
    term_small (product_of f) h = factor_small f h
    term_small (times t f) h =
        let p = or_parts _ _ h in
        let q = or_parts _ _ p.0 in
        (subst (λ n. n ≤ 2 ^ 62) (sym (term_size_is (times t f))) (within _ p.1), term_small t q.0, factor_small f q.1)

    factor_small : (f : Factor) → is_large_factor (values_of names) bounds f ≡ false → HasSmallParts bounds (factor_expression names f)
    factor_small (positive a) h = atom_small a h
    factor_small (negative a) h = atom_small a h

    atom_small : (a : Atom) → is_large_atom (values_of names) bounds a ≡ false → HasSmallParts bounds (atom_expression names a)
    atom_small (literal n) h = within _ h
    atom_small (Atom.variable v) h = within _ h
    atom_small (parenthesized e) h = small e h

  mutual
    pub named : (e : Expr) → list_any (is_unknown (values_of names)) (names_in e) ≡ false → NamesBelow (length (values_of names)) (expression names e)
    named (sum_of t) h = term_named t h
    named (plus e t) h = let p = none_parts (is_unknown (values_of names)) (names_in e) (names_in_term t) h in (named e p.0, term_named t p.1)
    named (minus e t) h = let p = none_parts (is_unknown (values_of names)) (names_in e) (names_in_term t) h in (named e p.0, term_named t p.1)

    term_named : (t : Term) → list_any (is_unknown (values_of names)) (names_in_term t) ≡ false
        → NamesBelow (length (values_of names)) (product_expression names t)
    term_named (product_of f) h = factor_named f h
    term_named (times t f) h = let p = none_parts (is_unknown (values_of names)) (names_in_term t) (names_in_factor f) h in
        (term_named t p.0, factor_named f p.1)

    factor_named : (f : Factor) → list_any (is_unknown (values_of names)) (names_in_factor f) ≡ false
        → NamesBelow (length (values_of names)) (factor_expression names f)
    factor_named (positive a) h = atom_named a h
    factor_named (negative a) h = atom_named a h

    atom_named : (a : Atom) → list_any (is_unknown (values_of names)) (names_in_atom a) ≡ false
        → NamesBelow (length (values_of names)) (atom_expression names a)
    atom_named (literal n) h = tt
    atom_named (Atom.variable v) h = index_below (values_of names) v (or_parts (is_unknown (values_of names) v) false h).0
    atom_named (parenthesized e) h = named e h
