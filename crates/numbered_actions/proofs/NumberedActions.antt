-- The actions of an expression in a list, and by their numbers.
use Rattle.std.proofs.Common.{◌≡◌, ℕ, zero, suc, ◌+◌, ◌≤◌, ◌==◌, ◌⊎◌, inl, inr, Bool, true, false, cond, List, [], ◌∷◌, ◌++◌, length}
use Rattle.std.proofs.Common.{slice_get, Option, Some, None, refl, ap, subst, ◌∙◌, arith, length-append}
use Rattle.std.specs.List.{AllZip}
use Rattle.std.specs.Option.{option_or}
use Rattle.std.proofs.lemmas.Bool.{eq-eqb, eqb-true}
use Rattle.rbg_game.specs.Rules.{Regex, one, empty, cat, alt, star, count, Action, action_at}

-- the actions of an expression, in the order of their numbers
abbrev pub actions_of : Regex → List Action
actions_of (one a) = a ∷ []
actions_of empty = []
actions_of (cat a b) = actions_of a ++ actions_of b
actions_of (alt a b) = actions_of a ++ actions_of b
actions_of (star a) = actions_of a

pub length_actions : (e : Regex) → length (actions_of e) ≡ count e
length_actions (one a) = refl
length_actions empty = refl
length_actions (cat a b) = omega (arith, length-append (actions_of a) (actions_of b), length_actions a, length_actions b)
length_actions (alt a b) = omega (arith, length-append (actions_of a) (actions_of b), length_actions a, length_actions b)
length_actions (star a) = length_actions a

-- no action has a number after the last
none_behind : (e : Regex) (n k : ℕ) → n + count e ≤ k → action_at e n k ≡ None
none_behind (one a) n k above = go (k == n) refl
  where
    go : (t : Bool) → k == n ≡ t → cond t (Some a) None ≡ None
    go true is = absurd (omega (arith, above, eqb-true k n is))
    go false is = refl
none_behind empty n k above = refl
none_behind (cat a b) n k above = rw (none_behind a n k (omega (arith, above))) (none_behind b (n + count a) k (omega (arith, above)))
none_behind (alt a b) n k above = rw (none_behind a n k (omega (arith, above))) (none_behind b (n + count a) k (omega (arith, above)))
none_behind (star a) n k above = none_behind a n k above

in_either : {A : Type 0} (xs ys : List A) (k : ℕ) (x : A) → slice_get (xs ++ ys) k ≡ Some x
    → (slice_get xs k ≡ Some x) ⊎ ((j : ℕ) × (k ≡ length xs + j) × (slice_get ys j ≡ Some x))
in_either [] ys k x h = inr (k, omega arith, h)
in_either (y ∷ xs) ys zero x h = inl h
in_either (y ∷ xs) ys (suc k) x h = go (in_either xs ys k x h)
  where
    go : (slice_get xs k ≡ Some x) ⊎ ((j : ℕ) × (k ≡ length xs + j) × (slice_get ys j ≡ Some x))
        → (slice_get xs k ≡ Some x) ⊎ ((j : ℕ) × (suc k ≡ suc (length xs) + j) × (slice_get ys j ≡ Some x))
    go (inl g) = inl g
    go (inr g) = inr (g.0, omega (arith, g.1), g.2)

first_of : (x y : Option Action) (a : Action) → x ≡ Some a → option_or x y ≡ Some a
first_of None y a e = absurd (cc)
first_of (Some b) y a e = e

both_by_list : (b c : Regex) (n k : ℕ) (a : Action) → ((m j : ℕ) → slice_get (actions_of b) j ≡ Some a → action_at b m (m + j) ≡ Some a)
    → ((m j : ℕ) → slice_get (actions_of c) j ≡ Some a → action_at c m (m + j) ≡ Some a) → slice_get (actions_of b ++ actions_of c) k ≡ Some a
    → option_or (action_at b n (n + k)) (action_at c (n + count b) (n + k)) ≡ Some a
both_by_list b c n k a left right h = go (in_either (actions_of b) (actions_of c) k a h)
  where
    go : (slice_get (actions_of b) k ≡ Some a) ⊎ ((j : ℕ) × (k ≡ length (actions_of b) + j) × (slice_get (actions_of c) j ≡ Some a))
        → option_or (action_at b n (n + k)) (action_at c (n + count b) (n + k)) ≡ Some a
    go (inl g) = first_of _ _ a (left n k g)
    go (inr g) =
        let size = length_actions b in
        let there : (n + count b) + g.0 ≡ n + k = omega (arith, g.1) in
        let second = subst (λ m. action_at c (n + count b) m ≡ Some a) there (right (n + count b) g.0 g.2) in
        ap (λ x. option_or x (action_at c (n + count b) (n + k))) (none_behind b n (n + k) (omega (arith, there))) ∙ second

pub by_list : (e : Regex) (a : Action) (n k : ℕ) → slice_get (actions_of e) k ≡ Some a → action_at e n (n + k) ≡ Some a
by_list (one b) a n zero h = ap (λ t. cond t (Some b) None) (eq-eqb (n + 0) n (omega arith)) ∙ h
by_list (one b) a n (suc k) h = absurd (cc)
by_list empty a n k h = absurd (cc)
by_list (cat b c) a n k h = both_by_list b c n k a (by_list b a) (by_list c a) h
by_list (alt b c) a n k h = both_by_list b c n k a (by_list b a) (by_list c a) h
by_list (star b) a n k h = by_list b a n k h

pub length_zip : {A B : Type 0} (R : A → B → Type 0) (xs : List A) (ys : List B) → AllZip R xs ys → length xs ≡ length ys
length_zip R [] [] h = refl
length_zip R [] (y ∷ ys) h = absurd h
length_zip R (x ∷ xs) [] h = absurd h
length_zip R (x ∷ xs) (y ∷ ys) h = ap suc (length_zip R xs ys h.1)

pub zip_at : {A B : Type 0} (R : A → B → Type 0) (xs : List A) (ys : List B) → AllZip R xs ys → (k : ℕ) (x : A) → slice_get xs k ≡ Some x
    → (y : B) × (slice_get ys k ≡ Some y) × R x y
zip_at R [] ys h k x at = absurd (cc)
zip_at R (z ∷ xs) [] h k x at = absurd h
zip_at R (z ∷ xs) (y ∷ ys) h zero x at = let same : z ≡ x = cc in (y, refl, subst (λ w. R w y) same h.0)
zip_at R (z ∷ xs) (y ∷ ys) h (suc k) x at = zip_at R xs ys h.1 k x at
