-- Three bytes for a value.
use Rattle.std.proofs.Common.{◌≡◌, ℕ, zero, suc, ◌+◌, ◌*◌, ◌/◌, ◌%◌, ◌<◌, ◌≤◌, List, [], ◌∷◌, ◌++◌, length, get_or, refl, ap, sym, ◌∙◌, subst, below_more, arith}
use Rattle.std.specs.List.{flat_map}
use Rattle.std.specs.Int.{bytes_high_first}
use Rattle.std.proofs.lemmas.List.{get_or_push}
use Rattle.std.proofs.Math.ListN.{get_or-append}
use Rattle.std.proofs.lemmas.List.Concat.{flat_map-cons}

-- the number of the three bytes of the value k
abbrev pub three_at : List ℕ → ℕ → ℕ
three_at bs k = get_or bs (3 * k) 0 * 65536 + get_or bs (3 * k + 1) 0 * 256 + get_or bs (3 * k + 2) 0

abbrev pub spelled : List ℕ → List ℕ
spelled = flat_map (bytes_high_first 3)

pub spelled-cons : (v : ℕ) (vs : List ℕ) → spelled (v ∷ vs) ≡ v / 65536 % 256 ∷ v / 256 % 256 ∷ v % 256 ∷ spelled vs
spelled-cons v vs = flat_map-cons (bytes_high_first 3) v vs

-- what follows the first three bytes
next_three : (a b c : ℕ) (bs : List ℕ) (k : ℕ) → three_at (a ∷ b ∷ c ∷ bs) (suc k) ≡ three_at bs k
next_three a b c bs k =
    let high : 3 * suc k ≡ suc (suc (suc (3 * k))) = omega arith in
    let middle : 3 * suc k + 1 ≡ suc (suc (suc (3 * k + 1))) = omega arith in
    let low : 3 * suc k + 2 ≡ suc (suc (suc (3 * k + 2))) = omega arith in
    let f : ℕ → ℕ = λ n. get_or (a ∷ b ∷ c ∷ bs) n 0 in
    omega (arith, ap f high, ap f middle, ap f low)

-- a value's three bytes
one_value : (a b c v : ℕ) → a < 256 → b < 256 → c < 256 → v ≡ a * 65536 + b * 256 + c → (a ≡ v / 65536 % 256) × (b ≡ v / 256 % 256) × (c ≡ v % 256)
one_value a b c v ha hb hc e = (omega arith, omega arith, omega arith)

four : (a b c x y z : ℕ) (xs ys : List ℕ) → (a ≡ x) × (b ≡ y) × (c ≡ z) → xs ≡ ys → a ∷ b ∷ c ∷ xs ≡ x ∷ y ∷ z ∷ ys
four a b c x y z xs ys p e = rw (p.0, p.1, p.2, e) refl

-- the bytes of values, from the number of each three
pub spell : (vs bs : List ℕ) → length bs ≡ 3 * length vs → ((i : ℕ) → get_or bs i 0 < 256)
    → ((k : ℕ) → k < length vs → get_or vs k 0 ≡ three_at bs k) → bs ≡ spelled vs
spell [] [] e small same = refl
spell [] (b ∷ bs) e small same = absurd (omega (arith, e))
spell (v ∷ vs) [] e small same = absurd (omega (arith, e))
spell (v ∷ vs) (a ∷ []) e small same = absurd (omega (arith, e))
spell (v ∷ vs) (a ∷ b ∷ []) e small same = absurd (omega (arith, e))
spell (v ∷ vs) (a ∷ b ∷ c ∷ bs) e small same =
    let shorter : length bs ≡ 3 * length vs = omega (arith, e) in
    let tail : (k : ℕ) → k < length vs → get_or vs k 0 ≡ three_at bs k = λ k lt.
    (let here : suc k < length (v ∷ vs) = omega (arith, lt) in same (suc k) here ∙ next_three a b c bs k) in
    let rest : bs ≡ spelled vs = spell vs bs shorter (λ i. small (suc (suc (suc i)))) tail in
    four a b c _ _ _ bs (spelled vs) (one_value a b c v (small 0) (small 1) (small 2) (same 0 (omega arith))) rest ∙ sym (spelled-cons v vs)

one_at_most : (v : ℕ) → v / 65536 % 256 * 65536 + v / 256 % 256 * 256 + v % 256 ≤ v
one_at_most v = omega arith

spelled_at_most : (vs : List ℕ) (k : ℕ) → k < length vs → three_at (spelled vs) k ≤ get_or vs k 0
spelled_at_most [] k lt = absurd (omega (arith, lt))
spelled_at_most (v ∷ vs) zero lt = subst (λ bs. three_at bs 0 ≤ v) (sym (spelled-cons v vs)) (one_at_most v)
spelled_at_most (v ∷ vs) (suc k) lt =
    let rest : three_at (spelled vs) k ≤ get_or vs k 0 = spelled_at_most vs k (omega (arith, lt)) in
    let next = next_three (v / 65536 % 256) (v / 256 % 256) (v % 256) (spelled vs) k in
    subst (λ bs. three_at bs (suc k) ≤ get_or vs k 0) (sym (spelled-cons v vs)) (omega (arith, rest, next))

-- the number of three bytes is at most the value that they were made of
pub at_most : (vs bs : List ℕ) → bs ≡ spelled vs → (k : ℕ) → k < length vs → three_at bs k ≤ get_or vs k 0
at_most vs bs e k lt = subst (λ xs. three_at xs k ≤ get_or vs k 0) (sym e) (spelled_at_most vs k lt)

-- what holds of each value holds after one more, for which it holds
pub one_more : (P : ℕ → ℕ → Type 0) (xs : List ℕ) (v n : ℕ) (ys : List ℕ) → length xs ≡ n → ys ≡ xs ++ v ∷ [] → ((k : ℕ) → k < n → P k (get_or xs k 0)) → P n v
    → (k : ℕ) → k < n + 1 → P k (get_or ys k 0)
one_more P xs v n ys as_many is before here =
    below_more _ _ (λ k lt. subst (P k) (sym (ap (λ zs. get_or zs k 0) is ∙ get_or-append xs (v ∷ []) 0 k (omega (arith, lt, as_many)))) (before k lt))
    (subst (P n) (sym (ap (λ zs. get_or zs n 0) is ∙ get_or_push xs v 0 n as_many)) here)
