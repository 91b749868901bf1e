-- Lists in which one element is another, or that have one more.
use Rattle.std.proofs.Common.{◌≡◌, ◌⊎◌, inl, inr, ⊎_elim, ℕ, zero, suc, ◌+◌, ◌^◌, ◌≤◌, Bool, true, false, cond, List, [], ◌∷◌, ◌++◌, length}
use Rattle.std.proofs.Common.{set, zip, Some, refl, sym, ◌∙◌, ap, arith}
use Rattle.std.specs.Prelude.{slice_get, count_by}
use Rattle.std.proofs.lemmas.Option.{same_Some, slice_get_within, get_or_from_slice_get}
use Rattle.std.proofs.lemmas.List.Sums.{sum_by-set, sum_by-append, sum_by-cons, count_by-le-length}
use Rattle.retrograde.specs.declared.records.Record.{Record}
use Rattle.tree_table.specs.lemmas.Slots.{recounted}

-- what is at a place once an element is another
pub set_cases : {A : Type 0} (xs : List A) (i : ℕ) (y : A) (j : ℕ) (x : A) → slice_get (set xs i y) j ≡ Some x
    → ((j ≡ i) × (y ≡ x)) ⊎ ((j ≡ i → ⊥) × (slice_get xs j ≡ Some x))
set_cases [] i y j x is = absurd (cc)
set_cases (z ∷ xs) zero y zero x is = inl (refl, same_Some y x is)
set_cases (z ∷ xs) zero y (suc j) x is = inr (λ e. omega (arith, e), is)
set_cases (z ∷ xs) (suc i) y zero x is = inr (λ e. omega (arith, e), is)
set_cases (z ∷ xs) (suc i) y (suc j) x is =
    ⊎_elim (λ (at, same). inl (ap (λ (n : ℕ). suc n) at, same)) (λ (other, there). inr (λ e. other (omega (arith, e)), there)) (set_cases xs
    i y j x is)

-- what is at a place once there is one element more
pub push_cases : {A : Type 0} (xs : List A) (y : A) (i : ℕ) (x : A) → slice_get (xs ++ y ∷ []) i ≡ Some x
    → (slice_get xs i ≡ Some x) ⊎ ((i ≡ length xs) × (y ≡ x))
push_cases [] y zero x e = inr (refl, same_Some y x e)
push_cases [] y (suc i) x e = absurd (cc)
push_cases (z ∷ xs) y zero x e = inl e
push_cases (z ∷ xs) y (suc i) x e = ⊎_elim (λ before. inl before) (λ (at, is). inr (ap (λ (n : ℕ). suc n) at, is)) (push_cases xs y i x e)

-- what was there still is, and the new one is last
pub push_keeps : {A : Type 0} (xs : List A) (y : A) (i : ℕ) (x : A) → slice_get xs i ≡ Some x → slice_get (xs ++ y ∷ []) i ≡ Some x
push_keeps [] y i x e = absurd (cc)
push_keeps (z ∷ xs) y zero x e = e
push_keeps (z ∷ xs) y (suc i) x e = push_keeps xs y i x e

pub push_last : {A : Type 0} (xs : List A) (y : A) → slice_get (xs ++ y ∷ []) (length xs) ≡ Some y
push_last [] y = refl
push_last (z ∷ xs) y = push_last xs y

pub push_long : {A : Type 0} (xs : List A) (y : A) → length (xs ++ y ∷ []) ≡ length xs + 1
push_long [] y = refl
push_long (z ∷ xs) y = let rest : length (xs ++ y ∷ []) ≡ length xs + 1 = push_long xs y in omega (arith, rest)

-- pairs
pub zip_push : {A B : Type 0} (xs : List A) (ys : List B) (x : A) (y : B) → length ys ≡ length xs
    → zip (xs ++ x ∷ []) (ys ++ y ∷ []) ≡ zip xs ys ++ (x, y) ∷ []
zip_push [] [] x y same = refl
zip_push [] (w ∷ ys) x y same = absurd (cc)
zip_push (z ∷ xs) [] x y same = absurd (cc)
zip_push {A} {B} (z ∷ xs) (w ∷ ys) x y same = ap (λ (l : List (A × B)). (z, w) ∷ l) (zip_push xs ys x y (omega (arith, same)))

pub zip_long : {A B : Type 0} (xs : List A) (ys : List B) → length ys ≡ length xs → length (zip xs ys) ≡ length xs
zip_long [] [] same = refl
zip_long [] (w ∷ ys) same = absurd (cc)
zip_long (z ∷ xs) [] same = absurd (cc)
zip_long (z ∷ xs) (w ∷ ys) same = let rest : length (zip xs ys) ≡ length xs = zip_long xs ys (omega (arith, same)) in omega (arith, rest)

pub zip_got : {A B : Type 0} (xs : List A) (ys : List B) (i : ℕ) (x : A) (y : B) → slice_get xs i ≡ Some x → slice_get ys i ≡ Some y
    → slice_get (zip xs ys) i ≡ Some (x, y)
zip_got [] ys i x y one two = absurd (cc)
zip_got (z ∷ xs) [] i x y one two = absurd (cc)
zip_got {A} {B} (z ∷ xs) (w ∷ ys) zero x y one two = λ i. Some (same_Some z x one i, same_Some w y two i)
zip_got (z ∷ xs) (w ∷ ys) (suc i) x y one two = zip_got xs ys i x y one two

pub zip_set : {A B : Type 0} (xs : List A) (ys : List B) (i : ℕ) (x : A) (y : B) → slice_get xs i ≡ Some x
    → zip xs (set ys i y) ≡ set (zip xs ys) i (x, y)
zip_set [] ys i x y is = absurd (cc)
zip_set (z ∷ xs) [] i x y is = refl
zip_set {A} {B} (z ∷ xs) (w ∷ ys) zero x y is = λ i. (same_Some z x is i, y) ∷ zip xs ys
zip_set {A} {B} (z ∷ xs) (w ∷ ys) (suc i) x y is = ap (λ (l : List (A × B)). (z, w) ∷ l) (zip_set xs ys i x y is)

-- lists with the same at each place
pub same_list : {A : Type 0} (xs ys : List A) → length xs ≡ length ys → ((i : ℕ) (x : A) → slice_get xs i ≡ Some x
    → slice_get ys i ≡ Some x) → xs ≡ ys
same_list [] [] long same = refl
same_list [] (y ∷ ys) long same = absurd (cc)
same_list (x ∷ xs) [] long same = absurd (cc)
same_list (x ∷ xs) (y ∷ ys) long same =
    let first : y ≡ x = same_Some y x (same 0 x refl) in
    λ i. sym first i ∷ same_list xs ys (omega (arith, long)) (λ k z is. same (suc k) z is) i

-- how many pass a test once one record is another
pub count_set : (test : Record → Bool) (xs : List Record) (i : ℕ) (x y : Record) → slice_get xs i ≡ Some x
    → count_by test (set xs i y) + cond (test x) 1 0 ≡ count_by test xs + cond (test y) 1 0
count_set test xs i x y is =
    ap (λ (r : Record). count_by test (set xs i y) + cond (test r) 1 0) (sym (get_or_from_slice_get xs i x x is))
    ∙ sum_by-set (λ r. cond (test r) 1 0) xs i y x (slice_get_within xs i x is)

-- one more that fails
pub count_push : (test : Record → Bool) (xs : List Record) (y : Record) → test y ≡ false → count_by test (xs ++ y ∷ []) ≡ count_by test xs
count_push test xs y fails =
    let total : count_by test (xs ++ y ∷ []) ≡ count_by test xs + count_by test (y ∷ []) = sum_by-append (λ z. cond (test z) 1 0) xs (y ∷
    []) in
    let one : count_by test (y ∷ []) ≡ cond (test y) 1 0 + 0 = sum_by-cons (λ z. cond (test z) 1 0) y [] in
    let none : ◌≡◌ {A = ℕ} (cond (test y) 1 0) 0 = ap (λ (b : Bool). cond b 1 0) fails in
    omega (arith, total, one, none)

-- the count of those that pass, as it is kept
recount : (count now : ℕ) (was is : Bool) → now + cond was 1 0 ≡ count + cond is 1 0 → count ≤ 2 ^ 24 → recounted count was is ≡ now
recount count now true true same few = omega (arith, same)
recount count now true false same few = omega (arith, same)
recount count now false true same few = omega (arith, same, few)
recount count now false false same few = omega (arith, same)

pub recounted_is : (test : Record → Bool) (xs : List Record) (i : ℕ) (x y : Record) → slice_get xs i ≡ Some x → length xs ≤ 2 ^ 24
    → recounted (count_by test xs) (test x) (test y) ≡ count_by test (set xs i y)
recounted_is test xs i x y is few =
    recount (count_by test xs) (count_by test (set xs i y)) (test x) (test y) (count_set test xs i x y is) (omega (
      arith,
      few,
      count_by-le-length test xs,
    ))
