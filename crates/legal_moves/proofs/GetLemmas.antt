-- Elements of lists by their places.
use Rattle.std.proofs.Common.{◌≡◌, ℕ, zero, suc, ◌<◌, ◌≤◌, ◌⊎◌, inl, inr, List, [], ◌∷◌, ◌++◌, length, take, Some, slice_get, refl, ap, arith}
use Rattle.std.specs.List.{AllZip}

pub slice_get-append : {A : Type 0} (xs ys : List A) (i : ℕ) (x : A) → slice_get xs i ≡ Some x → slice_get (xs ++ ys) i ≡ Some x
slice_get-append [] ys i x h = absurd (cc)
slice_get-append (y ∷ xs) ys zero x h = h
slice_get-append (y ∷ xs) ys (suc i) x h = slice_get-append xs ys i x h

pub slice_get-end : {A : Type 0} (xs : List A) (x : A) → slice_get (xs ++ x ∷ []) (length xs) ≡ Some x
slice_get-end [] x = refl
slice_get-end (y ∷ xs) x = slice_get-end xs x

-- an element of a list with one more is of the list, or the new one
pub slice_get-push : {A : Type 0} (xs : List A) (y : A) (i : ℕ) (x : A) → slice_get (xs ++ y ∷ []) i ≡ Some x
    → (slice_get xs i ≡ Some x) ⊎ (i ≡ length xs) × (x ≡ y)
slice_get-push [] y zero x h = inr (refl, cc)
slice_get-push [] y (suc i) x h = absurd (cc)
slice_get-push (z ∷ xs) y zero x h = inl h
slice_get-push (z ∷ xs) y (suc i) x h = go (slice_get-push xs y i x h)
  where
    go : (slice_get xs i ≡ Some x) ⊎ (i ≡ length xs) × (x ≡ y) → (slice_get xs i ≡ Some x) ⊎ (suc i ≡ suc (length xs)) × (x ≡ y)
    go (inl g) = inl g
    go (inr g) = inr (ap suc g.0, g.1)

pub slice_get-within : {A : Type 0} (xs : List A) (i : ℕ) (x : A) → slice_get xs i ≡ Some x → i < length xs
slice_get-within [] i x h = absurd (cc)
slice_get-within (y ∷ xs) zero x h = omega arith
slice_get-within (y ∷ xs) (suc i) x h = omega (arith, slice_get-within xs i x h)

pub take-push : {A : Type 0} (xs : List A) (y : A) (i : ℕ) → i ≤ length xs → take i (xs ++ y ∷ []) ≡ take i xs
take-push xs y zero h = refl
take-push [] y (suc i) h = absurd (omega (arith, h))
take-push (x ∷ xs) y (suc i) h = ap (λ zs. x ∷ zs) (take-push xs y i (omega (arith, h)))

pub take-all : {A : Type 0} (xs : List A) (y : A) → take (length xs) (xs ++ y ∷ []) ≡ xs
take-all [] y = refl
take-all (x ∷ xs) y = ap (λ zs. x ∷ zs) (take-all xs y)

pub all_zip-append : {A B : Type 0} (R : A → B → Type 0) (xs xs' : List A) (ys ys' : List B) → AllZip R xs ys → AllZip R xs' ys'
    → AllZip R (xs ++ xs') (ys ++ ys')
all_zip-append R [] xs' [] ys' h k = k
all_zip-append R [] xs' (y ∷ ys) ys' h k = absurd h
all_zip-append R (x ∷ xs) xs' [] ys' h k = absurd h
all_zip-append R (x ∷ xs) xs' (y ∷ ys) ys' h k = (h.0, all_zip-append R xs xs' ys ys' h.1 k)

pub all_zip-weaker : {A B : Type 0} (R S : A → B → Type 0) → ((x : A) (y : B) → R x y → S x y) → (xs : List A) (ys : List B) → AllZip R xs ys → AllZip S xs ys
all_zip-weaker R S f [] [] h = h
all_zip-weaker R S f [] (y ∷ ys) h = absurd h
all_zip-weaker R S f (x ∷ xs) [] h = absurd h
all_zip-weaker R S f (x ∷ xs) (y ∷ ys) h = (f x y h.0, all_zip-weaker R S f xs ys h.1)

pub slice_get-there : {A : Type 0} (xs : List A) (i : ℕ) → i < length xs → (x : A) × (slice_get xs i ≡ Some x)
slice_get-there [] i h = absurd (omega (arith, h))
slice_get-there (x ∷ xs) zero h = (x, refl)
slice_get-there (x ∷ xs) (suc i) h = slice_get-there xs i (omega (arith, h))
