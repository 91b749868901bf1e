-- Values are no larger than sizes, and a prefix of a sum or a product is a part of it.
use Rattle.std.proofs.Common.{◌≡◌, ℕ, zero, suc, Bool, true, false, cond, ltb, ◌-◌, ◌+◌, ◌*◌, ◌^◌, ◌<◌, ◌≤◌, List, [], ◌∷◌, take, length, get_or, map, fold, refl, sym, ap, ◌∙◌, subst, arith, ℤ, pos, negsuc, neg_ℤ, ◌+ℤ◌, ◌*ℤ◌, ◌-ℤ◌, FitsSigned, w64, to_z, of_z}
use Rattle.std.proofs.Math.Nat.{mul-le-mul}
use Rattle.std.proofs.lemmas.Int.{ints, unsigned_abs-mul, fits_signed_from_abs, to_z-of_z}
use Rattle.std.proofs.lemmas.List.{get_or-map, length-map}
use Rattle.rbg_game.specs.Meaning.{expression_of}
use Rattle.rbg_game.specs.declared.rules.Expr.{Expr}
use Rattle.std.proofs.lemmas.List.Sums.{fold_more}
use Rattle.std.specs.Prelude.{unsigned_abs}
use Rattle.rbg_game.specs.Expressions.{Expression, number, variable, negation, sum, product, sum_all, product_all, value_of, size_of, HasSmallParts, NamesBelow}

abs_neg : (x : ℤ) → unsigned_abs (neg_ℤ x) ≡ unsigned_abs x
abs_neg (pos zero) = refl
abs_neg (pos (suc n)) = refl
abs_neg (negsuc n) = refl

abs_sub : (t : Bool) (a b : ℕ) → unsigned_abs (cond t (negsuc (suc b - suc a)) (pos (a - suc b))) ≤ a + suc b
abs_sub true a b = omega arith
abs_sub false a b = omega arith

abs_add : (x y : ℤ) → unsigned_abs (x +ℤ y) ≤ unsigned_abs x + unsigned_abs y
abs_add (pos a) (pos b) = omega arith
abs_add (pos a) (negsuc b) = abs_sub (ltb a (suc b)) a b
abs_add (negsuc a) (pos b) = let h : unsigned_abs (negsuc a +ℤ pos b) ≤ b + suc a = abs_sub (ltb b (suc a)) b a in omega arith
abs_add (negsuc a) (negsuc b) = omega arith

pub value_within : (values : List ℕ) (e : Expression) → unsigned_abs (value_of values e) ≤ size_of values e
value_within values (number n) = omega arith
value_within values (variable v) = omega arith
value_within values (negation a) = omega (arith, abs_neg (value_of values a), value_within values a)
value_within values (sum a b) = omega (arith, abs_add (value_of values a) (value_of values b), value_within values a, value_within values b)
value_within values (product a b) =
    omega (arith, unsigned_abs-mul (value_of values a) (value_of values b), mul-le-mul (value_within values a) (value_within values b))

pub size_small : (values : List ℕ) (e : Expression) → HasSmallParts values e → size_of values e ≤ 2 ^ 62
size_small values (number n) h = h
size_small values (variable v) h = h
size_small values (negation a) h = size_small values a h
size_small values (sum a b) h = h.0
size_small values (product a b) h = h.0

-- a small expression's value fits
pub value_fits : (values : List ℕ) (e : Expression) → HasSmallParts values e → FitsSigned w64 (value_of values e)
value_fits values e h = fits_signed_from_abs w64 (value_of values e) (omega (arith, value_within values e, size_small values e h))

-- what holds of a fold and passes to first parts holds where the fold began
fold_start : {A : Type 0} (P : A → Type 0) (f : A → A → A) → ((x y : A) → P (f x y) → P x) → (a : A) (xs : List A) → P (fold f a xs) → P a
fold_start P f first a [] h = h
fold_start P f first a (x ∷ xs) h = first a x (fold_start P f first (f a x) xs h)

-- and of each beginning of it
pub fold_prefix : {A : Type 0} (P : A → Type 0) (f : A → A → A) → ((x y : A) → P (f x y) → P x) → (a : A) (xs : List A) (i : ℕ)
    → P (fold f a xs) → P (fold f a (take i xs))
fold_prefix P f first a [] zero h = h
fold_prefix P f first a [] (suc i) h = h
fold_prefix P f first a (x ∷ xs) zero h = fold_start P f first a (x ∷ xs) h
fold_prefix P f first a (x ∷ xs) (suc i) h = fold_prefix P f first (f a x) xs i h

-- and of the last step of each
pub fold_part : {A : Type 0} (P : A → Type 0) (f : A → A → A) → ((x y : A) → P (f x y) → P x) → (a : A) (xs : List A) (i : ℕ) (d : A)
    → i < length xs → P (fold f a xs) → P (f (fold f a (take i xs)) (get_or xs i d))
fold_part P f first a xs i d h p = subst P (fold_more f a xs i d h) (fold_prefix P f first a xs (i + 1) p)

-- the item of a loop over the parts
pub item_part : (P : Expression → Type 0) (f : Expression → Expression → Expression) → ((a b : Expression) → P (f a b) → P a)
    → (a : Expression) (items : List Expr) (i : ℕ) (x : Expr) → i < length items → x ≡ get_or items i x
    → P (fold f a (map expression_of items)) → P (f (fold f a (take i (map expression_of items))) (expression_of x))
item_part P f first a items i x h e p =
    let part = fold_part P f first a (map expression_of items) i (expression_of x) (omega (arith, length-map items expression_of)) p in
    let same : get_or (map expression_of items) i (expression_of x) ≡ expression_of x = get_or-map expression_of items i x
    (expression_of x) h ∙ ap expression_of (sym e) in
    subst (λ y. P (f (fold f a (take i (map expression_of items))) y)) same part

item_more : (f : Expression → Expression → Expression) (a : Expression) (items : List Expr) (i : ℕ) (x : Expr) → i < length items
    → x ≡ get_or items i x → fold f a (take (i + 1) (map expression_of items)) ≡ f (fold f a (take i (map expression_of items))) (expression_of x)
item_more f a items i x h e =
    let same : get_or (map expression_of items) i (expression_of x) ≡ expression_of x = get_or-map expression_of items i x
    (expression_of x) h ∙ ap expression_of (sym e) in
    fold_more f a (map expression_of items) i (expression_of x) (omega (arith, length-map items expression_of))
    ∙ ap (f (fold f a (take i (map expression_of items)))) same

-- one turn of a loop that folds the values of the parts by an operation of ℤ
module _ (values : List ℕ) (f : Expression → Expression → Expression) (op : ℤ → ℤ → ℤ)
    (is : (a b : Expression) → value_of values (f a b) ≡ op (value_of values a) (value_of values b))
    (first : (a b : Expression) → HasSmallParts values (f a b) → HasSmallParts values a)
    (second : (a b : Expression) → HasSmallParts values (f a b) → HasSmallParts values b) (start : Expression) (items : List Expr) (i : ℕ)
    (x : Expr) (total r : ℤ) (within : i < length items) (item : x ≡ get_or items i x)
    (small : HasSmallParts values (fold f start (map expression_of items)))
    (invariant : total ≡ value_of values (fold f start (take i (map expression_of items)))) (part_is : r ≡ value_of values (expression_of x)) where
  part : HasSmallParts values (f (fold f start (take i (map expression_of items))) (expression_of x))
  part = item_part (HasSmallParts values) f first start items i x within item small

  pub part_small : HasSmallParts values (expression_of x)
  part_small = second _ _ part

  -- the sum or product before it is stored
  next_is : op total (to_z w64 (of_z w64 r)) ≡ value_of values (f (fold f start (take i (map expression_of items))) (expression_of x))
  next_is =
      let fits : FitsSigned w64 r = subst (FitsSigned w64) (sym part_is) (value_fits values (expression_of x) part_small) in
      ap (op total) (to_z-of_z w64 r fits ∙ part_is) ∙ ap (λ z. op z (value_of values (expression_of x))) invariant ∙ sym (is _ _)

  pub turn_fits : FitsSigned w64 (op total (to_z w64 (of_z w64 r)))
  turn_fits = subst (FitsSigned w64) (sym next_is) (value_fits values (f (fold f start (take i (map expression_of items))) (expression_of x)) part)

  pub turn_is : to_z w64 (of_z w64 (op total (to_z w64 (of_z w64 r)))) ≡ value_of values (fold f start (take (i + 1) (map expression_of items)))
  turn_is = to_z-of_z w64 _ turn_fits ∙ next_is ∙ ap (value_of values) (sym (item_more f start items i x within item))

-- a negation
neg_is : (x : ℤ) → pos 0 -ℤ x ≡ neg_ℤ x
neg_is (pos zero) = refl
neg_is (pos (suc n)) = omega (arith, ints)
neg_is (negsuc n) = omega (arith, ints)

module _ (values : List ℕ) (e : Expression) (x : ℤ) (small : HasSmallParts values e) (x_is : x ≡ value_of values e) where
  fits_x : FitsSigned w64 x
  fits_x = subst (FitsSigned w64) (sym x_is) (value_fits values e small)

  minus_is : pos 0 -ℤ to_z w64 (of_z w64 x) ≡ value_of values (negation e)
  minus_is = ap (λ z. pos 0 -ℤ z) (to_z-of_z w64 x fits_x ∙ x_is) ∙ neg_is (value_of values e)

  pub minus_fits : FitsSigned w64 (pos 0 -ℤ to_z w64 (of_z w64 x))
  minus_fits = subst (FitsSigned w64) (sym minus_is) (value_fits values (negation e) small)

  pub minus_value : to_z w64 (of_z w64 (pos 0 -ℤ to_z w64 (of_z w64 x))) ≡ value_of values (negation e)
  minus_value = to_z-of_z w64 _ minus_fits ∙ minus_is

-- ---- a sum may as well begin with 0, and a product with 1

zero_and : (x : ℤ) → pos 0 +ℤ x ≡ x
zero_and x = omega (arith, ints)

one_by : (x : ℤ) → pos 1 *ℤ x ≡ x
one_by x = omega (arith, ints)

pub sum_value : (values : List ℕ) (xs : List Expression) → value_of values (fold sum (number 0) xs) ≡ value_of values (sum_all xs)
sum_value values [] = refl
sum_value values (a ∷ xs) = along (sum (number 0) a) a xs (zero_and (value_of values a))
  where
    along : (b a : Expression) (xs : List Expression) → value_of values b ≡ value_of values a
        → value_of values (fold sum b xs) ≡ value_of values (fold sum a xs)
    along b a [] e = e
    along b a (x ∷ xs) e = along (sum b x) (sum a x) xs (ap (λ z. z +ℤ value_of values x) e)

pub product_value : (values : List ℕ) (xs : List Expression) → value_of values (fold product (number 1) xs) ≡ value_of values (product_all xs)
product_value values [] = refl
product_value values (a ∷ xs) = along (product (number 1) a) a xs (one_by (value_of values a))
  where
    along : (b a : Expression) (xs : List Expression) → value_of values b ≡ value_of values a
        → value_of values (fold product b xs) ≡ value_of values (fold product a xs)
    along b a [] e = e
    along b a (x ∷ xs) e = along (product b x) (product a x) xs (ap (λ z. z *ℤ value_of values x) e)

pub sum_small : (values : List ℕ) (xs : List Expression) → HasSmallParts values (sum_all xs) → HasSmallParts values (fold sum (number 0) xs)
sum_small values [] h = h
sum_small values (a ∷ xs) h = along (sum (number 0) a) a xs (omega arith) (λ p. (omega (arith, size_small values a p), omega arith, p)) h
  where
    along : (b a : Expression) (xs : List Expression) → size_of values b ≡ size_of values a
        → (HasSmallParts values a → HasSmallParts values b) → HasSmallParts values (fold sum a xs) → HasSmallParts values (fold sum b xs)
    along b a [] e f h = f h
    along b a (x ∷ xs) e f h = along (sum b x) (sum a x) xs (ap (λ n. n + size_of values x) e)
        (λ p. (subst (λ n. n + size_of values x ≤ 2 ^ 62) (sym e) p.0, f p.1, p.2)) h

pub product_small : (values : List ℕ) (xs : List Expression) → HasSmallParts values (product_all xs) → HasSmallParts values (fold product (number 1) xs)
product_small values [] h = h
product_small values (a ∷ xs) h = along (product (number 1) a) a xs (omega arith) (λ p. (omega (arith, size_small values a p), omega arith, p)) h
  where
    along : (b a : Expression) (xs : List Expression) → size_of values b ≡ size_of values a
        → (HasSmallParts values a → HasSmallParts values b) → HasSmallParts values (fold product a xs) → HasSmallParts values (fold product b xs)
    along b a [] e f h = f h
    along b a (x ∷ xs) e f h = along (product b x) (product a x) xs (ap (λ n. n * size_of values x) e)
        (λ p. (subst (λ n. n * size_of values x ≤ 2 ^ 62) (sym e) p.0, f p.1, p.2)) h

pub sum_named : (n : ℕ) (xs : List Expression) → NamesBelow n (sum_all xs) → NamesBelow n (fold sum (number 0) xs)
sum_named n [] h = h
sum_named n (a ∷ xs) h = along (sum (number 0) a) a xs (λ p. (tt, p)) h
  where
    along : (b a : Expression) (xs : List Expression) → (NamesBelow n a → NamesBelow n b) → NamesBelow n (fold sum a xs) → NamesBelow n (fold sum b xs)
    along b a [] f h = f h
    along b a (x ∷ xs) f h = along (sum b x) (sum a x) xs (λ p. (f p.0, p.1)) h

pub product_named : (n : ℕ) (xs : List Expression) → NamesBelow n (product_all xs) → NamesBelow n (fold product (number 1) xs)
product_named n [] h = h
product_named n (a ∷ xs) h = along (product (number 1) a) a xs (λ p. (tt, p)) h
  where
    along : (b a : Expression) (xs : List Expression) → (NamesBelow n a → NamesBelow n b) → NamesBelow n (fold product a xs) → NamesBelow n (fold product b xs)
    along b a [] f h = f h
    along b a (x ∷ xs) f h = along (product b x) (product a x) xs (λ p. (f p.0, p.1)) h
