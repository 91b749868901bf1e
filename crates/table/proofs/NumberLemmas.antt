-- The map from positions to their numbers.
use Rattle.std.proofs.Common.{◌≡◌, ◌<◌, ◌∙◌, sym, ap, subst, ℕ, ◌⊎◌, inl, inr, Bool, true, false, cond, refl, List, [], ◌∷◌, ◌++◌, length, Option, Some, None, IfSome, IfNone, slice_get}
use Rattle.std.specs.Option.{option_map}
use Rattle.std.specs.HashMap.{HashMap, get, Updates}
use Rattle.std.proofs.lemmas.Slice.Eq.{bytes_eq-Decides}
use Rattle.std.proofs.lemmas.Option.{slice_get-map, same_Some, slice_get_within}
use Rattle.arrayvec.specs.ArrayVec.{ArrayVec}
use Rattle.retrograde.proofs.Additions.{push_before, push_at, push_cases}
use Rattle.table.specs.Memory.{bytes_of_each, position_eq, AreNumbered}

-- positions with the same bytes are the same
pub same_position : (x y : ArrayVec ℕ) → x.items ≡ y.items → x ≡ y
same_position x y e = λ i. record { items = e i }

tied : (x y : ArrayVec ℕ) → position_eq x y ≡ true → x ≡ y
tied x y h = same_position x y ((bytes_eq-Decides x.items y.items).0 h)

-- the position with a number, by its bytes
pub at_bytes : (xs : List (ArrayVec ℕ)) (i : ℕ) (x : ArrayVec ℕ) → slice_get (bytes_of_each xs) i ≡ Some x.items → slice_get xs i ≡ Some x
at_bytes xs i x at = go (slice_get xs i) (sym (slice_get-map (λ (p : ArrayVec ℕ). p.items) xs i) ∙ at)
  where
    go : (o : Option (ArrayVec ℕ)) → option_map (λ (p : ArrayVec ℕ). p.items) o ≡ Some x.items → o ≡ Some x
    go None e = absurd (cc)
    go (Some y) e = ap (λ z. Some z) (same_position y x (same_Some y.items x.items e))

bytes_at : (xs : List (ArrayVec ℕ)) (i : ℕ) (x : ArrayVec ℕ) → slice_get xs i ≡ Some x → slice_get (bytes_of_each xs) i ≡ Some x.items
bytes_at xs i x at = slice_get-map (λ (p : ArrayVec ℕ). p.items) xs i ∙ ap (λ o. option_map (λ (p : ArrayVec ℕ). p.items) o) at

module _ {S : Type 0} (xs : List (ArrayVec ℕ)) (numbers : HashMap (ArrayVec ℕ) ℕ S) (are : AreNumbered xs numbers) where
  pub number_found : (x : ArrayVec ℕ) (o : Option ℕ) → o ≡ get position_eq numbers x → IfSome o (λ i. slice_get (bytes_of_each xs) i ≡ Some x.items)
  number_found x None is = tt
  number_found x (Some i) is = bytes_at xs i x (are.only x i (sym is))

  pub number_within : (x : ArrayVec ℕ) (o : Option ℕ) → o ≡ get position_eq numbers x → IfSome o (λ i. i < length (bytes_of_each xs))
  number_within x None is = tt
  number_within x (Some i) is = slice_get_within (bytes_of_each xs) i x.items (bytes_at xs i x (are.only x i (sym is)))

  pub number_missing : (x : ArrayVec ℕ) (o : Option ℕ) → o ≡ get position_eq numbers x → IfNone o ((i : ℕ) → slice_get (bytes_of_each xs) i ≡ Some x.items → ⊥)
  number_missing x None is = λ i at. let here : get position_eq numbers x ≡ Some i = are.all i x (at_bytes xs i x at) in absurd (cc)
  number_missing x (Some i) is = tt

  -- one more position has the next number
  module _ (numbers' : HashMap (ArrayVec ℕ) ℕ S) (x key : ArrayVec ℕ) (bytes : List ℕ) (x_is : x.items ≡ bytes) (key_is : key.items ≡ bytes)
      (new : (i : ℕ) → slice_get (bytes_of_each xs) i ≡ Some bytes → ⊥) (n : ℕ) (n_is : n ≡ length xs)
      (updates : Updates position_eq numbers numbers' key (Some n)) where
    key_x : key ≡ x
    key_x = same_position key x (key_is ∙ sym x_is)

    at_key : get position_eq numbers' key ≡ Some n
    at_key = updates.1

    at_other : (y : ArrayVec ℕ) (t : Bool) → position_eq key y ≡ t → get position_eq numbers' y ≡ cond t (Some n) (get position_eq numbers y)
    at_other y t is = updates.0 y ∙ ap (λ b. cond b (Some n) (get position_eq numbers y)) is

    pub numbered_more : AreNumbered (xs ++ x ∷ []) numbers'
    numbered_more = record {
      all = λ i y at. every i y (push_cases xs x i y at);
      only = λ y i at. known y i at (position_eq key y) refl;
    }
      where
        old : (i : ℕ) (y : ArrayVec ℕ) → slice_get xs i ≡ Some y → (t : Bool) → position_eq key y ≡ t → get position_eq numbers' y ≡ Some i
        old i y at true is =
            let same : y.items ≡ bytes = ap (λ z. z.items) (sym (tied key y is)) ∙ key_is in
            absurd (new i (bytes_at xs i y at ∙ ap (λ b. Some b) same))
        old i y at false is = at_other y false is ∙ are.all i y at

        every : (i : ℕ) (y : ArrayVec ℕ) → (slice_get xs i ≡ Some y) ⊎ ((i ≡ length xs) × (x ≡ y)) → get position_eq numbers' y ≡ Some i
        every i y (inl at) = old i y at (position_eq key y) refl
        every i y (inr (index, same)) =
            subst (λ z. get position_eq numbers' z ≡ Some i) (key_x ∙ same) (at_key ∙ ap (λ k. Some k) (n_is ∙ sym index))

        known : (y : ArrayVec ℕ) (i : ℕ) → get position_eq numbers' y ≡ Some i → (t : Bool) → position_eq key y ≡ t → slice_get (xs ++ x ∷ []) i ≡ Some y
        known y i at true is =
            let index : n ≡ i = same_Some n i (sym (at_other y true is) ∙ at) in
            subst (λ k. slice_get (xs ++ x ∷ []) k ≡ Some y) (sym n_is ∙ index)
            (subst (λ z. slice_get (xs ++ x ∷ []) (length xs) ≡ Some z) (sym key_x ∙ tied key y is) (push_at xs x))
        known y i at false is = push_before xs x i y (are.only y i (sym (at_other y false is) ∙ at))
