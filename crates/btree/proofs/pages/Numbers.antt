-- Bytes of one length are in the order of the numbers that they are.
use Rattle.std.proofs.Common.{◌≡◌, ℕ, zero, suc, ◌+◌, ◌*◌, ◌^◌, ◌<◌, ◌≤◌, List, [], ◌∷◌, ◌++◌, length, slice_index, take, drop, refl, sym, ◌∙◌, ap, subst, inl, inr, arith}
use Rattle.std.proofs.lemmas.Bool.{cases_lt, cases_eq}
use Rattle.std.proofs.lemmas.Bool.Decides.{nat_tests}
use Rattle.std.proofs.lemmas.List.{take-append-drop}
use Rattle.std.proofs.Math.Nat.{mul-le-mul_right}
use Rattle.std.specs.Ordering.{nat_cmp, ordering_then}
use Rattle.std.specs.declared.cmp.Ordering.{Ordering}
use Rattle.std.specs.declared.cmp.Ordering.TheVariants.{Less, Equal, Greater}
use Rattle.byteorder.specs.Endian.{big_number}
use Rattle.byteorder.specs.Numbers.{big_from-cons, big_from-lt}
use Rattle.btree.specs.Page.{key_cmp}

then_then : (a b c : Ordering) → ordering_then (ordering_then a b) c ≡ ordering_then a (ordering_then b c)
then_then Less b c = refl
then_then Equal b c = refl
then_then Greater b c = refl

-- keys that begin with parts of the same length
pub cmp_parts : (a b c d : List ℕ) → length a ≡ length b → key_cmp (a ++ c) (b ++ d) ≡ ordering_then (key_cmp a b) (key_cmp c d)
cmp_parts [] [] c d e = refl
cmp_parts [] (y ∷ b) c d e = absurd (omega (arith, e))
cmp_parts (x ∷ a) [] c d e = absurd (omega (arith, e))
cmp_parts (x ∷ a) (y ∷ b) c d e = ap (ordering_then (nat_cmp x y)) (cmp_parts a b c d (omega (arith, e)))
    ∙ sym (then_then (nat_cmp x y) (key_cmp a b) (key_cmp c d))

less_is : (x y : ℕ) → x < y → nat_cmp x y ≡ Less
less_is x y low = grind (arith, nat_tests)

equal_is : (x y : ℕ) → x ≡ y → nat_cmp x y ≡ Equal
equal_is x y same = grind (arith, nat_tests)

greater_is : (x y : ℕ) → y < x → nat_cmp x y ≡ Greater
greater_is x y high = grind (arith, nat_tests)

-- a digit in front decides, and else what is after it
digit_cmp : (m x y a b : ℕ) → a < m → b < m → ordering_then (nat_cmp x y) (nat_cmp a b) ≡ nat_cmp (x * m + a) (y * m + b)
digit_cmp m x y a b low_a low_b = elim (cases_lt x y) [
  | inl less ↦
      let more : (x + 1) * m ≤ y * m = mul-le-mul_right m (omega (arith, less)) in
      let below : x * m + a < y * m + b = omega (arith, more, low_a) in
      ap (λ (o : Ordering). ordering_then o (nat_cmp a b)) (less_is x y less) ∙ sym (less_is (x * m + a) (y * m + b) below)
  | inr least ↦ elim (cases_eq x y) [
    | inl same ↦ ap (λ (o : Ordering). ordering_then o (nat_cmp a b)) (equal_is x y same) ∙ behind same
    | inr other ↦
        let more : (y + 1) * m ≤ x * m = mul-le-mul_right m (omega (arith, least, other)) in
        let above : y * m + b < x * m + a = omega (arith, more, low_b) in
        ap (λ (o : Ordering). ordering_then o (nat_cmp a b)) (greater_is x y (omega (arith, least, other))) ∙ sym (greater_is (x * m + a) (y * m + b) above)
  ]
]
  where
    behind : x ≡ y → nat_cmp a b ≡ nat_cmp (x * m + a) (y * m + b)
    behind same = shifted (x * m) ∙ ap (λ (z : ℕ). nat_cmp (x * m + a) (z * m + b)) same
      where
        shifted : (s : ℕ) → nat_cmp a b ≡ nat_cmp (s + a) (s + b)
        shifted s = elim (cases_lt a b) [
          | inl less ↦ less_is a b less ∙ sym (less_is (s + a) (s + b) (omega (arith, less)))
          | inr least ↦ elim (cases_eq a b) [
            | inl same ↦ equal_is a b same ∙ sym (equal_is (s + a) (s + b) (omega (arith, same)))
            | inr other ↦ greater_is a b (omega (arith, least, other)) ∙ sym (greater_is (s + a) (s + b) (omega (arith, least, other)))
          ]
        ]

abbrev pub AreBytes : List ℕ → Type 0
AreBytes bytes = (k : ℕ) → slice_index bytes k < 256

rest_bytes : (x : ℕ) (a : List ℕ) → AreBytes (x ∷ a) → AreBytes a
rest_bytes x a bytes k = bytes (suc k)

pub take_bytes : (n : ℕ) (xs : List ℕ) → AreBytes xs → AreBytes (take n xs)
take_bytes zero xs bytes k = omega arith
take_bytes (suc n) [] bytes k = omega arith
take_bytes (suc n) (x ∷ xs) bytes zero = bytes zero
take_bytes (suc n) (x ∷ xs) bytes (suc k) = take_bytes n xs (rest_bytes x xs bytes) k

number_cmp : (n : ℕ) (a b : List ℕ) → length a ≡ n → length b ≡ n → AreBytes a → AreBytes b → key_cmp a b ≡ nat_cmp (big_number n a) (big_number n b)
number_cmp zero [] [] long_a long_b bytes_a bytes_b = refl
number_cmp zero [] (y ∷ b) long_a long_b bytes_a bytes_b = absurd (omega (arith, long_b))
number_cmp zero (x ∷ a) b long_a long_b bytes_a bytes_b = absurd (omega (arith, long_a))
number_cmp (suc n) [] b long_a long_b bytes_a bytes_b = absurd (omega (arith, long_a))
number_cmp (suc n) (x ∷ a) [] long_a long_b bytes_a bytes_b = absurd (omega (arith, long_b))
number_cmp (suc n) (x ∷ a) (y ∷ b) long_a long_b bytes_a bytes_b =
    let rest_a = rest_bytes x a bytes_a in
    let rest_b = rest_bytes y b bytes_b in
    ap (ordering_then (nat_cmp x y)) (number_cmp n a b (omega (arith, long_a)) (omega (arith, long_b)) rest_a rest_b)
    ∙ digit_cmp (256 ^ n) x y (big_number n a) (big_number n b) (big_from-lt 0 n a rest_a) (big_from-lt 0 n b rest_b)
    ∙ (λ i. nat_cmp (x * 256 ^ n + sym (big_from-cons 0 n x a) i) (y * 256 ^ n + sym (big_from-cons 0 n y b) i))

-- so two keys are in the order of their first bytes as numbers, and where these are the same in that of the rest
module _ (n : ℕ) (one other front rest front' rest' : List ℕ) (is : front ≡ take n one) (behind : rest ≡ drop n one)
    (is' : front' ≡ take n other) (behind' : rest' ≡ drop n other)
    (long : length front ≡ n) (long' : length front' ≡ n) (bytes : AreBytes one) (bytes' : AreBytes other) where
  pub front_cmp : key_cmp one other ≡ ordering_then (nat_cmp (big_number n front) (big_number n front')) (key_cmp rest rest')
  front_cmp =
      (λ i. key_cmp (sym whole i) (sym whole' i)) ∙ cmp_parts front front' rest rest' (omega (arith, long, long'))
      ∙ ap (λ (o : Ordering). ordering_then o (key_cmp rest rest'))
      (number_cmp n front front' long long' (subst AreBytes (sym is) (take_bytes n one bytes)) (subst AreBytes (sym is') (take_bytes n other bytes')))
    where
      whole : front ++ rest ≡ one
      whole = (λ i. is i ++ behind i) ∙ take-append-drop n one

      whole' : front' ++ rest' ≡ other
      whole' = (λ i. is' i ++ behind' i) ∙ take-append-drop n other

pub first_decides : (o rest : Ordering) → (o ≡ Equal → ⊥) → ordering_then o rest ≡ o
first_decides Less rest not = refl
first_decides Equal rest not = absurd (not refl)
first_decides Greater rest not = refl
