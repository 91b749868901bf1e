-- The letter at the end of a word for a number of pages.
use Rattle.std.proofs.Common.{◌≡◌, ◌≢◌, ◌==◌, false, true≢false, nat_lt, lt-ltb, ◌∙◌, ◌<◌, ◌≤◌, ◌*◌, ◌/◌, ◌^◌, ap, ap₂, refl, sym, subst, arith}
use Rattle.std.proofs.Common.{ℕ, List, [], ◌∷◌, ◌++◌, length, Option, Some, None, MatchOption, inl, inr}
use Rattle.std.specs.Char.{digit_value}
use Rattle.std.specs.Str.Parse.{AllDigits, IsNumeral, digits_value}
use Rattle.std.proofs.Math.Nat.{pow-le-pow_right}
use Rattle.std.proofs.lemmas.Bool.Decides.{eqb_tells}
use Rattle.std.proofs.lemmas.Int.Digits.{digits_value-lt}
use Rattle.command_line.specs.Commands.{AreWholePages, WritesCount}
use Rattle.command_line.specs.Words.{AsksPages, HasUnit}

not_empty : (ys : List ℕ) (b : ℕ) → [] ≡ ys ++ b ∷ [] → ⊥
not_empty [] b is = cc
not_empty (y ∷ ys) b is = cc

-- lists that are one have one last element
last_same : (xs ys : List ℕ) (a b : ℕ) → xs ++ a ∷ [] ≡ ys ++ b ∷ [] → (xs ≡ ys) × (a ≡ b)
last_same [] [] a b is = (refl, cc)
last_same [] (y ∷ ys) a b is = let rest : [] ≡ ys ++ b ∷ [] = cc in absurd (not_empty ys b rest)
last_same (x ∷ xs) [] a b is = let rest : [] ≡ xs ++ a ∷ [] = cc in absurd (not_empty xs a rest)
last_same (x ∷ xs) (y ∷ ys) a b is =
    let rest : xs ++ a ∷ [] ≡ ys ++ b ∷ [] = cc in
    let first : x ≡ y = cc in
    let both = last_same xs ys a b rest in
    (cc, both.1)

-- lists with other last elements are not one
apart : (xs ys : List ℕ) (a b : ℕ) → (a == b) ≡ false → xs ++ a ∷ [] ≡ ys ++ b ∷ [] → ⊥
apart xs ys a b never is = elim (eqb_tells a b) [
  | inl same ↦ true≢false (sym same.0 ∙ never)
  | inr other ↦ other.1 (last_same xs ys a b is).1
]

last_digit : (xs : List ℕ) (a : ℕ) → AllDigits 10 (xs ++ a ∷ []) → digit_value a < 10
last_digit [] a digits = digits.0
last_digit (x ∷ xs) a digits = last_digit xs a digits.1

no_digit : (xs : List ℕ) (a : ℕ) → nat_lt (digit_value a) 10 ≡ false → ¬ AllDigits 10 (xs ++ a ∷ [])
no_digit xs a never digits =
    let low : digit_value a < 10 = last_digit xs a digits in true≢false (sym (lt-ltb (digit_value a) 10 low) ∙ never)

module _ (word other : List ℕ) (bytes : ℕ) (unit : HasUnit word other bytes) (numeral : IsNumeral 10 other) where
  -- a word that ends with K, M or G has no other number before it, nor another unit
  pub alone_k : (digits : List ℕ) → word ≡ digits ++ 75 ∷ [] → (other ≡ digits) × (bytes ≡ 1024)
  alone_k digits is = elim unit [
    | inl k ↦ ((last_same other digits 75 75 (sym k.0 ∙ is)).0, k.1)
    | inr rest ↦ elim rest [
      | inl m ↦ absurd (apart other digits 77 75 refl (sym m.0 ∙ is))
      | inr rest ↦ elim rest [
        | inl g ↦ absurd (apart other digits 71 75 refl (sym g.0 ∙ is))
        | inr none ↦ absurd (no_digit digits 75 refl (subst (AllDigits 10) (sym none.0 ∙ is) numeral.1))
      ]
    ]
  ]

  pub alone_m : (digits : List ℕ) → ((front : List ℕ) → word ≢ front ++ 75 ∷ []) → word ≡ digits ++ 77 ∷ [] → (other ≡ digits) × (bytes ≡ 1048576)
  alone_m digits no_k is = elim unit [
    | inl k ↦ absurd (no_k other k.0)
    | inr rest ↦ elim rest [
      | inl m ↦ ((last_same other digits 77 77 (sym m.0 ∙ is)).0, m.1)
      | inr rest ↦ elim rest [
        | inl g ↦ absurd (apart other digits 71 77 refl (sym g.0 ∙ is))
        | inr none ↦ absurd (no_digit digits 77 refl (subst (AllDigits 10) (sym none.0 ∙ is) numeral.1))
      ]
    ]
  ]

  pub alone_g : (digits : List ℕ) → ((front : List ℕ) → word ≢ front ++ 75 ∷ []) → ((front : List ℕ) → word ≢ front ++ 77 ∷ []) → word ≡ digits ++ 71 ∷ []
      → (other ≡ digits) × (bytes ≡ 1073741824)
  alone_g digits no_k no_m is = elim unit [
    | inl k ↦ absurd (no_k other k.0)
    | inr rest ↦ elim rest [
      | inl m ↦ absurd (no_m other m.0)
      | inr rest ↦ elim rest [
        | inl g ↦ ((last_same other digits 71 71 (sym g.0 ∙ is)).0, g.1)
        | inr none ↦ absurd (no_digit digits 71 refl (subst (AllDigits 10) (sym none.0 ∙ is) numeral.1))
      ]
    ]
  ]

  pub alone_none : ((front : List ℕ) → word ≢ front ++ 75 ∷ []) → ((front : List ℕ) → word ≢ front ++ 77 ∷ []) → ((front : List ℕ) → word ≢ front ++ 71 ∷ [])
      → (other ≡ word) × (bytes ≡ 4096)
  alone_none no_k no_m no_g = elim unit [
    | inl k ↦ absurd (no_k other k.0)
    | inr rest ↦ elim rest [
      | inl m ↦ absurd (no_m other m.0)
      | inr rest ↦ elim rest [
        | inl g ↦ absurd (no_g other g.0)
        | inr none ↦ (sym none.0, none.1)
      ]
    ]
  ]

ten_digits : (digits : List ℕ) → length digits ≤ 10 → AllDigits 10 digits → digits_value 10 digits < 2 ^ 64
ten_digits digits few all =
    let low : digits_value 10 digits < 10 ^ length digits = digits_value-lt 10 digits all in
    let high : 10 ^ length digits ≤ 10 ^ 10 = pow-le-pow_right {n = 10} (omega arith) few in omega arith

module _ (word digits : List ℕ) (bytes : ℕ) (unit : HasUnit word digits bytes)
    (alone : (others : List ℕ) (size : ℕ) → HasUnit word others size → IsNumeral 10 others → (others ≡ digits) × (size ≡ bytes)) where
  -- what stands before the letter is no number
  pub not_counted : ((n : ℕ) → ¬ WritesCount digits n) → (pages : ℕ) → ¬ AsksPages word pages
  not_counted none pages asks =
      let same = (alone asks.digits asks.bytes asks.unit asks.numeral).0 in
      let few : length digits ≤ 10 = subst (λ (ds : List ℕ). length ds ≤ 10) same asks.few in
      let numeral : IsNumeral 10 digits = subst (IsNumeral 10) same asks.numeral in
      none (digits_value 10 digits) (record { few = few; digits = numeral; number_is = refl; small = ten_digits digits few numeral.1 })

  -- the pages of that number
  pub counted : (number : ℕ) (result : Option ℕ) → WritesCount digits number → MatchOption result ((n : ℕ) → ¬ AreWholePages number bytes n) (AreWholePages number bytes)
      → MatchOption result ((n : ℕ) → ¬ AsksPages word n) (AsksPages word)
  counted number None counts none = λ n asks.
      let same = alone asks.digits asks.bytes asks.unit asks.numeral in
      none n (record {
        pages_are = asks.pages_are ∙ ap₂ (λ ds size. digits_value 10 ds * size / 4096) same.0 same.1 ∙ ap (λ k. k * bytes / 4096) (sym counts.number_is);
        some = asks.some;
        most = asks.most;
      })
  counted number (Some n) counts whole = record {
    digits = digits;
    bytes = bytes;
    unit = unit;
    few = counts.few;
    numeral = counts.digits;
    pages_are = whole.pages_are ∙ ap (λ k. k * bytes / 4096) counts.number_is;
    some = whole.some;
    most = whole.most;
  }
