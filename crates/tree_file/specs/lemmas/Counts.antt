-- Things that differ are counted.
use Rattle.std.proofs.Common.{◌≡◌, ◌⊎◌, inl, inr, ℕ, zero, suc, ◌+◌, ◌<◌, ◌≤◌, ◌||◌, Bool, true, false, cond, List, [], ◌∷◌, length}
use Rattle.std.proofs.Common.{Some, refl, sym, ◌∙◌, ap, subst, arith}
use Rattle.std.specs.Prelude.{slice_get, count_by, IsSome, nat_eq, All}
use Rattle.std.proofs.lemmas.List.Elements.{All-contains}
use Rattle.std.proofs.lemmas.Map.Views.{Contains-from_lookup}
use Rattle.std.specs.List.{AllByRecursion, IsDistinct, list_any}
use Rattle.std.specs.Ordering.{eq_by_cmp}
use Rattle.std.proofs.lemmas.Bool.{cases_eq}
use Rattle.std.proofs.lemmas.Bool.Decides.{eqb_tells}
use Rattle.std.proofs.lemmas.Cmp.{nat_list_cmp_total, eq_by_cmp_equiv, nat_eq_equiv}
use Rattle.std.proofs.lemmas.List.Sums.{sum_by-cons}
use Rattle.std.proofs.lemmas.Map.Made.{length-le_from_is_member}
use Rattle.std.proofs.lemmas.Map.Steps.{length-le_from_keys}
use Rattle.std.proofs.lemmas.Map.Text.{is_eq-slice_cmp}
use Rattle.std.proofs.lemmas.Option.{same_Some}
use Rattle.std.proofs.lemmas.Slice.Eq.{bytes_eq-Decides}
use Rattle.retrograde.specs.declared.records.Record.{Record}
use Rattle.btree.specs.Page.{Item, key_cmp}
use Rattle.btree.specs.Entries.{find_entry}

either : (a b : Bool) → (a || b) ≡ true → (a ≡ true) ⊎ (b ≡ true)
either true b is = inl refl
either false b is = inr is

-- one for each number below n
pub listed : {K : Type 0} → (ℕ → K) → ℕ → List K
listed at zero = []
listed at (suc n) = at n ∷ listed at n

pub length-listed : {K : Type 0} (at : ℕ → K) (n : ℕ) → length (listed at n) ≡ n
unfolding listed
length-listed at zero = refl
length-listed at (suc n) = let rest : length (listed at n) ≡ n = length-listed at n in omega (arith, rest)

module _ {K : Type 0} (eq : K → K → Bool) (at : ℕ → K) where
  pub differ : (x : K) (n : ℕ) → ((i : ℕ) → i < n → eq x (at i) ≡ false) → AllByRecursion (λ y. eq x y ≡ false) (listed at n)
  unfolding listed
  differ x zero each = tt
  differ x (suc n) each = (each n (omega arith), differ x n (λ i low. each i (omega (arith, low))))

  pub distinct : (n : ℕ) → ((i j : ℕ) → i < n → j < i → eq (at i) (at j) ≡ false) → IsDistinct eq (listed at n)
  unfolding listed IsDistinct
  distinct zero apart = tt
  distinct (suc n) apart =
      (differ (at n) n (λ j low. apart n j (omega arith) low), distinct n (λ i j low less. apart i j (omega (arith, low)) less))

  pub among : (q : K) (n : ℕ) → list_any (eq q) (listed at n) ≡ true → (i : ℕ) × (i < n) × (eq q (at i) ≡ true)
  unfolding listed
  among q zero is = absurd (cc)
  among q (suc n) is = elim (either (eq q (at n)) (list_any (eq q) (listed at n)) is) [
    | inl here ↦ (n, omega arith, here)
    | inr before ↦ let (i, low, same) = among q n before in (i, omega (arith, low), same)
  ]

  pub there : (q : K) (n i : ℕ) → i < n → eq q (at i) ≡ true → list_any (eq q) (listed at n) ≡ true
  unfolding listed
  there q zero i low same = absurd (omega (arith, low))
  there q (suc n) i low same = elim (cases_eq i n) [
    | inl is ↦
        let here : eq q (at n) ≡ true = subst (λ (m : ℕ). eq q (at m) ≡ true) is same in
        ap (λ (b : Bool). b || list_any (eq q) (listed at n)) here
    | inr other ↦ or_second (eq q (at n)) (list_any (eq q) (listed at n)) (there q n i (omega (arith, low, other)) same)
  ]
    where
      or_second : (a b : Bool) → b ≡ true → (a || b) ≡ true
      or_second true b is = refl
      or_second false b is = is

-- keys
pub same_key : (a b : List ℕ) → eq_by_cmp key_cmp a b ≡ true → a ≡ b
same_key a b is = (bytes_eq-Decides a b).0 (sym (is_eq-slice_cmp a b) ∙ is)

pub keys_tell : (a b : List ℕ) → ((a ≡ b) ⊎ (eq_by_cmp key_cmp a b ≡ false))
keys_tell a b = go (eq_by_cmp key_cmp a b) refl
  where
    go : (t : Bool) → eq_by_cmp key_cmp a b ≡ t → (a ≡ b) ⊎ (eq_by_cmp key_cmp a b ≡ false)
    go true is = inl (same_key a b is)
    go false is = inr is

-- a key is one of these, or differs from each
one_of : (key : List ℕ) (at : ℕ → List ℕ) (n : ℕ)
    → ((i : ℕ) × (i < n) × (key ≡ at i)) ⊎ ((i : ℕ) → i < n → eq_by_cmp key_cmp key (at i) ≡ false)
one_of key at zero = inr (λ i low. absurd (omega (arith, low)))
one_of key at (suc n) = elim (keys_tell key (at n)) [
  | inl here ↦ inl (n, omega arith, here)
  | inr other ↦ elim (one_of key at n) [
    | inl found ↦ inl (found.0, omega (arith, found.1), found.2)
    | inr none ↦ inr (λ i low. elim (cases_eq i n) [
      | inl is ↦ subst (λ (m : ℕ). eq_by_cmp key_cmp key (at m) ≡ false) (sym is) other
      | inr before ↦ none i (omega (arith, low, before))
    ])
  ]
]

-- of this many entries each has one of the same number of different keys that are found
pub no_other_key : (es : List Item) (n : ℕ) (at : ℕ → List ℕ) → length es ≡ n → ((i j : ℕ) → i < n → j < n → at i ≡ at j → i ≡ j)
    → ((i : ℕ) → i < n → IsSome (find_entry es (at i))) → (key : List ℕ) → IsSome (find_entry es key) → (i : ℕ) × (i < n) × (key ≡ at i)
unfolding IsDistinct
no_other_key es n at long apart each key found = elim (one_of key at n) [
  | inl is ↦ is
  | inr none ↦
      let eq = eq_by_cmp key_cmp in
      let differs : (i j : ℕ) → i < n → j < i → eq (at i) (at j) ≡ false = (λ i j low less.
      elim (keys_tell (at i) (at j)) [
        | inl same ↦ let e : i ≡ j = apart i j low (omega (arith, low, less)) same in absurd (omega (arith, e, less))
        | inr other ↦ other
      ]) in
      let most : length (key ∷ listed at n) ≤ length es = length-le_from_keys (eq_by_cmp_equiv nat_list_cmp_total) (key ∷ listed at n) es
      (differ eq at key n none, distinct eq at n differs)
      (λ q any. elim (either (eq q key) (list_any (eq q) (listed at n)) any) [
        | inl here ↦ subst (λ (k : List ℕ). IsSome (find_entry es k)) (sym (same_key q key here)) found
        | inr before ↦ (let (i, low, same) = among eq at q n before in
            subst (λ (k : List ℕ). IsSome (find_entry es k)) (sym (same_key q (at i) same)) (each i low))
      ]) in
      absurd (omega (arith, most, length-listed at n, long))
]

-- the numbers of the records that pass
passing : (Record → Bool) → ℕ → List Record → List ℕ
passing test from [] = []
passing test from (r ∷ rs) = cond (test r) (from ∷ passing test (suc from) rs) (passing test (suc from) rs)

equal_numbers : (a b : ℕ) → nat_eq a b ≡ true → a ≡ b
equal_numbers a b is = elim (eqb_tells a b) [ inl same ↦ same.1 | inr other ↦ absurd (cc) ]

numbers_equal : (a : ℕ) → nat_eq a a ≡ true
numbers_equal a = nat_eq_equiv.refl a

module _ (test : Record → Bool) where
  length-passing : (from : ℕ) (rs : List Record) → length (passing test from rs) ≡ count_by test rs
  unfolding passing
  length-passing from [] = refl
  length-passing from (r ∷ rs) =
      let rest : length (passing test (suc from) rs) ≡ count_by test rs = length-passing (suc from) rs in
      let sum : count_by test (r ∷ rs) ≡ cond (test r) 1 0 + count_by test rs = sum_by-cons (λ z. cond (test z) 1 0) r rs in
      by_test (test r) rest ∙ sym sum
    where
      by_test : (b : Bool) → length (passing test (suc from) rs) ≡ count_by test rs
          → length (cond b (from ∷ passing test (suc from) rs) (passing test (suc from) rs)) ≡ cond b 1 0 + count_by test rs
      by_test true rest = omega (arith, rest)
      by_test false rest = omega (arith, rest)

  passed : (q from : ℕ) (rs : List Record) → list_any (nat_eq q) (passing test from rs) ≡ true
      → (i : ℕ) × (r : Record) × (q ≡ from + i) × (slice_get rs i ≡ Some r) × (test r ≡ true)
  unfolding passing
  passed q from [] is = absurd (cc)
  passed q from (r ∷ rs) is =
      by_test (λ any. let (i, s, at, got, ok) = passed q (suc from) rs any in (suc i, s, omega (arith, at), got, ok)) (test r) refl is
    where
      by_test : (list_any (nat_eq q) (passing test (suc from) rs) ≡ true
          → (i : ℕ) × (s : Record) × (q ≡ from + i) × (slice_get (r ∷ rs) i ≡ Some s) × (test s ≡ true))
          → (b : Bool) → test r ≡ b
          → list_any (nat_eq q) (cond b (from ∷ passing test (suc from) rs) (passing test (suc from) rs)) ≡ true
          → (i : ℕ) × (s : Record) × (q ≡ from + i) × (slice_get (r ∷ rs) i ≡ Some s) × (test s ≡ true)
      by_test later true ok any = elim (either (nat_eq q from) (list_any (nat_eq q) (passing test (suc from) rs)) any) [
        | inl here ↦ (0, r, (let e : q ≡ from = equal_numbers q from here in omega (arith, e)), refl, ok)
        | inr more ↦ later more
      ]
      by_test later false ok any = later any

  passes : (from i : ℕ) (r : Record) (rs : List Record) → slice_get rs i ≡ Some r → test r ≡ true
      → list_any (nat_eq (from + i)) (passing test from rs) ≡ true
  unfolding passing
  passes from i r [] got ok = absurd (cc)
  passes from zero r (s ∷ rs) got ok = by_test (test s) (ap test (same_Some s r got) ∙ ok)
    where
      by_test : (b : Bool) → b ≡ true
          → list_any (nat_eq (from + 0)) (cond b (from ∷ passing test (suc from) rs) (passing test (suc from) rs)) ≡ true
      by_test true is =
          let same : from + 0 ≡ from = omega arith in
          let here : nat_eq (from + 0) from ≡ true = ap (λ (n : ℕ). nat_eq n from) same ∙ numbers_equal from in
          ap (λ (b : Bool). b || list_any (nat_eq (from + 0)) (passing test (suc from) rs)) here
      by_test false is = absurd (cc)
  passes from (suc i) r (s ∷ rs) got ok =
      let rest : list_any (nat_eq (suc from + i)) (passing test (suc from) rs) ≡ true = passes (suc from) i r rs got ok in
      let same : suc from + i ≡ from + suc i = omega arith in
      by_test (test s) (subst (λ (n : ℕ). list_any (nat_eq n) (passing test (suc from) rs) ≡ true) same rest)
    where
      by_test : (b : Bool) → list_any (nat_eq (from + suc i)) (passing test (suc from) rs) ≡ true
          → list_any (nat_eq (from + suc i)) (cond b (from ∷ passing test (suc from) rs) (passing test (suc from) rs)) ≡ true
      by_test true rest = or_second (nat_eq (from + suc i) from) (list_any (nat_eq (from + suc i)) (passing test (suc from) rs)) rest
        where
          or_second : (a b : Bool) → b ≡ true → (a || b) ≡ true
          or_second true b is = refl
          or_second false b is = is
      by_test false rest = rest

  past : (x from : ℕ) (rs : List Record) → x < from → AllByRecursion (λ y. nat_eq x y ≡ false) (passing test from rs)
  unfolding passing
  past x from [] low = tt
  past x from (r ∷ rs) low = by_test (past x (suc from) rs (omega (arith, low))) (test r)
    where
      apart : nat_eq x from ≡ false
      apart = elim (eqb_tells x from) [ inl same ↦ absurd (omega (arith, same.1, low)) | inr other ↦ other.0 ]

      by_test : AllByRecursion (λ y. nat_eq x y ≡ false) (passing test (suc from) rs) → (b : Bool)
          → AllByRecursion (λ y. nat_eq x y ≡ false) (cond b (from ∷ passing test (suc from) rs) (passing test (suc from) rs))
      by_test rest true = (apart, rest)
      by_test rest false = rest

  distinct_passing : (from : ℕ) (rs : List Record) → IsDistinct nat_eq (passing test from rs)
  unfolding passing IsDistinct
  distinct_passing from [] = tt
  distinct_passing from (r ∷ rs) = by_test (distinct_passing (suc from) rs) (test r)
    where
      by_test : IsDistinct nat_eq (passing test (suc from) rs) → (b : Bool)
          → IsDistinct nat_eq (cond b (from ∷ passing test (suc from) rs) (passing test (suc from) rs))
      by_test rest true = (past from (suc from) rs (omega arith), rest)
      by_test rest false = rest

  -- as many records pass as there are different numbers of such records
  pub count_is : (rs : List Record) (n : ℕ) (at : ℕ → ℕ) → ((j k : ℕ) → j < n → k < n → at j ≡ at k → j ≡ k)
      → ((k : ℕ) → k < n → (r : Record) × (slice_get rs (at k) ≡ Some r) × (test r ≡ true))
      → ((i : ℕ) (r : Record) → slice_get rs i ≡ Some r → test r ≡ true → (k : ℕ) × (k < n) × (at k ≡ i))
      → count_by test rs ≡ n
  count_is rs n at once each all =
      let differs : (i j : ℕ) → i < n → j < i → nat_eq (at i) (at j) ≡ false = (λ i j low less.
      elim (eqb_tells (at i) (at j)) [
        | inl same ↦ let e : i ≡ j = once i j low (omega (arith, low, less)) same.1 in absurd (omega (arith, e, less))
        | inr other ↦ other.0
      ]) in
      let least : length (listed at n) ≤ length (passing test 0 rs) =
      length-le_from_is_member nat_eq_equiv (listed at n) (passing test 0 rs) (distinct nat_eq at n differs)
      (λ q any.
      let (k, low, same) = among nat_eq at q n any in
      let (r, got, ok) = each k low in
      let is : 0 + at k ≡ q = (let e : q ≡ at k = equal_numbers q (at k) same in omega (arith, e)) in
      subst (λ (m : ℕ). list_any (nat_eq m) (passing test 0 rs) ≡ true) is (passes 0 (at k) r rs got ok)) in
      let most : length (passing test 0 rs) ≤ length (listed at n) =
      length-le_from_is_member nat_eq_equiv (passing test 0 rs) (listed at n) (distinct_passing 0 rs)
      (λ q any.
      let (i, r, is, got, ok) = passed q 0 rs any in
      let (k, low, same) = all i r got ok in
      let e : q ≡ at k = omega (arith, is, same) in
      there nat_eq at q n k low (ap (λ (m : ℕ). nat_eq q m) (sym e) ∙ numbers_equal q)) in
      omega (arith, least, most, length-listed at n, length-passing 0 rs)

-- what holds of each entry holds of one that is found
pub found_entry : (P : Item → Type 0) (es : List Item) (key value : List ℕ) → All P es → find_entry es key ≡ Some value → P (key, value)
found_entry P es key value all found = All-contains P es (key, value) all (Contains-from_lookup same_key key value es found)
