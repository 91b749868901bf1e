-- Lists of different numbers and of their positions, and how many they are.
use Rattle.std.proofs.Common.{◌≡◌, ◌∙◌, ◌↔◌, sym, ap, subst, ℕ, zero, suc, ◌+◌, ◌≤◌, ◌<◌, ◌⊎◌, inl, inr, ⊎_elim, Bool, true, false, not, eqb, ◌&&◌, ◌||◌, cond, Some, List, [], ◌∷◌, length, refl, arith, slice_get}
use Rattle.std.specs.Prelude.{◌≢◌, count_by, All, AllPairs, Contains}
use Rattle.std.specs.List.{AllZip}
use Rattle.std.proofs.lemmas.Option.{same_Some}
use Rattle.std.proofs.lemmas.Bool.{cases_lt}
use Rattle.std.proofs.lemmas.Bool.Decides.{eqb_tells}
use Rattle.std.proofs.lemmas.List.Sums.{sum_by-cons}
use Rattle.std.proofs.lemmas.List.Elements.{All-cons}
use Rattle.std.proofs.lemmas.List.Kept.{AllPairs-cons}
use Rattle.retrograde.specs.Stored.{count_below}
use Rattle.retrograde.proofs.Finished.{element}
use Rattle.retrograde.proofs.CountLemmas.{true_or_false}
use Rattle.retrograde.proofs.Additions.{is_first, is_later, first_or_later, none_in_empty, count_same, count_past, count_one_more}

-- no element is in the list twice
abbrev pub IsOnce : {A : Type 0} → List A → Type 0
IsOnce [] = Unit {0}
IsOnce (x ∷ xs) = (Contains xs x → ⊥) × IsOnce xs

pub once_from_pairs : {A : Type 0} (xs : List A) → AllPairs (λ x y. x ≢ y) xs → IsOnce xs
once_from_pairs [] pairs = tt
once_from_pairs (x ∷ xs) pairs = (
  λ (k, within, is). pairs 0 (suc k) x (omega arith) (omega arith) (sym is),
  once_from_pairs xs (λ i j d lt within. pairs (suc i) (suc j) d (omega arith) (omega arith)),
)

pub all_from_contains : {A : Type 0} (Q : A → Type 0) (xs : List A) → ((x : A) → Contains xs x → Q x) → All Q xs
all_from_contains Q [] each = λ k d within. absurd (omega arith)
all_from_contains Q (x ∷ xs) each = All-cons Q x xs (each x (is_first x xs)) (all_from_contains Q xs (λ y is. each y (is_later x y xs is)))

pub pairs_from_once : {A : Type 0} (xs : List A) → IsOnce xs → AllPairs (λ x y. x ≢ y) xs
pairs_from_once [] once = λ i j d lt within. absurd (omega arith)
pairs_from_once {A = A} (x ∷ xs) once =
    AllPairs-cons (λ x y. x ≢ y) x xs
    (all_from_contains (λ y. x ≢ y) xs (λ y is same. once.0 (subst (λ (z : A). Contains xs z) (sym same) is)))
    (pairs_from_once xs once.1)

both_of : (a b : Bool) → (a && b) ≡ true → (a ≡ true) × (b ≡ true)
both_of true b is = (refl, is)
both_of false b is = cc

both_pass : (a b : Bool) → a ≡ true → b ≡ true → (a && b) ≡ true
both_pass true b first second = second
both_pass false b first second = cc

not_false : (b : Bool) → b ≡ false → not b ≡ true
not_false true is = cc
not_false false is = refl

not_true : (b : Bool) → not b ≡ true → b ≡ false
not_true true is = cc
not_true false is = refl

-- a list of different numbers, exactly those below n that pass, counts as many of a kind as stand below n
pub count_listed : (n : ℕ) (test kind : ℕ → Bool) (js : List ℕ) → IsOnce js → ((j : ℕ) → Contains js j ↔ ((j < n) × (test j ≡ true)))
    → count_below n (λ j. test j && kind j) ≡ count_by kind js
count_listed n test kind [] once each =
    let start : n ≡ 0 + n = omega arith in
    count_same n (λ j. test j && kind j) (λ j. false) (λ j lt. none j lt (true_or_false (test j)))
    ∙ (ap (λ (m : ℕ). count_below m (λ j. false)) start ∙ count_past 0 n (λ j. false) (λ j _. refl))
  where
    none : (j : ℕ) → j < n → (test j ≡ true) ⊎ (test j ≡ false) → (test j && kind j) ≡ false
    none j lt (inl is) = absurd (none_in_empty j ((each j).1 (lt, is)))
    none j lt (inr is) = rw is refl
count_listed n test kind (y ∷ js) once each = split (true_or_false (kind y)) (count_listed n rest kind js once.1 each_rest)
  where
    rest : ℕ → Bool
    rest j = test j && not (eqb j y)

    y_passes : (y < n) × (test y ≡ true)
    y_passes = (each y).0 (is_first y js)

    apart : (j : ℕ) → (j ≡ y → ⊥) → rest j ≡ test j
    apart j other = ⊎_elim (λ (_, same). absurd (other same)) (λ (is, _). rw is (go (test j))) (eqb_tells j y)
      where
        go : (b : Bool) → (b && true) ≡ b
        go true = refl
        go false = refl

    at_y : rest y ≡ false
    at_y = ⊎_elim (λ (is, _). rw is (go (test y))) (λ (_, other). absurd (other refl)) (eqb_tells y y)
      where
        go : (b : Bool) → (b && false) ≡ false
        go true = refl
        go false = refl

    each_rest : (j : ℕ) → Contains js j ↔ ((j < n) × (rest j ≡ true))
    each_rest j = (
      λ is.
          let (lt, passes) = (each j).0 (is_later y j js is) in
          (lt, apart j (λ same. once.0 (subst (λ (k : ℕ). Contains js k) same is)) ∙ passes),
      λ (lt, passes).
          let (tested, other) = both_of (test j) (not (eqb j y)) passes in
          ⊎_elim
          (λ same. absurd (differs j (sym same) other))
          (λ later. later)
          (first_or_later y j js ((each j).1 (lt, tested))),
    )
      where
        differs : (j : ℕ) → j ≡ y → not (eqb j y) ≡ true → ⊥
        differs j same other = ⊎_elim (λ (is, _). let fails : eqb j y ≡ false = not_true (eqb j y) other in cc) (λ (_, apart). apart same) (eqb_tells j y)

    total : count_by kind (y ∷ js) ≡ cond (kind y) 1 0 + count_by kind js
    total = sum_by-cons (λ z. cond (kind z) 1 0) y js

    split : (kind y ≡ true) ⊎ (kind y ≡ false) → count_below n (λ j. rest j && kind j) ≡ count_by kind js
        → count_below n (λ j. test j && kind j) ≡ count_by kind (y ∷ js)
    split (inl is) fewer =
        let sums : count_by kind (y ∷ js) ≡ cond (kind y) 1 0 + count_by kind js = total in
        let one : ◌≡◌ {A = ℕ} (cond (kind y) 1 0) 1 = ap (λ (b : Bool). cond b 1 0) is in
        let more : count_below n (λ j. test j && kind j) ≡ suc (count_below n (λ j. rest j && kind j))
        = count_one_more n y (λ j. rest j && kind j) (λ j. test j && kind j) y_passes.0 (rw at_y refl) (both_pass (test y) (kind y) y_passes.1 is)
        (λ k other. ap (λ (b : Bool). b && kind k) (sym (apart k other))) in
        omega arith
    split (inr is) fewer =
        let sums : count_by kind (y ∷ js) ≡ cond (kind y) 1 0 + count_by kind js = total in
        let none : ◌≡◌ {A = ℕ} (cond (kind y) 1 0) 0 = ap (λ (b : Bool). cond b 1 0) is in
        let same : count_below n (λ j. test j && kind j) ≡ count_below n (λ j. rest j && kind j)
        = count_same n (λ j. test j && kind j) (λ j. rest j && kind j)
        (λ j lt. ⊎_elim (λ (_, at). at_same j at is) (λ (_, other). ap (λ (b : Bool). b && kind j) (sym (apart j other))) (eqb_tells j y)) in
        omega arith
      where
        neither : (a b c : Bool) → c ≡ false → (a && c) ≡ (b && c)
        neither true true c is = refl
        neither true false c is = is
        neither false true c is = sym is
        neither false false c is = refl

        at_same : (j : ℕ) → j ≡ y → kind y ≡ false → (test j && kind j) ≡ (rest j && kind j)
        at_same j at is = neither (test j) (rest j) (kind j) (ap kind at ∙ is)

all_counted : (js : List ℕ) → count_by (λ (j : ℕ). true) js ≡ length js
all_counted [] = refl
all_counted (j ∷ js) =
    let total : count_by (λ (i : ℕ). true) (j ∷ js) ≡ 1 + count_by (λ (i : ℕ). true) js = sum_by-cons (λ (i : ℕ). 1) j js in
    let rest : count_by (λ (i : ℕ). true) js ≡ length js = all_counted js in
    omega arith

-- and there are as many as pass below n
pub length_listed : (n : ℕ) (test : ℕ → Bool) (js : List ℕ) → IsOnce js → ((j : ℕ) → Contains js j ↔ ((j < n) × (test j ≡ true)))
    → count_below n test ≡ length js
length_listed n test js once each =
    count_same n test (λ j. test j && true) (λ j lt. go (test j))
    ∙ (count_listed n test (λ j. true) js once each ∙ all_counted js)
  where
    go : (b : Bool) → b ≡ (b && true)
    go true = refl
    go false = refl

-- whether a number is in the list
abbrev member : List ℕ → ℕ → Bool
member [] j = false
member (k ∷ ks) j = eqb j k || member ks j

member_is : (ks : List ℕ) (j : ℕ) → Contains ks j ↔ (member ks j ≡ true)
member_is [] j = ((λ here. absurd (none_in_empty j here)), (λ is. cc))
member_is (k ∷ ks) j = ⊎_elim at (other (member_is ks j)) (eqb_tells j k)
  where
    at : (eqb j k ≡ true) × (j ≡ k) → Contains (k ∷ ks) j ↔ ((eqb j k || member ks j) ≡ true)
    at (is, same) = ((λ here. rw is refl), (λ _. subst (λ (l : ℕ). Contains (k ∷ ks) l) (sym same) (is_first k ks)))

    other : Contains ks j ↔ (member ks j ≡ true) → (eqb j k ≡ false) × (j ≡ k → ⊥) → Contains (k ∷ ks) j ↔ ((eqb j k || member ks j) ≡ true)
    other rest (is, apart) = (
      λ here. ⊎_elim (λ same. absurd (apart (sym same))) (λ later. rw is (rest.0 later)) (first_or_later k j ks here),
      λ found. is_later k j ks (rest.1 (rw is at found)),
    )

-- two lists of different numbers with the same elements are as long, and have as many of a kind
module _ (n : ℕ) where
  pub count_alike : (kind : ℕ → Bool) (js ks : List ℕ) → IsOnce js → IsOnce ks → ((j : ℕ) → Contains js j → j < n) → ((j : ℕ) → Contains js j ↔ Contains ks j)
      → count_by kind js ≡ count_by kind ks
  count_alike kind js ks once once' below alike =
      sym (count_listed n (member js) kind js once (λ j. ((λ here. (below j here, (member_is js j).0 here)), (λ (_, is). (member_is js j).1 is))))
      ∙ count_listed n (member js) kind ks once' (λ j. (
        (λ there. let here : Contains js j = (alike j).1 there in (below j here, (member_is js j).0 here)),
        (λ (_, is). (alike j).0 ((member_is js j).1 is)),
      ))

  pub length_alike : (js ks : List ℕ) → IsOnce js → IsOnce ks → ((j : ℕ) → Contains js j → j < n) → ((j : ℕ) → Contains js j ↔ Contains ks j)
      → length js ≡ length ks
  length_alike js ks once once' below alike = sym (all_counted js) ∙ (count_alike (λ j. true) js ks once once' below alike ∙ all_counted ks)

-- positions and their numbers, one by one
module _ {P : Type 0} (known : List P) where
  abbrev pub AreNumbers : List P → List ℕ → Type 0
  AreNumbers = AllZip (λ y j. slice_get known j ≡ Some y)

  pub number_in : (ys : List P) (js : List ℕ) → AreNumbers ys js → (y : P) → Contains ys y → (j : ℕ) × Contains js j × (slice_get known j ≡ Some y)
  number_in [] js zip y is = absurd (none_in_empty y is)
  number_in (z ∷ ys) [] zip y is = absurd zip
  number_in (z ∷ ys) (j ∷ js) zip y is =
      ⊎_elim
      (λ same. (j, is_first j js, zip.0 ∙ ap (λ (u : P). Some u) same))
      (λ later. let (k, here, at) = number_in ys js zip.1 y later in (k, is_later j k js here, at))
      (first_or_later z y ys is)

  pub position_in : (ys : List P) (js : List ℕ) → AreNumbers ys js → (j : ℕ) → Contains js j → (y : P) × Contains ys y × (slice_get known j ≡ Some y)
  position_in [] [] zip j is = absurd (none_in_empty j is)
  position_in [] (k ∷ js) zip j is = absurd zip
  position_in (z ∷ ys) [] zip j is = absurd zip
  position_in (z ∷ ys) (k ∷ js) zip j is =
      ⊎_elim
      (λ same. (z, is_first z ys, ap (λ (i : ℕ). slice_get known i) (sym same) ∙ zip.0))
      (λ later. let (y, here, at) = position_in ys js zip.1 j later in (y, is_later z y ys here, at))
      (first_or_later k j js is)

  pub as_many : (ys : List P) (js : List ℕ) → AreNumbers ys js → length ys ≡ length js
  as_many [] [] zip = refl
  as_many [] (k ∷ js) zip = absurd zip
  as_many (z ∷ ys) [] zip = absurd zip
  as_many (z ∷ ys) (k ∷ js) zip = let same : length ys ≡ length js = as_many ys js zip.1 in omega arith

  -- different positions have different numbers
  pub numbers_once : (ys : List P) (js : List ℕ) → AreNumbers ys js → IsOnce ys → IsOnce js
  numbers_once [] [] zip once = tt
  numbers_once [] (k ∷ js) zip once = absurd zip
  numbers_once (z ∷ ys) [] zip once = absurd zip
  numbers_once (z ∷ ys) (k ∷ js) zip once = (
    λ is.
        let (y, here, at) = position_in ys js zip.1 k is in
        let same : y ≡ z = same_Some y z (sym at ∙ zip.0) in
        once.0 (subst (λ (u : P). Contains ys u) same here),
    numbers_once ys js zip.1 once.1,
  )

  -- the numbers below n that pass, with their positions
  pub record Those (n : ℕ) (test : ℕ → Bool) : Type 0 where
    pub ys : List P
    pub js : List ℕ
    pub numbers : AreNumbers ys js
    pub each : (j : ℕ) → Contains js j ↔ ((j < n) × (test j ≡ true))
    pub once : IsOnce js

  module _ (distinct : (i j : ℕ) (x : P) → slice_get known i ≡ Some x → slice_get known j ≡ Some x → i ≡ j) where
    -- different numbers are those of different positions
    pub positions_once : (ys : List P) (js : List ℕ) → AreNumbers ys js → IsOnce js → IsOnce ys
    positions_once [] [] zip once = tt
    positions_once [] (k ∷ js) zip once = absurd zip
    positions_once (z ∷ ys) [] zip once = absurd zip
    positions_once (z ∷ ys) (k ∷ js) zip once = (
      λ is.
          let (j, here, at) = number_in ys js zip.1 z is in
          once.0 (subst (λ (i : ℕ). Contains js i) (distinct j k z at zip.0) here),
      positions_once ys js zip.1 once.1,
    )

  pub those : (n : ℕ) (test : ℕ → Bool) → n ≤ length known → Those n test
  those zero test within = record {
    ys = [];
    js = [];
    numbers = tt;
    each = λ j. ((λ is. absurd (none_in_empty j is)), (λ (lt, _). absurd (omega arith)));
    once = tt;
  }
  those (suc n) test within = go (true_or_false (test n)) (those n test (omega arith))
    where
      go : (test n ≡ true) ⊎ (test n ≡ false) → Those n test → Those (suc n) test
      go (inl passes) was =
          let (y, at) = element known n (omega arith) in
          record {
            ys = y ∷ was.ys;
            js = n ∷ was.js;
            numbers = (at, was.numbers);
            each = λ j. (
              (λ is.
                  ⊎_elim
                  (λ same. (omega arith, ap test (sym same) ∙ passes))
                  (λ later. let (lt, is_so) = (was.each j).0 later in (omega arith, is_so))
                  (first_or_later n j was.js is)),
              (λ (lt, is_so).
                  ⊎_elim
                  (λ below. is_later n j was.js ((was.each j).1 (below, is_so)))
                  (λ above. let same : n ≡ j = omega arith in subst (λ (k : ℕ). Contains (n ∷ was.js) k) same (is_first n was.js))
                  (cases_lt j n)),
            );
            once = ((λ is. let (lt, _) = (was.each n).0 is in absurd (omega arith)), was.once);
          }
      go (inr fails) was = record {
        ys = was.ys;
        js = was.js;
        numbers = was.numbers;
        each = λ j. (
          (λ is. let (lt, is_so) = (was.each j).0 is in (omega arith, is_so)),
          (λ (lt, is_so).
              ⊎_elim
              (λ below. (was.each j).1 (below, is_so))
              (λ above. let same : j ≡ n = omega arith in let no_way : true ≡ false = sym is_so ∙ (ap test same ∙ fails) in cc)
              (cases_lt j n)),
        );
        once = was.once;
      }
