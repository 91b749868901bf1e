-- What is stored once the successors of a position are added.
use Rattle.std.proofs.Common.{◌≡◌, ◌∙◌, sym, ap, subst, ℕ, zero, suc, ◌+◌, ◌≤◌, ◌<◌, ◌⊎◌, inl, inr, ⊎_elim, Bool, true, false, eqb, ◌&&◌, ◌||◌, cond, Some, List, [], ◌∷◌, ◌++◌, length, refl, arith, slice_get}
use Rattle.std.specs.Prelude.{count_by, Contains}
use Rattle.std.specs.declared.cmp.Ordering.{Ordering}
use Rattle.std.specs.declared.cmp.Ordering.TheVariants.{Less, Equal}
use Rattle.std.specs.Cmp.{IsTotalOrder}
use Rattle.std.specs.List.Sorted.{IsStrictlySortedBy}
use Rattle.std.proofs.lemmas.Cmp.{tied_itself}
use Rattle.std.proofs.lemmas.Option.{same_Some, slice_get_within}
use Rattle.std.proofs.lemmas.Bool.{cases_eq, eqb-true, eq-eqb}
use Rattle.std.proofs.lemmas.Bool.Decides.{eqb_tells}
use Rattle.std.proofs.lemmas.List.{length_push}
use Rattle.std.proofs.lemmas.List.Sums.{sum_by-append, sum_by-cons}
use Rattle.std.proofs.lemmas.List.Elements.{All-contains}
use Rattle.std.proofs.lemmas.Map.Keys.{sorted_tail}
use Rattle.std.proofs.lemmas.Map.Views.{All-after_first}
use Rattle.retrograde.specs.declared.records.Record.{Record}
use Rattle.retrograde.specs.Stored.{Stored, count_below}
use Rattle.retrograde.specs.Changes.{fresh_record, with_position, with_edge}
use Rattle.retrograde.specs.lemmas.Expansion.{IsNoted, AreNoted}
use Rattle.retrograde.proofs.CountLemmas.{true_or_false, counts_one, counts_none}

pub is_first : {P : Type 0} (y : P) (ys : List P) → Contains (y ∷ ys) y
is_first y ys = (0, omega arith, refl)

pub is_later : {P : Type 0} (y z : P) (ys : List P) → Contains ys z → Contains (y ∷ ys) z
is_later y z ys (k, within, is) = (suc k, omega arith, is)

pub first_or_later : {P : Type 0} (y z : P) (ys : List P) → Contains (y ∷ ys) z → (y ≡ z) ⊎ Contains ys z
first_or_later y z ys (zero, within, is) = inl is
first_or_later y z ys (suc k, within, is) = inr (k, omega arith, is)

pub none_in_empty : {P : Type 0} (z : P) → Contains {X = P} [] z → ⊥
none_in_empty z (k, within, is) = absurd (omega arith)

pub only_first : {P : Type 0} (y z : P) → Contains (y ∷ []) z → y ≡ z
only_first y z is = ⊎_elim (λ same. same) (λ none. absurd (none_in_empty z none)) (first_or_later y z [] is)

-- a list with one more at its end
pub push_before : {A : Type 0} (xs : List A) (y : A) (i : ℕ) (x : A) → slice_get xs i ≡ Some x → slice_get (xs ++ y ∷ []) i ≡ Some x
push_before [] y i x e = cc
push_before (z ∷ xs) y zero x e = e
push_before (z ∷ xs) y (suc i) x e = push_before xs y i x e

pub push_at : {A : Type 0} (xs : List A) (y : A) → slice_get (xs ++ y ∷ []) (length xs) ≡ Some y
push_at [] y = refl
push_at (z ∷ xs) y = push_at xs y

pub push_cases : {A : Type 0} (xs : List A) (y : A) (i : ℕ) (x : A) → slice_get (xs ++ y ∷ []) i ≡ Some x
    → (slice_get xs i ≡ Some x) ⊎ ((i ≡ length xs) × (y ≡ x))
push_cases [] y zero x e = inr (refl, same_Some y x e)
push_cases [] y (suc i) x e = cc
push_cases (z ∷ xs) y zero x e = inl e
push_cases (z ∷ xs) y (suc i) x e = ⊎_elim (λ before. inl before) (λ (at, is). inr (ap (λ (n : ℕ). suc n) at, is)) (push_cases xs y i x e)

pub count_push : {A : Type 0} (test : A → Bool) (xs : List A) (y : A) → test y ≡ false → count_by test (xs ++ y ∷ []) ≡ count_by test xs
count_push test xs y fails =
    let total : count_by test (xs ++ y ∷ []) ≡ count_by test xs + count_by test (y ∷ []) = sum_by-append (λ z. cond (test z) 1 0) xs (y ∷ []) in
    let one : count_by test (y ∷ []) ≡ cond (test y) 1 0 + 0 = sum_by-cons (λ z. cond (test z) 1 0) y [] in
    let none : ◌≡◌ {A = ℕ} (cond (test y) 1 0) 0 = ap (λ (b : Bool). cond b 1 0) fails in
    omega arith

-- counts below a bound
pub count_same : (n : ℕ) (a b : ℕ → Bool) → ((j : ℕ) → j < n → a j ≡ b j) → count_below n a ≡ count_below n b
count_same zero a b same = refl
count_same (suc n) a b same =
    let here : ◌≡◌ {A = ℕ} (cond (a n) 1 0) (cond (b n) 1 0) = ap (λ (t : Bool). cond t 1 0) (same n (omega arith)) in
    let below : count_below n a ≡ count_below n b = count_same n a b (λ j lt. same j (omega arith)) in
    omega arith

pub count_past : (n k : ℕ) (a : ℕ → Bool) → ((j : ℕ) → n ≤ j → a j ≡ false) → count_below (n + k) a ≡ count_below n a
count_past n zero a none = let e : n + 0 ≡ n = omega arith in ap (λ (m : ℕ). count_below m a) e
count_past n (suc k) a none =
    let e : n + suc k ≡ suc (n + k) = omega arith in
    let here : count_below (suc (n + k)) a ≡ count_below (n + k) a = counts_none a (n + k) (none (n + k) (omega arith)) in
    ap (λ (m : ℕ). count_below m a) e ∙ (here ∙ count_past n k a none)

pub count_one_more : (n j : ℕ) (a b : ℕ → Bool) → j < n → a j ≡ false → b j ≡ true → ((k : ℕ) → (k ≡ j → ⊥) → b k ≡ a k)
    → count_below n b ≡ suc (count_below n a)
count_one_more zero j a b lt fails passes others = absurd (omega arith)
count_one_more (suc n) j a b lt fails passes others =
    ⊎_elim
    (λ same.
    let fails' : a n ≡ false = subst (λ (k : ℕ). a k ≡ false) same fails in
    let passes' : b n ≡ true = subst (λ (k : ℕ). b k ≡ true) same passes in
    let below : count_below n b ≡ count_below n a = count_same n b a (λ k k_in. others k (λ e. let wrong : k ≡ n = e ∙ same in omega arith)) in
    let p : count_below (suc n) b ≡ suc (count_below n b) = counts_one b n passes' in
    let q : count_below (suc n) a ≡ count_below n a = counts_none a n fails' in
    omega arith)
    (λ other.
    let below : count_below n b ≡ suc (count_below n a) = count_one_more n j a b (omega arith) fails passes others in
    let here : ◌≡◌ {A = ℕ} (cond (b n) 1 0) (cond (a n) 1 0) = ap (λ (t : Bool). cond t 1 0) (others n (λ e. other (sym e))) in
    omega arith)
    (cases_eq j n)

-- one more edge
pub edge_cases : (b : Bool) (j i q p : ℕ) → (b || (eqb j i && eqb q p)) ≡ true → (b ≡ true) ⊎ ((j ≡ i) × (q ≡ p))
edge_cases true j i q p is = inl refl
edge_cases false j i q p is = go (eqb j i) (eqb q p) refl refl is
  where
    go : (a c : Bool) → eqb j i ≡ a → eqb q p ≡ c → (a && c) ≡ true → (false ≡ true) ⊎ ((j ≡ i) × (q ≡ p))
    go true true x y both = inr (eqb-true j i x, eqb-true q p y)
    go true false x y both = cc
    go false c x y both = cc

pub edge_kept : (b c : Bool) → b ≡ true → (b || c) ≡ true
edge_kept true c is = refl
edge_kept false c is = cc

edge_made : (b : Bool) (i p : ℕ) → (b || (eqb i i && eqb p p)) ≡ true
edge_made true i p = refl
edge_made false i p = rw (eq-eqb i i refl, eq-eqb p p refl) refl

edge_other : (b : Bool) (j i q p : ℕ) → (q ≡ p → ⊥) → (b || (eqb j i && eqb q p)) ≡ b
edge_other true j i q p apart = refl
edge_other false j i q p apart = ⊎_elim (λ (is, same). absurd (apart same)) (λ (is, other). rw is (go (eqb j i))) (eqb_tells q p)
  where
    go : (a : Bool) → (a && false) ≡ false
    go true = refl
    go false = refl

edge_elsewhere : (b : Bool) (j i q p : ℕ) → (j ≡ i → ⊥) → (b || (eqb j i && eqb q p)) ≡ b
edge_elsewhere true j i q p apart = refl
edge_elsewhere false j i q p apart = ⊎_elim (λ (is, same). absurd (apart same)) (λ (is, other). rw is refl) (eqb_tells j i)

-- what is stored once all of these are added, each with its edge from e
pub record Adds {P : Type 0} (e : ℕ) (ys : List P) (old new : Stored P) : Type 0 where
  pub order : new.order ≡ old.order
  pub longer : length old.positions ≤ length new.positions
  pub more : length old.records ≤ length new.records
  pub kept : (i : ℕ) (y : P) → slice_get old.positions i ≡ Some y → slice_get new.positions i ≡ Some y
  pub found : (i : ℕ) (y : P) → slice_get new.positions i ≡ Some y
      → (slice_get old.positions i ≡ Some y) ⊎ ((length old.positions ≤ i) × Contains ys y)
  pub records : (i : ℕ) (r : Record) → slice_get old.records i ≡ Some r → slice_get new.records i ≡ Some r
  pub recorded : (i : ℕ) (r : Record) → slice_get new.records i ≡ Some r
      → (slice_get old.records i ≡ Some r) ⊎ ((length old.records ≤ i) × (fresh_record ≡ r))
  pub count : (test : Record → Bool) → test fresh_record ≡ false → count_by test new.records ≡ count_by test old.records
  pub edges : (i p : ℕ) → old.has_edge i p ≡ true → new.has_edge i p ≡ true
  pub edged : (i p : ℕ) → new.has_edge i p ≡ true
      → (old.has_edge i p ≡ true) ⊎ ((p ≡ e) × ((y : P) × Contains ys y × (slice_get new.positions i ≡ Some y)))
  pub others : (i p : ℕ) → (p ≡ e → ⊥) → new.has_edge i p ≡ old.has_edge i p
  pub all : (y : P) → Contains ys y → (j : ℕ) × (slice_get new.positions j ≡ Some y) × (new.has_edge j e ≡ true)

-- no position has two numbers
abbrev pub IsApart : {P : Type 0} → Stored P → Type 0
IsApart {P} a = (i j : ℕ) (x : P) → slice_get a.positions i ≡ Some x → slice_get a.positions j ≡ Some x → i ≡ j

-- edges lead to what is known
abbrev pub EdgesFit : {P : Type 0} → Stored P → Type 0
EdgesFit a = (i p : ℕ) → a.has_edge i p ≡ true → i < length a.positions

-- how many edges lead from e
abbrev pub edges_from : {P : Type 0} → ℕ → Stored P → ℕ
edges_from e a = count_below (length a.positions) (λ j. a.has_edge j e)

module _ {P : Type 0} (e : ℕ) where
  one_known : (y : P) (a : Stored P) (i : ℕ) → slice_get a.positions i ≡ Some y → Adds e (y ∷ []) a (with_edge a i e)
  one_known y a i at = record {
    order = refl;
    longer = omega arith;
    more = omega arith;
    kept = λ j z is. is;
    found = λ j z is. inl is;
    records = λ j r is. is;
    recorded = λ j r is. inl is;
    count = λ test fails. refl;
    edges = λ j p is. edge_kept (a.has_edge j p) (eqb j i && eqb p e) is;
    edged = λ j p is.
        ⊎_elim
        (λ before. inl before)
        (λ (here, from). inr (from, (y, is_first y [], subst (λ (k : ℕ). slice_get a.positions k ≡ Some y) (sym here) at)))
        (edge_cases (a.has_edge j p) j i p e is);
    others = λ j p apart. edge_other (a.has_edge j p) j i p e apart;
    all = λ z is.
        (i, at ∙ ap (λ (u : P). Some u) (only_first y z is), edge_made (a.has_edge i e) i e);
  }

  one_new : (y : P) (a : Stored P) → Adds e (y ∷ []) a (with_edge (with_position a y) (length a.positions) e)
  one_new y a = record {
    order = refl;
    longer = let p : length (a.positions ++ y ∷ []) ≡ length a.positions + 1 = length_push a.positions y in omega arith;
    more = let p : length (a.records ++ fresh_record ∷ []) ≡ length a.records + 1 = length_push a.records fresh_record in omega arith;
    kept = λ j z is. push_before a.positions y j z is;
    found = λ j z is.
        ⊎_elim
        (λ before. inl before)
        (λ (at, same). let le : length a.positions ≤ j = omega arith in inr (le, subst (λ (u : P). Contains (y ∷ []) u) same (is_first y [])))
        (push_cases a.positions y j z is);
    records = λ j r is. push_before a.records fresh_record j r is;
    recorded = λ j r is.
        ⊎_elim
        (λ before. inl before)
        (λ (at, same). let le : length a.records ≤ j = omega arith in inr (le, same))
        (push_cases a.records fresh_record j r is);
    count = λ test fails. count_push test a.records fresh_record fails;
    edges = λ j p is. edge_kept (a.has_edge j p) (eqb j (length a.positions) && eqb p e) is;
    edged = λ j p is.
        ⊎_elim
        (λ before. inl before)
        (λ (here, from). inr (from, (y, is_first y [], subst (λ (k : ℕ). slice_get (a.positions ++ y ∷ []) k ≡ Some y) (sym here) (push_at a.positions y))))
        (edge_cases (a.has_edge j p) j (length a.positions) p e is);
    others = λ j p apart. edge_other (a.has_edge j p) j (length a.positions) p e apart;
    all = λ z is. (
      length a.positions,
      push_at a.positions y ∙ ap (λ (u : P). Some u) (only_first y z is),
      edge_made (a.has_edge (length a.positions) e) (length a.positions) e,
    );
  }

  pub adds_one : (y : P) (a b : Stored P) → IsNoted e y a b → Adds e (y ∷ []) a b
  adds_one y a b (inl (j, at, is)) = subst (λ (t : Stored P). Adds e (y ∷ []) a t) (sym is) (one_known y a j at)
  adds_one y a b (inr (new, is)) = subst (λ (t : Stored P). Adds e (y ∷ []) a t) (sym is) (one_new y a)

  adds_none : (a : Stored P) → Adds e [] a a
  adds_none a = record {
    order = refl;
    longer = omega arith;
    more = omega arith;
    kept = λ j z is. is;
    found = λ j z is. inl is;
    records = λ j r is. is;
    recorded = λ j r is. inl is;
    count = λ test fails. refl;
    edges = λ j p is. is;
    edged = λ j p is. inl is;
    others = λ j p apart. refl;
    all = λ z is. absurd (none_in_empty z is);
  }

  adds_along : (y : P) (ys : List P) (a b c : Stored P) → Adds e (y ∷ []) a b → Adds e ys b c → Adds e (y ∷ ys) a c
  adds_along y ys a b c one rest = record {
    order = rest.order ∙ one.order;
    longer = let p : length a.positions ≤ length b.positions = one.longer in let q : length b.positions ≤ length c.positions = rest.longer in omega arith;
    more = let p : length a.records ≤ length b.records = one.more in let q : length b.records ≤ length c.records = rest.more in omega arith;
    kept = λ j z is. rest.kept j z (one.kept j z is);
    found = λ j z is.
        ⊎_elim
        (λ before.
        ⊎_elim
        (λ first. inl first)
        (λ (le, here). inr (le, subst (λ (u : P). Contains (y ∷ ys) u) (only_first y z here) (is_first y ys)))
        (one.found j z before))
        (λ (le, here). let p : length a.positions ≤ length b.positions = one.longer in let le' : length a.positions ≤ j = omega arith in
        inr (le', is_later y z ys here))
        (rest.found j z is);
    records = λ j r is. rest.records j r (one.records j r is);
    recorded = λ j r is.
        ⊎_elim
        (λ before. one.recorded j r before)
        (λ (le, same). let p : length a.records ≤ length b.records = one.more in let le' : length a.records ≤ j = omega arith in inr (le', same))
        (rest.recorded j r is);
    count = λ test fails. rest.count test fails ∙ one.count test fails;
    edges = λ j p is. rest.edges j p (one.edges j p is);
    edged = λ j p is.
        ⊎_elim
        (λ before.
        ⊎_elim
        (λ first. inl first)
        (λ (from, (z, here, at)). inr (from, (z, subst (λ (u : P). Contains (y ∷ ys) u) (only_first y z here) (is_first y ys), rest.kept j z at)))
        (one.edged j p before))
        (λ (from, (z, here, at)). inr (from, (z, is_later y z ys here, at)))
        (rest.edged j p is);
    others = λ j p apart. rest.others j p apart ∙ one.others j p apart;
    all = λ z is.
        ⊎_elim
        (λ same.
        let (j, at, edge) = one.all z (subst (λ (u : P). Contains (y ∷ []) u) same (is_first y [])) in
        (j, rest.kept j z at, rest.edges j e edge))
        (λ later. rest.all z later)
        (first_or_later y z ys is);
  }

  pub adds_all : (ys : List P) (a b : Stored P) → AreNoted e ys a b → Adds e ys a b
  adds_all [] a b same = subst (λ (t : Stored P). Adds e [] a t) (sym same) (adds_none a)
  adds_all (y ∷ ys) a b (next, first, rest) = adds_along y ys a next b (adds_one y a next first) (adds_all ys next b rest)

  pub fit_still : (ys : List P) (a b : Stored P) → Adds e ys a b → EdgesFit a → EdgesFit b
  fit_still ys a b adds fit i p is =
      ⊎_elim
      (λ before. let lt : i < length a.positions = fit i p before in let le : length a.positions ≤ length b.positions = adds.longer in omega arith)
      (λ (from, (z, here, at)). slice_get_within b.positions i z at)
      (adds.edged i p is)

  apart_one : (y : P) (a b : Stored P) → IsNoted e y a b → IsApart a → IsApart b
  apart_one y a b (inl (j, at, is)) apart = subst (λ (t : Stored P). IsApart t) (sym is) apart
  apart_one y a b (inr (new, is)) apart = subst (λ (t : Stored P). IsApart t) (sym is) pushed
    where
      pushed : IsApart (with_edge (with_position a y) (length a.positions) e)
      pushed i j x here there =
          ⊎_elim
          (λ i_before.
          ⊎_elim
          (λ j_before. apart i j x i_before j_before)
          (λ (at, same). absurd (new i (i_before ∙ ap (λ (u : P). Some u) (sym same))))
          (push_cases a.positions y j x there))
          (λ (i_at, i_same).
          ⊎_elim
          (λ j_before. absurd (new j (j_before ∙ ap (λ (u : P). Some u) (sym i_same))))
          (λ (at, same). i_at ∙ sym at)
          (push_cases a.positions y j x there))
          (push_cases a.positions y i x here)

  pub apart_all : (ys : List P) (a b : Stored P) → AreNoted e ys a b → IsApart a → IsApart b
  apart_all [] a b same apart = subst (λ (t : Stored P). IsApart t) (sym same) apart
  apart_all (y ∷ ys) a b (next, first, rest) apart = apart_all ys next b rest (apart_one y a next first apart)

  count_known : (y : P) (a : Stored P) (i : ℕ) → slice_get a.positions i ≡ Some y → a.has_edge i e ≡ false
      → edges_from e (with_edge a i e) ≡ suc (edges_from e a)
  count_known y a i at fresh =
      count_one_more (length a.positions) i (λ j. a.has_edge j e) (λ j. (with_edge a i e).has_edge j e) (slice_get_within a.positions i y at) fresh
      (edge_made (a.has_edge i e) i e)
      (λ k other. edge_elsewhere (a.has_edge k e) k i e e other)

  count_new : (y : P) (a : Stored P) → EdgesFit a → edges_from e (with_edge (with_position a y) (length a.positions) e) ≡ suc (edges_from e a)
  count_new y a fit =
      let n : length (a.positions ++ y ∷ []) ≡ suc (length a.positions) = let p : length
      (a.positions ++ y ∷ []) ≡ length a.positions + 1 = length_push a.positions y in omega arith in
      let last : count_below (suc (length a.positions)) (λ j. (with_edge (with_position a y) (length a.positions) e).has_edge j e)
      ≡ suc (count_below (length a.positions) (λ j. (with_edge (with_position a y) (length a.positions) e).has_edge j e))
      = counts_one (λ j. (with_edge (with_position a y) (length a.positions) e).has_edge j e) (length a.positions)
      (edge_made (a.has_edge (length a.positions) e) (length a.positions) e) in
      let below : count_below (length a.positions) (λ j. (with_edge (with_position a y) (length a.positions) e).has_edge j e) ≡ edges_from e a
      = count_same (length a.positions) (λ j. (with_edge (with_position a y) (length a.positions) e).has_edge j e) (λ j. a.has_edge j e)
      (λ k lt. edge_elsewhere (a.has_edge k e) k (length a.positions) e e (λ same. omega arith)) in
      ap (λ (m : ℕ). count_below m (λ j. (with_edge (with_position a y) (length a.positions) e).has_edge j e)) n
      ∙ (last ∙ ap (λ (m : ℕ). suc m) below)

  count_step : (y : P) (a b : Stored P) → IsNoted e y a b → EdgesFit a → ((j : ℕ) → slice_get a.positions j ≡ Some y → a.has_edge j e ≡ false)
      → edges_from e b ≡ suc (edges_from e a)
  count_step y a b (inl (j, at, is)) fit fresh = ap (λ (t : Stored P). edges_from e t) is ∙ count_known y a j at (fresh j at)
  count_step y a b (inr (new, is)) fit fresh = ap (λ (t : Stored P). edges_from e t) is ∙ count_new y a fit

  -- as many edges from e are added as positions
  pub count_all : (cmp : P → P → Ordering) → IsTotalOrder cmp → (ys : List P) (a b : Stored P) → IsStrictlySortedBy cmp ys → AreNoted e ys a b → EdgesFit a
      → ((y : P) (j : ℕ) → Contains ys y → slice_get a.positions j ≡ Some y → a.has_edge j e ≡ false)
      → edges_from e b ≡ edges_from e a + length ys
  count_all cmp laws [] a b sorted same fit fresh = let p : edges_from e b ≡ edges_from e a = ap (λ (t : Stored P). edges_from e t) same in omega arith
  count_all cmp laws (y ∷ ys) a b sorted (next, first, rest) fit fresh =
      let adds : Adds e (y ∷ []) a next = adds_one y a next first in
      let one : edges_from e next ≡ suc (edges_from e a) = count_step y a next first fit (λ j at. fresh y j (is_first y ys) at) in
      let more : edges_from e b ≡ edges_from e next + length ys =
      count_all cmp laws ys next b (sorted_tail cmp y ys sorted) rest (fit_still (y ∷ []) a next adds fit)
      (λ z j here at. still adds z j here at (true_or_false (next.has_edge j e))) in
      omega arith
    where
      twice : Contains ys y → ⊥
      twice here =
          let less : cmp y y ≡ Less = All-contains (λ q. cmp y q ≡ Less) ys y (All-after_first cmp y ys sorted) here in
          let tied : cmp y y ≡ Equal = tied_itself laws y in
          cc

      still : Adds e (y ∷ []) a next → (z : P) (j : ℕ) → Contains ys z → slice_get next.positions j ≡ Some z
          → (next.has_edge j e ≡ true) ⊎ (next.has_edge j e ≡ false) → next.has_edge j e ≡ false
      still adds z j here at (inr fails) = fails
      still adds z j here at (inl passes) =
          ⊎_elim
          (λ before.
          ⊎_elim
          (λ known. let none : a.has_edge j e ≡ false = fresh z j (is_later y z ys here) known in cc)
          (λ (le, _). let lt : j < length a.positions = fit j e before in absurd (omega arith))
          (adds.found j z at))
          (λ (from, (u, is_y, u_at)).
          let same : u ≡ z = same_Some u z (sym u_at ∙ at) in
          absurd (twice (subst (λ (v : P). Contains ys v) (sym (only_first y u is_y ∙ same)) here)))
          (adds.edged j e passes)
