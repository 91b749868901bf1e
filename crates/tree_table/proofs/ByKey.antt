-- Entries by number, by position and by edge, once an entry was put.
use Rattle.std.proofs.Common.{◌≡◌, ◌≢◌, ◌⊎◌, inl, inr, ℕ, ◌^◌, ◌<◌, ◌≤◌, List, [], ◌∷◌, ◌++◌, length, set, Bool, true, false, ◌||◌, ◌&&◌, ◌==◌, Option, Some, refl, sym, ◌∙◌, ap, subst, arith}
use Rattle.std.specs.Prelude.{slice_get, IsSome}
use Rattle.std.proofs.lemmas.Bool.{or_cases, eqb-true, eq-eqb}
use Rattle.std.proofs.Math.Bool.{or-true}
use Rattle.std.specs.Option.{is_some}
use Rattle.std.proofs.lemmas.Option.{slice_get_within}
use Rattle.std.proofs.lemmas.List.{length-set}
use Rattle.btree.specs.Page.{Item}
use Rattle.btree.specs.Entries.{find_entry, put_entry}
use Rattle.btree.specs.lemmas.PutEntries.{a_put_is_found, others_are_found}
use Rattle.tree_table.specs.Entries.{number_key, edge_key, AreByNumber, AreByPosition, AreByEdge}
use Rattle.game_file.specs.Bytes.{IsNumber}
use Rattle.tree_table.specs.lemmas.Lists.{set_cases, push_cases, push_keeps, push_last, push_long}
use Rattle.tree_table.specs.lemmas.Numbers.{same_number, same_edge}
use Rattle.tree_table.proofs.Puts.{found_now, keys_same}

-- one thing more, with the next number
pub number_pushed : {A : Type 0} (IsOf : List ℕ → A → Type 0) (es : List Item) (xs : List A) (x : A) (v : List ℕ) → length xs < 2 ^ 32
    → AreByNumber IsOf es xs → IsOf v x
    → AreByNumber IsOf (put_entry es (number_key (length xs)) v) (xs ++ x ∷ [])
number_pushed {A} IsOf es xs x v few are new = record { each = each; only = only }
  where
    each : (i : ℕ) (y : A) → slice_get (xs ++ x ∷ []) i ≡ Some y → (value : List ℕ)
        × (find_entry (put_entry es (number_key (length xs)) v) (number_key i) ≡ Some value) × IsOf value y
    each i y at = elim (push_cases xs x i y at) [
      | inl was ↦
          let low : i < length xs = slice_get_within xs i y was in
          let (value, found, of) = are.each i y was in (
            value,
            others_are_found es (number_key (length xs)) v (number_key i)
                (λ same. let e : i ≡ length xs = same_number i (length xs) (omega (arith, low, few)) few same in omega (arith, e, low)) ∙ found,
            of,
          )
      | inr last ↦ (
        v,
        ap (λ (k : ℕ). find_entry (put_entry es (number_key (length xs)) v) (number_key k)) last.0 ∙ a_put_is_found es (number_key (length xs)) v,
        subst (λ (z : A). IsOf v z) last.1 new,
      )
    ]

    only : (k value : List ℕ) → find_entry (put_entry es (number_key (length xs)) v) k ≡ Some value → (i : ℕ) × (k ≡ number_key i) × (i < length (xs ++ x ∷ []))
    only k value found = elim (found_now es (number_key (length xs)) v k value found) [
      | inl here ↦ (length xs, here.0, omega (arith, push_long xs x))
      | inr was ↦ let (i, is, low) = are.only k value was.1 in (i, is, omega (arith, low, push_long xs x))
    ]

-- another thing with one of the numbers
pub number_set : {A : Type 0} (IsOf : List ℕ → A → Type 0) (es : List Item) (xs : List A) (i : ℕ) (x : A) (v : List ℕ) → length xs < 2 ^ 32
    → i < length xs → AreByNumber IsOf es xs → IsOf v x
    → AreByNumber IsOf (put_entry es (number_key i) v) (set xs i x)
number_set {A} IsOf es xs i x v few low are new = record { each = each; only = only }
  where
    each : (j : ℕ) (y : A) → slice_get (set xs i x) j ≡ Some y → (value : List ℕ)
        × (find_entry (put_entry es (number_key i) v) (number_key j) ≡ Some value) × IsOf value y
    each j y at = elim (set_cases xs i x j y at) [
      | inl here ↦ (
        v,
        ap (λ (k : ℕ). find_entry (put_entry es (number_key i) v) (number_key k)) here.0
            ∙ a_put_is_found es (number_key i) v,
        subst (λ (z : A). IsOf v z) here.1 new,
      )
      | inr other ↦
          let within : j < length xs = slice_get_within xs j y other.1 in
          let (value, found, of) = are.each j y other.1 in (
            value,
            others_are_found es (number_key i) v (number_key j)
                (λ same. other.0 (same_number j i (omega (arith, within, few)) (omega (arith, low, few)) same)) ∙ found,
            of,
          )
    ]

    only : (k value : List ℕ) → find_entry (put_entry es (number_key i) v) k ≡ Some value → (j : ℕ) × (k ≡ number_key j) × (j < length (set xs i x))
    only k value found = elim (found_now es (number_key i) v k value found) [
      | inl here ↦ (i, here.0, omega (arith, low, length-set xs i x))
      | inr was ↦ let (j, is, within) = are.only k value was.1 in (j, is, omega (arith, within, length-set xs i x))
    ]

-- one position more
pub position_pushed : (es : List Item) (xs : List (List ℕ)) (x v : List ℕ) → ((i : ℕ) → slice_get xs i ≡ Some x → ⊥) → AreByPosition es xs
    → IsNumber v (length xs)
    → AreByPosition (put_entry es x v) (xs ++ x ∷ [])
position_pushed es xs x v unknown are new = record { each = each; only = only }
  where
    each : (i : ℕ) (y : List ℕ) → slice_get (xs ++ x ∷ []) i ≡ Some y → (value : List ℕ) × (find_entry (put_entry es x v) y ≡ Some value) × IsNumber value i
    each i y at = elim (push_cases xs x i y at) [
      | inl was ↦
          let (value, found, of) = are.each i y was in
          (value, others_are_found es x v y (λ same. unknown i (was ∙ ap Some same)) ∙ found, of)
      | inr last ↦ (v, ap (find_entry (put_entry es x v)) (sym last.1) ∙ a_put_is_found es x v, subst (λ (n : ℕ). IsNumber v n) (sym last.0) new)
    ]

    only : (k value : List ℕ) → find_entry (put_entry es x v) k ≡ Some value → (i : ℕ) × (slice_get (xs ++ x ∷ []) i ≡ Some k)
    only k value found = elim (found_now es x v k value found) [
      | inl here ↦ (length xs, push_last xs x ∙ ap Some (sym here.0))
      | inr was ↦ let (i, is) = are.only k value was.1 in (i, push_keeps xs x i k is)
    ]

-- two truths together
both : (a b : Bool) → (a && b) ≡ true → (a ≡ true) × (b ≡ true)
both true b is = (refl, is)
both false b is = absurd (cc)

or_first : (a b : Bool) → a ≡ true → (a || b) ≡ true
or_first true b is = refl
or_first false b is = absurd (cc)

itself : (a : Bool) (i p : ℕ) → (a || (i == i && p == p)) ≡ true
itself a i p = ap (λ b. a || b) (λ k. eq-eqb i i refl k && eq-eqb p p refl k) ∙ or-true a

some_there : (o : Option (List ℕ)) (v : List ℕ) → o ≡ Some v → IsSome o
some_there o v is = ap is_some is

-- an edge more
module _ (es : List Item) (known i p : ℕ) (has : ℕ → ℕ → Bool) (few : known ≤ 2 ^ 24) (to : i < known) (from : p < known) (are : AreByEdge es known has) where
  -- which edges there are then
  cases : (j q : ℕ) → (has j q || (j == i && q == p)) ≡ true → (has j q ≡ true) ⊎ ((j ≡ i) × (q ≡ p))
  cases j q is = elim (or_cases (has j q) (j == i && q == p) is) [
    | inl was ↦ inl was
    | inr new ↦ let (one, two) = both (j == i) (q == p) new in inr (eqb-true j i one, eqb-true q p two)
  ]

  between_now : (j q : ℕ) → (has j q || (j == i && q == p)) ≡ true → (j < known) × (q < known)
  between_now j q is = elim (cases j q is) [
    | inl was ↦ are.between j q was
    | inr here ↦ (omega (arith, here.0, to), omega (arith, here.1, from))
  ]

  pub edge_added : AreByEdge (put_entry es (edge_key i p) []) known (λ j q. has j q || (j == i && q == p))
  edge_added = record { each = each; only = only; between = between_now }
    where
      found : (j q : ℕ) → (edge_key j q ≡ edge_key i p) ⊎ (edge_key j q ≢ edge_key i p) → IsSome (find_entry es (edge_key j q)) ⊎ (edge_key j q ≡ edge_key i p)
          → IsSome (find_entry (put_entry es (edge_key i p) []) (edge_key j q))
      found j q (inl same) there = ap (λ (k : List ℕ). is_some (find_entry (put_entry es (edge_key i p) []) k)) same
          ∙ ap is_some (a_put_is_found es (edge_key i p) [])
      found j q (inr other) (inl there) = ap is_some (others_are_found es (edge_key i p) [] (edge_key j q) other) ∙ there
      found j q (inr other) (inr same) = absurd (other same)

      each : (j q : ℕ) → (has j q || (j == i && q == p)) ≡ true → IsSome (find_entry (put_entry es (edge_key i p) []) (edge_key j q))
      each j q is = found j q (keys_same (edge_key j q) (edge_key i p)) (elim (cases j q is) [
        | inl was ↦ inl (are.each j q was)
        | inr here ↦ inr (λ k. edge_key (here.0 k) (here.1 k))
      ])

      only : (k value : List ℕ) → find_entry (put_entry es (edge_key i p) []) k ≡ Some value → (j q : ℕ) × (k ≡ edge_key j q)
          × ((has j q || (j == i && q == p)) ≡ true)
      only k value is = elim (found_now es (edge_key i p) [] k value is) [
        | inl here ↦ (i, p, here.0, itself (has i p) i p)
        | inr was ↦ let (j, q, same, there) = are.only k value was.1 in (j, q, same, or_first (has j q) (j == i && q == p) there)
      ]

  -- or one that was there
  there_already : (value : List ℕ) → find_entry es (edge_key i p) ≡ Some value → has i p ≡ true
  there_already value is =
      let (j, q, same, there) = are.only (edge_key i p) value is in
      let (low, less) = are.between j q there in
      let (one, two) = same_edge i p j q (omega (arith, to, few)) (omega (arith, from, few)) (omega (arith, low, few)) (omega (arith, less, few)) same in
      (λ k. has (one k) (two k)) ∙ there

  pub edge_again : (value : List ℕ) → find_entry es (edge_key i p) ≡ Some value → AreByEdge es known (λ j q. has j q || (j == i && q == p))
  edge_again value is = record { each = each; only = only; between = between_now }
    where
      each : (j q : ℕ) → (has j q || (j == i && q == p)) ≡ true → IsSome (find_entry es (edge_key j q))
      each j q it = elim (cases j q it) [
        | inl was ↦ are.each j q was
        | inr here ↦ ap (λ (k : List ℕ). is_some (find_entry es k)) (λ k. edge_key (here.0 k) (here.1 k)) ∙ ap is_some is
      ]

      only : (k v : List ℕ) → find_entry es k ≡ Some v → (j q : ℕ) × (k ≡ edge_key j q) × ((has j q || (j == i && q == p)) ≡ true)
      only k v found = let (j, q, same, there) = are.only k v found in (j, q, same, or_first (has j q) (j == i && q == p) there)

-- more positions
pub edges_fit : (es : List Item) (known more : ℕ) (has : ℕ → ℕ → Bool) → known ≤ more → AreByEdge es known has → AreByEdge es more has
edges_fit es known more has le are = record {
  each = are.each;
  only = are.only;
  between = λ i p is. let (low, less) = are.between i p is in (omega (arith, low, le), omega (arith, less, le));
}
