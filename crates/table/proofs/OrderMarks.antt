-- The numbers of an order are marked one after another.
use Rattle.std.proofs.Common.{◌≡◌, ◌↔◌, inl, inr, ℕ, ◌+◌, ◌<◌, ◌≤◌, Bool, true, false, List, length, slice_get, slice_index_or, slice_set, Some, sym, ◌∙◌, ap, subst, arith}
use Rattle.std.proofs.lemmas.List.{get_or-set_same, get_or-set_other, length-set, get_or_past}
use Rattle.std.specs.Prelude.{nat_lt}
use Rattle.std.proofs.lemmas.Option.{slice_get_within}
use Rattle.std.proofs.lemmas.Bool.{cases_lt, cases_eq, ltb-true, lt-ltb}
use Rattle.retrograde.specs.declared.records.Record.{Record}
use Rattle.retrograde.specs.Stored.{is_settled}
use Rattle.std.specs.Prelude.{Option, IfSome, count_by}
use Rattle.table.specs.lemmas.Fit.{IsSettledAs, OrderFits, RecordsFit, PartsFit}

-- the numbers before this place are settled, differ, and are exactly the marked ones
pub record IsListed (processed : ℕ) (records : List Record) (order : List ℕ) (place : ℕ) (marks : List Bool) : Type 0 where
  pub long : length marks ≡ length records
  pub settled : (k i : ℕ) → k < place → slice_get order k ≡ Some i → IsSettledAs records i (k < processed)
  pub once : (j k i : ℕ) → j < place → k < place → slice_get order j ≡ Some i → slice_get order k ≡ Some i → j ≡ k
  pub marked : (k i : ℕ) → k < place → slice_get order k ≡ Some i → slice_index_or marks i false ≡ true
  pub only : (i : ℕ) → slice_index_or marks i false ≡ true → (k : ℕ) × (k < place) × (slice_get order k ≡ Some i)

module _ (processed : ℕ) (records : List Record) (order : List ℕ) where
  pub listed_none : (marks : List Bool) → length marks ≡ length records
      → ((i : ℕ) → i < length marks → slice_index_or marks i false ≡ false) → IsListed processed records order 0 marks
  listed_none marks long none = record {
    long = long;
    settled = λ k i low. absurd (omega (arith, low));
    once = λ j k i low. absurd (omega (arith, low));
    marked = λ k i low. absurd (omega (arith, low));
    only = λ i is. let unmarked : slice_index_or marks i false ≡ false = elim (cases_lt i (length marks)) [
      | inl within ↦ none i within
      | inr past ↦ get_or_past marks i false past
    ] in absurd (cc);
  }

  module _ (place n : ℕ) (marks : List Bool) (so_far : IsListed processed records order place marks) (here : slice_get order place ≡ Some n) where
    same_number : (i : ℕ) → slice_get order place ≡ Some i → i ≡ n
    same_number i is = let both : Some i ≡ Some n = sym is ∙ here in cc

    -- a number more is marked
    pub listed_more : IsSettledAs records n (place < processed) → slice_index_or marks n false ≡ false → n < length marks
        → IsListed processed records order (place + 1) (slice_set marks n true)
    listed_more settles unmarked within = record {
      long = length-set marks n true ∙ so_far.long;
      settled = λ k i low is. elim (cases_eq k place) [
        | inl at ↦ subst (λ (p : ℕ × ℕ). IsSettledAs records p.0 (p.1 < processed))
            (λ t. (sym (same_number i (subst (λ (q : ℕ). slice_get order q ≡ Some i) at is)) t, sym at t)) settles
        | inr other ↦ so_far.settled k i (omega (arith, low, other)) is
      ];
      once = λ j k i low high at_j at_k. elim (cases_eq j place) [
        | inl j_is ↦ elim (cases_eq k place) [
          | inl k_is ↦ j_is ∙ sym k_is
          | inr before ↦ absurd (apart k i (omega (arith, high, before)) at_k (same_number i (subst (λ (q : ℕ). slice_get order q ≡ Some i) j_is at_j)))
        ]
        | inr j_before ↦ elim (cases_eq k place) [
          | inl k_is ↦ absurd (apart j i (omega (arith, low, j_before)) at_j (same_number i (subst (λ (q : ℕ). slice_get order q ≡ Some i) k_is at_k)))
          | inr before ↦ so_far.once j k i (omega (arith, low, j_before)) (omega (arith, high, before)) at_j at_k
        ]
      ];
      marked = λ k i low is. elim (cases_eq i n) [
        | inl same ↦ subst (λ (q : ℕ). slice_index_or (slice_set marks n true) q false ≡ true) (sym same) (get_or-set_same marks n true false within)
        | inr differs ↦ elim (cases_eq k place) [
          | inl at ↦ absurd (differs (same_number i (subst (λ (q : ℕ). slice_get order q ≡ Some i) at is)))
          | inr other ↦ get_or-set_other marks n i true false differs ∙ so_far.marked k i (omega (arith, low, other)) is
        ]
      ];
      only = λ i is. elim (cases_eq i n) [
        | inl same ↦ (place, omega arith, here ∙ ap (λ (q : ℕ). Some q) (sym same))
        | inr differs ↦ earlier i (sym (get_or-set_other marks n i true false differs) ∙ is)
      ];
    }
      where
        apart : (k i : ℕ) → k < place → slice_get order k ≡ Some i → i ≡ n → ⊥
        apart k i low is same =
            let there : slice_index_or marks n false ≡ true = subst (λ (q : ℕ). slice_index_or marks q false ≡ true) same (so_far.marked k i low is) in cc

        earlier : (i : ℕ) → slice_index_or marks i false ≡ true → (k : ℕ) × (k < place + 1) × (slice_get order k ≡ Some i)
        earlier i is = let (k, low, at) = so_far.only i is in (k, omega (arith, low), at)

    -- a marked number stands twice
    pub listed_twice : slice_index_or marks n false ≡ true → OrderFits processed records order → ⊥
    listed_twice marked fits =
        let (k, low, at) = so_far.only n marked in
        let is : k ≡ place = fits.once k place n at here in
        omega (arith, low, is)

-- what is wanted may be said in another way
pub settled_as : (records : List Record) (i : ℕ) {One Other : Type 0} → One ↔ Other → IsSettledAs records i One → IsSettledAs records i Other
settled_as records i same settles = record {
  kept = settles.kept;
  found = settles.found;
  settled = settles.settled;
  processed = ((λ is. same.0 (settles.processed.0 is)), (λ wanted. settles.processed.1 (same.1 wanted)));
}

pub below_is : (a b : ℕ) → (nat_lt a b ≡ true) ↔ (a < b)
below_is a b = (ltb-true a b, lt-ltb a b)

-- where all have their places
pub all_listed : (processed : ℕ) (records : List Record) (order : List ℕ) (place : ℕ) (marks : List Bool)
    → IsListed processed records order place marks → length order ≤ place
    → OrderFits processed records order × ((i : ℕ) → slice_index_or marks i false ≡ true → (k : ℕ) × (slice_get order k ≡ Some i))
all_listed processed records order place marks so_far end = (
  record {
    settled = λ k i is. so_far.settled k i (omega (arith, end, slice_get_within order k i is)) is;
    once = λ j k i at_j at_k. so_far.once j k i (omega (arith, end, slice_get_within order j i at_j))
        (omega (arith, end, slice_get_within order k i at_k)) at_j at_k;
  },
  λ i is. let (k, low, at) = so_far.only i is in (k, at),
)

-- what holds if there is one holds of the one that there is
pub in_some : {A : Type 0} (P : A → Type 0) (r : Option A) (x : A) → r ≡ Some x → IfSome r P → P x
in_some P r x is given = subst (λ o. IfSome o P) is given

-- the parts fit where each test says so, and then each test says so
pub parts_if : (expanded processed : ℕ) (records : List Record) (order : List ℕ) (marks : List Bool) (said : Bool)
    → 0 < length records → RecordsFit expanded records → length order ≡ count_by (λ r. is_settled r.state) records
    → (OrderFits processed records order × ((i : ℕ) → (slice_index_or marks i false ≡ true) → (k : ℕ) × (slice_get order k ≡ Some i)))
    → ((k i : ℕ) → slice_get order k ≡ Some i → slice_index_or marks i false ≡ true)
    → (said ≡ true) ↔ ((i : ℕ) (r : Record) → slice_get records i ≡ Some r → is_settled r.state ≡ true → slice_index_or marks i false ≡ true)
    → (said ≡ true) ↔ PartsFit expanded processed records order
parts_if expanded processed records order marks said started each counted (fits, only) marked all = (
  λ is. record { started = started; each = each; counted = counted; in_order = fits; listed = λ i r here settled. only i (all.0 is i r here settled) },
  λ parts. all.1 (λ i r here settled. let (k, at) = parts.listed i r here settled in marked k i at),
)
