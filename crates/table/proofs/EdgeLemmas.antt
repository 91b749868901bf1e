-- The order of edges, and the edges of a set.
use Rattle.std.proofs.Common.{◌≡◌, ◌∙◌, sym, ap, subst, ℕ, ◌<◌, ◌≤◌, ◌==◌, ◌&&◌, ◌||◌, ◌⊎◌, inl, inr, Bool, true, false, cond, refl, arith, List, [], ◌∷◌, slice_get, Option, Some, IfSome, ⊎_elim}
use borrow.Author.Tests.{eqb-true}
use Rattle.std.specs.Cmp.{ranks, both_tied, unsigned_ties, nat_eq_equiv}
use Rattle.std.specs.Ordering.{nat_cmp, ordering_then, is_gt, MatchOrdering}
use Rattle.std.specs.declared.cmp.Ordering.{Ordering}
use Rattle.std.specs.declared.cmp.Ordering.TheVariants.{Less, Equal, Greater}
use Rattle.std.specs.declared.ops.Bound.TheVariants.{Included, Unbounded}
use Rattle.std.specs.BTreeMap.{is_at}
use Rattle.std.specs.BTreeMap.Range.{IsLeBy}
use Rattle.std.specs.BTreeSet.{BTreeSet, contains, IsUnchanged, Updates, IsKeyInRange, IsKeyRangeOf}
use Rattle.std.specs.Prelude.{Result, Ok, Err, OnOk, OnErr}
use Rattle.std.specs.List.{list_any}
use Rattle.table.specs.Memory.{edge_cmp, AreBetweenKnown}

-- a first that is not after the second
le_cases : (o p : Ordering) (a b c d : ℕ) → MatchOrdering o (a < c) (a ≡ c) (c < a) → MatchOrdering p (b < d) (b ≡ d) (d < b)
    → is_gt (ordering_then o p) ≡ false → (a < c) ⊎ ((a ≡ c) × (b ≤ d))
le_cases Less p a b c d h k is = inl h
le_cases Equal Less a b c d h k is = inr (h, omega arith)
le_cases Equal Equal a b c d h k is = inr (h, omega arith)
le_cases Equal Greater a b c d h k is = absurd (cc)
le_cases Greater p a b c d h k is = absurd (cc)

pub edge_le : (a b c d : ℕ) → IsLeBy edge_cmp (a, b) (c, d) → (a < c) ⊎ ((a ≡ c) × (b ≤ d))
edge_le a b c d is = le_cases (nat_cmp a c) (nat_cmp b d) a b c d (ranks a c) (ranks b d) is

le_from : (o p : Ordering) (a b d : ℕ) → MatchOrdering o (a < a) (a ≡ a) (a < a) → MatchOrdering p (b < d) (b ≡ d) (d < b) → b ≤ d
    → is_gt (ordering_then o p) ≡ false
le_from Less p a b d h k le = absurd (omega arith)
le_from Equal Less a b d h k le = refl
le_from Equal Equal a b d h k le = refl
le_from Equal Greater a b d h k le = absurd (omega arith)
le_from Greater p a b d h k le = absurd (omega arith)

pub le_edge : (a b d : ℕ) → b ≤ d → IsLeBy edge_cmp (a, b) (a, d)
le_edge a b d le = le_from (nat_cmp a a) (nat_cmp b d) a b d (ranks a a) (ranks b d) le

-- what the first of the edges from (s, first) on says, if there is one
module _ (edges : BTreeSet (ℕ × ℕ)) (s first : ℕ) (found : List (ℕ × ℕ)) (is : IsKeyRangeOf edge_cmp (Included (s, first)) Unbounded edges found) where
  pub nothing : found ≡ [] → (q : ℕ) → contains edge_cmp edges (s, q) ≡ true → first ≤ q → ⊥
  nothing empty q has le = let none : contains edge_cmp edges (s, q) ≡ false = is.5 empty (s, q) (le_edge s first q le, tt) in cc

  module _ (i p : ℕ) (rest : List (ℕ × ℕ)) (found_is : found ≡ (i, p) ∷ rest) where
    head : slice_get found 0 ≡ Some (i, p)
    head = ap (λ (es : List (ℕ × ℕ)). slice_get es 0) found_is

    in_range : IsKeyInRange edge_cmp (Included (s, first)) Unbounded edges (i, p)
    in_range = subst (λ (o : Option (ℕ × ℕ)). IfSome o (IsKeyInRange edge_cmp (Included (s, first)) Unbounded edges)) head is.1

    before : (q : ℕ) → contains edge_cmp edges (s, q) ≡ true → first ≤ q → IsLeBy edge_cmp (i, p) (s, q)
    before q has le =
        subst (λ (o : Option (ℕ × ℕ)). IfSome o (λ k. IsLeBy edge_cmp k (s, q))) head
        (is.2 (s, q) (le_edge s first q le, tt) has)

    pub another : (i ≡ s → ⊥) → (q : ℕ) → contains edge_cmp edges (s, q) ≡ true → first ≤ q → ⊥
    another other q has le =
        ⊎_elim
        (λ from.
        ⊎_elim
        (λ to. omega arith)
        (λ to. other to.0)
        (edge_le i p s q (before q has le)))
        (λ from. other (sym from.0))
        (edge_le s first i p in_range.0.0)

    pub least : i ≡ s → (contains edge_cmp edges (s, p) ≡ true) × (first ≤ p) × ((q : ℕ) → contains edge_cmp edges (s, q) ≡ true → first ≤ q → p ≤ q)
    least same = (
      subst (λ (n : ℕ). contains edge_cmp edges (n, p) ≡ true) same in_range.1,
      ⊎_elim (λ from. absurd (omega arith)) (λ from. from.1) (edge_le s first i p in_range.0.0),
      λ q has le. ⊎_elim (λ to. absurd (omega arith)) (λ to. to.1) (edge_le i p s q (before q has le)),
    )

-- an edge that is there after one was added was there, or is the one
or_from_cond : (b c : Bool) → cond b true c ≡ (c || b)
or_from_cond true true = refl
or_from_cond true false = refl
or_from_cond false true = refl
or_from_cond false false = refl

pub edge_is : (i p j q : ℕ) → is_at (edge_cmp (i, p)) (j, q) ≡ (j == i && q == p)
edge_is i p j q = sym (both_tied (j == i) (q == p) (nat_cmp i j) (nat_cmp p q) (nat_eq_equiv.symm j i ∙ unsigned_ties i j)
    (nat_eq_equiv.symm q p ∙ unsigned_ties p q))

module _ (edges edges' : BTreeSet (ℕ × ℕ)) (i p : ℕ) (updates : Updates edge_cmp edges edges' (i, p) true) where
  pub edge_added : (j q : ℕ) → contains edge_cmp edges' (j, q) ≡ (contains edge_cmp edges (j, q) || (j == i && q == p))
  edge_added j q =
      updates.0 (j, q) ∙ or_from_cond (is_at (edge_cmp (i, p)) (j, q)) (contains edge_cmp edges (j, q))
      ∙ ap (λ b. contains edge_cmp edges (j, q) || b) (edge_is i p j q)

  pub edges_added : ◌≡◌ {A = ℕ → ℕ → Bool} (λ j q. contains edge_cmp edges' (j, q)) (λ j q. contains edge_cmp edges (j, q) || (j == i && q == p))
  edges_added = λ k j q. edge_added j q k

  pub known_added : (n : ℕ) → AreBetweenKnown n edges → i < n → p < n → AreBetweenKnown n edges'
  known_added n known led within j q is = go (j == i && q == p) (contains edge_cmp edges (j, q)) refl refl
    where
      same : (b c : Bool) → (b && c) ≡ true → c ≡ true
      same true c e = e
      same false c e = absurd (cc)

      first : (b c : Bool) → (b && c) ≡ true → b ≡ true
      first true c e = refl
      first false c e = absurd (cc)

      go : (b c : Bool) → (j == i && q == p) ≡ b → contains edge_cmp edges (j, q) ≡ c → (j < n) × (q < n)
      go b true e f = known j q f
      go true false e f =
          let here : q ≡ p = eqb-true q p (same (j == i) (q == p) e) in
          let there : j ≡ i = eqb-true j i (first (j == i) (q == p) e) in
          (omega (arith, there, led), omega (arith, here, within))
      go false false e f =
          let none : (contains edge_cmp edges (j, q) || (j == i && q == p)) ≡ false = rw (e, f) refl in
          let there : (contains edge_cmp edges (j, q) || (j == i && q == p)) ≡ true = sym (edge_added j q) ∙ is in
          absurd (cc)

-- a set that was not changed
known_kept : (n : ℕ) (edges edges' : BTreeSet (ℕ × ℕ)) → edges'.keys ≡ edges.keys → AreBetweenKnown n edges → AreBetweenKnown n edges'
known_kept n edges edges' same known i p is = known i p (ap (λ (ks : List (ℕ × ℕ)). list_any (is_at (edge_cmp (i, p))) ks) (sym same) ∙ is)

pub known_after : {E : Type 0} (n : ℕ) (edges edges' : BTreeSet (ℕ × ℕ)) (i p : ℕ) (result : Result Bool E)
    → OnOk result (Updates edge_cmp edges edges' (i, p) true)
    → OnErr result (IsUnchanged edges edges') → AreBetweenKnown n edges → i < n → p < n → AreBetweenKnown n edges'
known_after n edges edges' i p (Ok added) updates same known led within = known_added edges edges' i p updates n known led within
known_after n edges edges' i p (Err e) updates same known led within = known_kept n edges edges' same known

-- a bound may be greater
pub known_in_more : (n m : ℕ) (edges : BTreeSet (ℕ × ℕ)) → n ≤ m → AreBetweenKnown n edges → AreBetweenKnown m edges
known_in_more n m edges le known i p is = let both = known i p is in (omega (arith, le, both.0), omega (arith, le, both.1))
