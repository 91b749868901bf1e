-- The predecessors of a number, one after the other.
use Rattle.std.proofs.Common.{◌≡◌, ◌∙◌, sym, ap, ℕ, zero, suc, ◌+◌, ◌-◌, ◌<◌, ◌≤◌, ⊎_elim, false, Option, Some, None, refl, arith}
use Rattle.retrograde.specs.Stored.{Stored, count_below}
use Rattle.retrograde.specs.Edges.{IsAfter, IsNextEdge, HasNoMoreEdges}
use Rattle.retrograde.proofs.CountLemmas.{true_or_false, counts_one, counts_none}
use Rattle.retrograde.proofs.Additions.{count_past}

-- the least number that a look after this one can give
abbrev pub bound_of : Option ℕ → ℕ
bound_of None = 0
bound_of (Some p) = suc p

pub after_bound : (after : Option ℕ) (p : ℕ) → IsAfter after p → bound_of after ≤ p
after_bound None p is = omega arith
after_bound (Some q) p is = is

pub bound_after : (after : Option ℕ) (p : ℕ) → bound_of after ≤ p → IsAfter after p
bound_after None p le = tt
bound_after (Some q) p le = le

module _ {P : Type 0} (stored : Stored P) (i : ℕ) (after : Option ℕ) where
  -- there is none between
  none_between : (p : ℕ) → IsNextEdge stored i after p → (q : ℕ) → bound_of after ≤ q → q < p → stored.has_edge i q ≡ false
  none_between p next q from below =
      ⊎_elim
      (λ is. let le : p ≤ q = next.least q is (bound_after after q from) in absurd (omega arith))
      (λ is. is)
      (true_or_false (stored.has_edge i q))

  none_behind : HasNoMoreEdges stored i after → (q : ℕ) → bound_of after ≤ q → stored.has_edge i q ≡ false
  none_behind none q from = ⊎_elim (λ is. absurd (none q is (bound_after after q from))) (λ is. is) (true_or_false (stored.has_edge i q))

  -- one more is counted
  pub count_next : (p n : ℕ) → IsNextEdge stored i after p → n ≡ count_below (bound_of after) (λ q. stored.has_edge i q)
      → n + 1 ≡ count_below (suc p) (λ q. stored.has_edge i q)
  count_next p n next counted =
      let from : bound_of after ≤ p = after_bound after p next.later in
      let same : count_below p (λ q. stored.has_edge i q) ≡ count_below (bound_of after) (λ q. stored.has_edge i q)
      = still (p - bound_of after) (bound_of after) p (omega arith) (none_between p next) in
      let one : count_below (suc p) (λ q. stored.has_edge i q) ≡ suc (count_below p (λ q. stored.has_edge i q))
      = counts_one (λ q. stored.has_edge i q) p next.edge in
      omega arith
    where
      still : (k b p : ℕ) → b + k ≡ p → ((q : ℕ) → b ≤ q → q < p → stored.has_edge i q ≡ false)
          → count_below p (λ q. stored.has_edge i q) ≡ count_below b (λ q. stored.has_edge i q)
      still zero b p is none = let e : p ≡ b = omega arith in ap (λ m. count_below m (λ q. stored.has_edge i q)) e
      still (suc k) b p is none =
          let e : p ≡ suc (b + k) = omega arith in
          let fails : stored.has_edge i (b + k) ≡ false = none (b + k) (omega arith) (omega arith) in
          let less : count_below (b + k) (λ q. stored.has_edge i q) ≡ count_below b (λ q. stored.has_edge i q)
          = still k b (b + k) refl (λ q from below. none q from (omega arith)) in
          let step : count_below (suc (b + k)) (λ q. stored.has_edge i q) ≡ count_below (b + k) (λ q. stored.has_edge i q)
          = counts_none (λ q. stored.has_edge i q) (b + k) fails in
          ap (λ m. count_below m (λ q. stored.has_edge i q)) e ∙ (step ∙ less)

  -- where there is no more, all are counted
  pub count_all : (size n : ℕ) → HasNoMoreEdges stored i after → bound_of after ≤ size → n ≡ count_below (bound_of after) (λ q. stored.has_edge i q)
      → n ≡ count_below size (λ q. stored.has_edge i q)
  count_all size n none within counted =
      let e : size ≡ bound_of after + (size - bound_of after) = omega arith in
      let same : count_below (bound_of after + (size - bound_of after)) (λ q. stored.has_edge i q) ≡ count_below (bound_of after) (λ q. stored.has_edge i q)
      = count_past (bound_of after) (size - bound_of after) (λ q. stored.has_edge i q) (λ q from. none_behind none q from) in
      counted ∙ (sym same ∙ ap (λ m. count_below m (λ q. stored.has_edge i q)) (sym e))

  -- where as many were counted as there can be, all are counted
  pub count_full : (size n : ℕ) → size ≤ n → n ≤ bound_of after → bound_of after ≤ size → n ≡ count_below (bound_of after) (λ q. stored.has_edge i q)
      → size ≡ count_below size (λ q. stored.has_edge i q)
  count_full size n all few within counted =
      let full : n ≡ size = omega arith in
      let whole : bound_of after ≡ size = omega arith in
      sym full ∙ (counted ∙ ap (λ m. count_below m (λ q. stored.has_edge i q)) whole)
