-- The predecessors of a processed position, one after the other.
use Rattle.std.proofs.Common.{◌≡◌, ◌∙◌, sym, ap, subst, ℕ, zero, suc, ◌+◌, ◌-◌, ◌≤◌, ◌<◌, ⊎_elim, Bool, true, false, cond, Option, Some, None, arith}
use Rattle.rbg_game.specs.declared.roles.Player.{Player}
use Rattle.retrograde.specs.declared.records.Record.{Record}
use Rattle.retrograde.specs.Graph.{Graph}
use Rattle.retrograde.specs.Stored.{Stored, HasRecord}
use Rattle.retrograde.specs.Edges.{IsAfter, IsNextEdge, HasNoMoreEdges}
use Rattle.retrograde.specs.lemmas.ProcessSteps.{lower_at, lowered_below}
use Rattle.retrograde.proofs.CountLemmas.{true_or_false}
use Rattle.retrograde.proofs.Predecessors.{AreLowered, below_keeps}
use Rattle.settle.specs.lemmas.Stuck.{IsStuck, IsStuckAt}

-- the least number that a look after this one can give
abbrev pub bound_of : Option ℕ → ℕ
bound_of None = 0
bound_of (Some p) = suc p

pub after_bound : (after : Option ℕ) (p : ℕ) → IsAfter after p → bound_of after ≤ p
after_bound None p is = omega arith
after_bound (Some q) p is = is

bound_after : (after : Option ℕ) (p : ℕ) → bound_of after ≤ p → IsAfter after p
bound_after None p le = tt
bound_after (Some q) p le = le

module _ {P : Type 0} (graph : Graph P) (s : ℕ) (w : Player) (d : ℕ) (base : Stored P) where
  abbrev pub now : ℕ → Stored P
  now b = lowered_below graph s w d b base

  pub keeps : (b : ℕ) → AreLowered graph w d b base (now b)
  keeps b = below_keeps graph w d s b base

  edge_before : (b p : ℕ) → (now b).has_edge s p ≡ true → base.has_edge s p ≡ true
  edge_before b p is = ap (λ (e : ℕ → ℕ → Bool). e s p) (sym (keeps b).has_edge) ∙ is

  -- numbers with no edge change nothing
  skips : (n k : ℕ) → ((q : ℕ) → n ≤ q → q < n + k → base.has_edge s q ≡ false) → now (n + k) ≡ now n
  skips n zero none = let e : n + 0 ≡ n = omega arith in ap (λ m. now m) e
  skips n (suc k) none =
      let e : n + suc k ≡ suc (n + k) = omega arith in
      let here : base.has_edge s (n + k) ≡ false = none (n + k) (omega arith) (omega arith) in
      ap (λ m. now m) e
      ∙ (ap (λ b. cond b (lower_at graph w d (n + k) (now (n + k))) (now (n + k))) here
      ∙ skips n k (λ q from to. none q from (omega arith)))

  skips_to : (b p : ℕ) → b ≤ p → ((q : ℕ) → b ≤ q → q < p → base.has_edge s q ≡ false) → now p ≡ now b
  skips_to b p le none =
      let e : b + (p - b) ≡ p = omega arith in
      ap (λ (k : ℕ). now k) (sym e) ∙ skips b (p - b) (λ q from to. none q from (omega arith))

  no_edge : (b p : ℕ) (after : Option ℕ) → IsNextEdge (now b) s after p → (q : ℕ) → bound_of after ≤ q → q < p → base.has_edge s q ≡ false
  no_edge b p after edge q from to =
      ⊎_elim
      (λ is.
      let there : (now b).has_edge s q ≡ true = ap (λ (e : ℕ → ℕ → Bool). e s q) (keeps b).has_edge ∙ is in
      let le : p ≤ q = edge.least q there (bound_after after q from) in
      absurd (omega arith))
      (λ is. is)
      (true_or_false (base.has_edge s q))

  -- the code's table before a look for the next edge, and after it
  module _ (current later : Stored P) (after : Option ℕ) (is : current ≡ now (bound_of after)) (same : later ≡ current) where
    module _ (p : ℕ) (edge : IsNextEdge current s after p) where
      edge_now : IsNextEdge (now (bound_of after)) s after p
      edge_now = subst (λ (t : Stored P). IsNextEdge t s after p) is edge

      here : now p ≡ later
      here = skips_to (bound_of after) p (after_bound after p edge_now.later) (no_edge (bound_of after) p after edge_now) ∙ sym (same ∙ is)

      there : base.has_edge s p ≡ true
      there = edge_before (bound_of after) p edge_now.edge

      -- one more is seen to
      pub step : (final : Stored P) → final ≡ lower_at graph w d p later → final ≡ now (suc p)
      step final made =
          made
          ∙ (ap (λ (t : Stored P). lower_at graph w d p t) (sym here)
          ∙ ap (λ (t : Bool). cond t (lower_at graph w d p (now p)) (now p)) (sym there))

      pub stuck_at : (r : Record) → HasRecord later p r → IsStuck later d r → IsStuckAt graph s w d base p
      stuck_at r has stuck = record {
        edge = there;
        kept = r;
        has = subst (λ (t : Stored P). HasRecord t p r) (sym here) has;
        stuck = subst (λ (t : Stored P). IsStuck t d r) (sym here) stuck;
      }

    pub ends : HasNoMoreEdges current s after → (n : ℕ) → bound_of after ≤ n → later ≡ now n
    ends none n le =
        (same ∙ is)
        ∙ sym (skips_to (bound_of after) n le (λ q from to.
        ⊎_elim
        (λ has.
        let there : (now (bound_of after)).has_edge s q ≡ true = ap (λ (e : ℕ → ℕ → Bool). e s q) (keeps (bound_of after)).has_edge ∙ has in
        absurd (none q (ap (λ (t : Stored P). t.has_edge s q) is ∙ there) (bound_after after q from)))
        (λ has. has)
        (true_or_false (base.has_edge s q))))
