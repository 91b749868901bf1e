-- How many pages processing a position takes.
use Rattle.std.proofs.Common.{◌≡◌, ◌∙◌, sym, ap, subst, refl, ℕ, zero, suc, ◌+◌, ◌*◌, ◌≤◌, ⊎_elim, Bool, true, false, cond}
use Rattle.std.proofs.Common.{Option, Some, List, length, arith, slice_get}
use Rattle.std.proofs.lemmas.Bool.{cases_lt}
use Rattle.rbg_game.specs.declared.roles.Player.{Player}
use Rattle.retrograde.specs.declared.records.Record.{Record}
use Rattle.retrograde.specs.Graph.{Graph}
use Rattle.retrograde.specs.Stored.{Stored, count_below, expanded_count, processed_count}
use Rattle.retrograde.proofs.CountLemmas.{counts_one}
use Rattle.retrograde.specs.Edges.{IsNextEdge}
use Rattle.retrograde.specs.Process.{with_processed_alone}
use Rattle.table.specs.declared.limits.TheConstants.{PAGES_PER_ENTRY}
use Rattle.frontier.specs.Entries.{edges_below, WritesAtMost}
use Rattle.settle.proofs.Bounds.{bound_of, after_bound, now, keeps}

pub through : {a b c : ℕ} → a ≤ b → b ≤ c → a ≤ c
through first last = omega arith

module _ {P : Type 0} (stored : Stored P) (s : ℕ) where
  edges_up : (n : ℕ) → edges_below stored s n ≤ edges_below stored s (suc n)
  edges_up n = go (stored.has_edge s n) (edges_below stored s n)
    where
      go : (b : Bool) (k : ℕ) → k ≤ k + cond b 1 0
      go true k = omega arith
      go false k = omega arith

  -- more numbers have no fewer edges
  pub edges_to : (n m : ℕ) → n ≤ m → edges_below stored s n ≤ edges_below stored s m
  edges_to zero m le = omega arith
  edges_to (suc n) zero le = absurd (omega arith)
  edges_to (suc n) (suc m) le =
      ⊎_elim
      (λ below.
      let first : edges_below stored s (suc n) ≤ edges_below stored s m = edges_to (suc n) m below in
      let last : edges_below stored s m ≤ edges_below stored s (suc m) = edges_up m in
      through first last)
      (λ above. let same : n ≡ m = omega arith in here same)
      (cases_lt n m)
    where
      least : (k : ℕ) → k ≤ k
      least k = omega arith

      here : n ≡ m → edges_below stored s (suc n) ≤ edges_below stored s (suc m)
      here same = subst (λ (k : ℕ). edges_below stored s (suc n) ≤ edges_below stored s (suc k)) same (least (edges_below stored s (suc n)))

  -- an edge counts
  edge_counts : (n : ℕ) → stored.has_edge s n ≡ true → edges_below stored s (suc n) ≡ suc (edges_below stored s n)
  edge_counts n is = counts_one (stored.has_edge s) n is

same_edges : {P : Type 0} (a b : Stored P) → a.has_edge ≡ b.has_edge → (s n : ℕ) → edges_below a s n ≡ edges_below b s n
same_edges a b same s n = ap (λ (e : ℕ → ℕ → Bool). count_below n (e s)) same

module _ {P : Type 0} (graph : Graph P) (s : ℕ) (w : Player) (d : ℕ) (base current : Stored P) (after : Option ℕ)
    (is : current ≡ now graph s w d base (bound_of after)) (p : ℕ) (edge : IsNextEdge current s after p) where
  has : base.has_edge s p ≡ true
  has = ap (λ (e : ℕ → ℕ → Bool). e s p) (sym (keeps graph s w d base (bound_of after)).has_edge) ∙ (ap (λ (t : Stored P). t.has_edge s p) (sym is) ∙ edge.edge)

  -- up to the next edge there is one more
  pub one_more : suc (edges_below base s (bound_of after)) ≤ edges_below base s (suc p)
  one_more = counts (edges_below base s (bound_of after)) _ _ (edges_to base s (bound_of after) p (after_bound after p edge.later)) (edge_counts base s p has)
    where
      counts : (a b c : ℕ) → a ≤ b → c ≡ suc b → suc a ≤ c
      counts a b c le same = omega arith

-- the pages that are taken up to a call that reads, and to one more position that is seen to
pub reading_takes : (a b c k m : ℕ) → a ≤ b + PAGES_PER_ENTRY * (2 * k) → c ≡ b → k ≤ m → a ≤ c + PAGES_PER_ENTRY * (2 * m)
reading_takes a b c k m takes reads fewer = omega arith

pub lowering_takes : (a b c d k m : ℕ) → a ≤ b + PAGES_PER_ENTRY * (2 * k) → c ≡ b → c ≤ d + PAGES_PER_ENTRY * 2 → suc k ≤ m → a ≤ d + PAGES_PER_ENTRY * (2 * m)
lowering_takes a b c d k m takes reads writes more = omega arith

module _ (graph : Graph (List ℕ)) (old : Stored (List ℕ)) (s : ℕ) (place : slice_get old.order (processed_count old) ≡ Some s)
    (all : expanded_count old ≡ length old.positions) where
  -- two entries for each position that leads to s, and one for s
  writes : WritesAtMost graph old (2 * edges_below old s (length old.positions) + 1)
  writes = WritesAtMost.processes place all refl

  pub marking_full : (free left : ℕ) → free ≤ left + PAGES_PER_ENTRY → left ≡ 0
      → (entries : ℕ) × WritesAtMost graph old entries × (free ≤ PAGES_PER_ENTRY * entries)
  marking_full free left takes none =
      (2 * edges_below old s (length old.positions) + 1, writes, few (edges_below old s (length old.positions)))
    where
      few : (k : ℕ) → free ≤ PAGES_PER_ENTRY * (2 * k + 1)
      few k = omega arith

  module _ (r : Record) (marked : Stored (List ℕ)) (is : marked ≡ with_processed_alone s r old) (free between left : ℕ)
      (first : free ≤ between + PAGES_PER_ENTRY) (rest : between ≤ left + PAGES_PER_ENTRY * (2 * edges_below marked s (length marked.positions))) where
    -- the record of s has no part in its edges
    takes : free ≤ left + PAGES_PER_ENTRY * (2 * edges_below old s (length old.positions) + 1)
    takes = added (edges_below marked s (length marked.positions)) (edges_below old s (length old.positions)) rest
        (ap (λ (t : Stored (List ℕ)). edges_below t s (length t.positions)) is ∙ same_edges (with_processed_alone s r old) old refl s (length old.positions))
      where
        added : (k m : ℕ) → between ≤ left + PAGES_PER_ENTRY * (2 * k) → k ≡ m → free ≤ left + PAGES_PER_ENTRY * (2 * m + 1)
        added k m rest' same = omega arith

    pub processing_takes : (entries : ℕ) × WritesAtMost graph old entries × (free ≤ left + PAGES_PER_ENTRY * entries)
    processing_takes = (2 * edges_below old s (length old.positions) + 1, writes, takes)

    pub processing_full : left ≡ 0 → (entries : ℕ) × WritesAtMost graph old entries × (free ≤ PAGES_PER_ENTRY * entries)
    processing_full none = (2 * edges_below old s (length old.positions) + 1, writes, few _ takes)
      where
        few : (taken : ℕ) → free ≤ left + taken → free ≤ taken
        few taken within = omega arith
