-- A table has one verdict at most, and an edge that is no move fails where it leads.
use Rattle.std.proofs.Common.{◌≡◌, ◌∙◌, ◌↔◌, sym, ap, subst, ℕ, ◌<◌, ⊎_elim, true, not, Some, List, refl, arith, slice_get}
use Rattle.std.specs.Prelude.{count_by}
use Rattle.std.proofs.lemmas.Option.{same_Some}
use Rattle.std.proofs.lemmas.Bool.{cases_lt}
use Rattle.std.proofs.lemmas.List.Elements.{All-contains}
use Rattle.retrograde.specs.declared.records.Record.{Record}
use Rattle.retrograde.specs.Graph.{Graph}
use Rattle.retrograde.specs.View.{HasNumber}
use Rattle.retrograde.specs.Stored.{Stored, processed_in, view_of}
use Rattle.retrograde.specs.Audit.{AreItsMoves, HasItsMoves, HasItsEdges}
use Rattle.retrograde.specs.Sound.{IsLocallySoundAt}
use Rattle.retrograde.specs.Verdicts.{Reason, A1, A2, A3, A4, A5, A6, A7, number_of, condition_of, Verdict, right, wrong, IsWrong, IsVerdict}
use Rattle.retrograde.proofs.NumberLists.{AreNumbers, position_in, all_from_contains}

module _ {P : Type 0} (graph : Graph P) (stored : Stored P) where
  -- where all seven hold, each does
  pub each_holds : (i : ℕ) (x : P) → IsLocallySoundAt graph stored i x → (r : Reason) → condition_of graph stored i x r
  each_holds i x at A1 = at.reached
  each_holds i x at A2 = at.edges
  each_holds i x at A3 = at.late
  each_holds i x at A4 = at.no_nearer
  each_holds i x at A5 = at.ended
  each_holds i x at A6 = at.moving
  each_holds i x at A7 = at.waiting

  -- a number that fails is none where all seven hold
  not_wrong : (n c : ℕ) (it : IsWrong graph stored n c) → IsLocallySoundAt graph stored n it.position → ⊥
  not_wrong n c it at = it.fails (each_holds n it.position at it.reason)

  -- at one number, a lower reason is not the lowest that fails
  not_lower : (n c d : ℕ) (a : IsWrong graph stored n c) (b : IsWrong graph stored n d) → number_of a.reason < number_of b.reason → ⊥
  not_lower n c d a b lt =
      let same : b.position ≡ a.position = same_Some b.position a.position (sym b.number ∙ a.number) in
      a.fails (subst (λ (x : P). condition_of graph stored n x a.reason) same (b.lower_reasons a.reason lt))

  one_reason : (n c d : ℕ) → IsWrong graph stored n c → IsWrong graph stored n d → c ≡ d
  one_reason n c d a b =
      ⊎_elim
      (λ lt. absurd (not_lower n c d a b lt))
      (λ ge.
      ⊎_elim
      (λ lt. absurd (not_lower n d c b a lt))
      (λ ge'. let p : c ≡ number_of a.reason = a.code in let q : d ≡ number_of b.reason = b.code in omega arith)
      (cases_lt (number_of b.reason) (number_of a.reason)))
      (cases_lt (number_of a.reason) (number_of b.reason))

  one_number : (n m c d : ℕ) → IsWrong graph stored n c → IsWrong graph stored m d → n ≡ m
  one_number n m c d a b =
      ⊎_elim
      (λ lt. absurd (not_wrong n c a (b.lower_numbers n a.position a.number lt)))
      (λ ge.
      ⊎_elim
      (λ lt. absurd (not_wrong m d b (a.lower_numbers m b.position b.number lt)))
      (λ ge'. omega arith)
      (cases_lt m n))
      (cases_lt n m)

  pub one_verdict : (v w : Verdict) → IsVerdict graph stored v → IsVerdict graph stored w → v ≡ w
  one_verdict right right a b = refl
  one_verdict right (wrong m d) a b = absurd (not_wrong m d b (a m b.position b.number))
  one_verdict (wrong n c) right a b = absurd (not_wrong n c a (b n a.position a.number))
  one_verdict (wrong n c) (wrong m d) a b =
      let number : n ≡ m = one_number n m c d a b in
      let reason : c ≡ d = one_reason n c d a (subst (λ (k : ℕ). IsWrong graph stored k d) (sym number) b) in
      cc

module _ {P : Type 0} (graph : Graph P) (a b : Stored P) (p : ℕ) (x : P) (positions : b.positions ≡ a.positions) (records : b.records ≡ a.records)
    (edges : (j : ℕ) (y : P) → slice_get a.positions j ≡ Some y → graph.Successor x y → b.has_edge j p ≡ a.has_edge j p) where
  -- of the edges from a number only those to its successors matter
  list_kept : (ys : List P) (js : List ℕ) → AreItsMoves graph a p x ys js → AreItsMoves graph b p x ys js
  list_kept ys js it = record {
    are = record {
      each = it.are.each;
      once = it.are.once;
      numbers = subst (λ (known : List P). AreNumbers known ys js) (sym positions) it.are.numbers;
    };
    edges = all_from_contains (λ j. b.has_edge j p ≡ true) js (λ j here.
        let (y, is, at) = position_in a.positions ys js it.are.numbers j here in
        edges j y at ((it.are.each y).0 is) ∙ All-contains (λ k. a.has_edge k p ≡ true) js j it.edges here);
    counted = λ r has. it.counted r (had r has);
    left = λ r has. it.left r (had r has) ∙ ap (λ (rs : List Record). count_by (λ (j : ℕ). not (processed_in (slice_get rs j))) js) (sym records);
    keeper = it.keeper;
  }
    where
      had : (r : Record) → slice_get b.records p ≡ Some r → slice_get a.records p ≡ Some r
      had r has = ap (λ (rs : List Record). slice_get rs p) (sym records) ∙ has

  pub moves_kept : HasItsMoves graph a p x → HasItsMoves graph b p x
  moves_kept (ys, js, it) = (ys, js, list_kept ys js it)

-- and they matter alike in both tables
pub moves_alike : {P : Type 0} (graph : Graph P) (a b : Stored P) (p : ℕ) (x : P) → b.positions ≡ a.positions → b.records ≡ a.records
    → ((j : ℕ) (y : P) → slice_get a.positions j ≡ Some y → graph.Successor x y → b.has_edge j p ≡ a.has_edge j p)
    → HasItsMoves graph a p x ↔ HasItsMoves graph b p x
moves_alike {P = P} graph a b p x positions records edges = (
  moves_kept graph a b p x positions records edges,
  moves_kept graph b a p x (sym positions) (sym records)
      (λ j y at move. sym (edges j y (ap (λ (known : List P). slice_get known j) (sym positions) ∙ at) move)),
)

-- an edge that is no move fails where it leads
pub stray_fails : {P : Type 0} (graph : Graph P) (stored : Stored P) (i p : ℕ) (x y : P) → HasNumber (view_of stored) p x
    → stored.has_edge i p ≡ true → (graph.Successor x y → ⊥) → HasItsEdges graph stored i y → ⊥
stray_fails graph stored i p x y x_at edge stray it =
    let (z, z_at, _, move) = it.to_it p edge in
    stray (subst (λ u. graph.Successor u y) (same_Some z x (sym z_at ∙ x_at)) move)
