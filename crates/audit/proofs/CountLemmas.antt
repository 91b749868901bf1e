-- Where there are no more edges than moves, and each move has its edge, each edge is a move.
use Rattle.std.proofs.Common.{◌≡◌, ◌∙◌, sym, ap, subst, ℕ, zero, suc, ◌+◌, ◌<◌, ◌≤◌, ◌⊎◌, inl, inr, ⊎_elim, Bool, true, if◌then◌else◌, Option, List, [], ◌∷◌, length, refl, arith, slice_get}
use Rattle.std.specs.Prelude.{Contains}
use Rattle.std.proofs.lemmas.Bool.{cases_lt}
use Rattle.std.proofs.lemmas.Bool.Decides.{eqb_tells}
use Rattle.std.proofs.lemmas.Option.{same_Some, slice_get_within}
use Rattle.std.proofs.lemmas.List.Elements.{All-contains}
use Rattle.retrograde.specs.declared.records.Record.{Record}
use Rattle.retrograde.specs.Graph.{Graph}
use Rattle.retrograde.specs.View.{HasNumber}
use Rattle.retrograde.specs.Stored.{Stored, IsTable, HasRecord, FitsState, view_of, expanded_count, count_below, is_expanded}
use Rattle.retrograde.specs.declared.records.State.{State}
use Rattle.retrograde.specs.declared.records.State.TheVariants.{Known, Expanded, Settled, Processed}
use Rattle.retrograde.specs.Audit.{AreItsMoves, HasItsMoves, EdgesAreMoves}
use Rattle.retrograde.proofs.Finished.{element}
use Rattle.retrograde.proofs.CountLemmas.{counted}
use Rattle.retrograde.proofs.Additions.{is_first, is_later, first_or_later, none_in_empty}
use Rattle.retrograde.proofs.NumberLists.{IsOnce, once_from_pairs, pairs_from_once, all_from_contains, length_listed, position_in, as_many, numbers_once, those}
use Rattle.retrograde.proofs.Tables.{record_of}
use Rattle.legal_moves.proofs.Distinct.{distinct-le}
use Rattle.audit.specs.lemmas.Conditions.{sum_below, successors_in}

sum_add : (n : ℕ) (f g : ℕ → ℕ) → sum_below n (λ i. f i + g i) ≡ sum_below n f + sum_below n g
sum_add zero f g = refl
sum_add (suc n) f g = let rest : sum_below n (λ i. f i + g i) ≡ sum_below n f + sum_below n g = sum_add n f g in omega arith

sum_none : (n : ℕ) → sum_below n (λ i. 0) ≡ 0
sum_none zero = refl
sum_none (suc n) = let rest : sum_below n (λ i. 0) ≡ 0 = sum_none n in omega arith

sum_bits : (n : ℕ) (test : ℕ → Bool) → sum_below n (λ i. if test i then 1 else 0) ≡ count_below n test
sum_bits zero test = refl
sum_bits (suc n) test = ap (λ (k : ℕ). k + (if test n then 1 else 0)) (sum_bits n test)

-- pairs are counted by the one or by the other
pub count_both_ways : (n m : ℕ) (edge : ℕ → ℕ → Bool)
    → sum_below n (λ i. count_below m (λ p. edge i p)) ≡ sum_below m (λ p. count_below n (λ i. edge i p))
count_both_ways n zero edge = sum_none n
count_both_ways n (suc m) edge =
    sum_add n (λ i. count_below m (λ p. edge i p)) (λ i. if edge i m then 1 else 0)
    ∙ (ap (λ (k : ℕ). k + sum_below n (λ i. if edge i m then 1 else 0)) (count_both_ways n m edge)
    ∙ ap (λ (k : ℕ). sum_below m (λ p. count_below n (λ i. edge i p)) + k) (sum_bits n (λ i. edge i m)))

sum_le : (n : ℕ) (f g : ℕ → ℕ) → ((p : ℕ) → p < n → f p ≤ g p) → sum_below n f ≤ sum_below n g
sum_le zero f g le = omega arith
sum_le (suc n) f g le =
    let rest : sum_below n f ≤ sum_below n g = sum_le n f g (λ p lt. le p (omega arith)) in
    let here : f n ≤ g n = le n (omega arith) in
    omega arith

-- what is at most as much everywhere, and as much in all, is as much everywhere
pub sum_same : (n : ℕ) (f g : ℕ → ℕ) → ((p : ℕ) → p < n → f p ≤ g p) → sum_below n f ≡ sum_below n g → (p : ℕ) → p < n → f p ≡ g p
sum_same zero f g le same p lt = absurd (omega arith)
sum_same (suc n) f g le same p lt =
    let rest : sum_below n f ≤ sum_below n g = sum_le n f g (λ q below. le q (omega arith)) in
    let here : f n ≤ g n = le n (omega arith) in
    let fewer : sum_below n f ≡ sum_below n g = omega arith in
    let last : f n ≡ g n = omega arith in
    ⊎_elim
    (λ below. sum_same n f g (λ q q_lt. le q (omega arith)) fewer p below)
    (λ above. let e : n ≡ p = omega arith in subst (λ (q : ℕ). f q ≡ g q) e last)
    (cases_lt p n)

in_or_not : (xs : List ℕ) (j : ℕ) → Contains xs j ⊎ (Contains xs j → ⊥)
in_or_not [] j = inr (none_in_empty j)
in_or_not (x ∷ xs) j =
    ⊎_elim
    (λ (_, same). inl (subst (λ (k : ℕ). Contains (x ∷ xs) k) (sym same) (is_first x xs)))
    (λ (_, apart).
    ⊎_elim
    (λ here. inl (is_later x j xs here))
    (λ none. inr (λ here. ⊎_elim (λ same. apart (sym same)) none (first_or_later x j xs here)))
    (in_or_not xs j))
    (eqb_tells j x)

-- different numbers that pass, as many as there are below n, are all that pass
module _ (known : List (List ℕ)) (test : ℕ → Bool) (js : List ℕ) (once : IsOnce js)
    (passes : (j : ℕ) → Contains js j → (j < length known) × (test j ≡ true)) where
  pub few_pass : (ks : List ℕ) → IsOnce ks → ((j : ℕ) → Contains ks j → (j < length known) × (test j ≡ true)) → length ks ≤ count_below (length known) test
  few_pass ks ks_once each =
      let all = those known (length known) test (omega arith) in
      let many : count_below (length known) test ≡ length all.js = length_listed (length known) test all.js all.once all.each in
      let le : length ks ≤ length all.js
      = distinct-le all.js ks (pairs_from_once ks ks_once) (all_from_contains (λ j. Contains all.js j) ks (λ j here. (all.each j).1 (each j here))) in
      omega arith

  pub all_pass : length js ≡ count_below (length known) test → (j : ℕ) → j < length known → test j ≡ true → Contains js j
  all_pass same j lt is =
      ⊎_elim
      (λ here. here)
      (λ none.
      let more : length (j ∷ js) ≤ count_below (length known) test =
      few_pass (j ∷ js) (none, once) (λ k here. ⊎_elim (λ at. (subst (λ (l : ℕ). l < length known) at lt, ap test (sym at) ∙ is)) (passes k)
      (first_or_later j k js here)) in
      absurd (omega arith))
      (in_or_not js j)

-- one that is not expanded has no successors
waits_without : (s : State) (r : Record) → FitsState s r → (is_expanded s ≡ true → ⊥) → r.successors ≡ 0
waits_without Known r fits never = fits.3
waits_without Expanded r fits never = absurd (never refl)
waits_without Settled r fits never = absurd (never refl)
waits_without Processed r fits never = absurd (never refl)

module _ (graph : Graph (List ℕ)) (stored : Stored (List ℕ)) (table : IsTable stored)
    (moves : (p : ℕ) (z : List ℕ) → HasNumber (view_of stored) p z → p < expanded_count stored → HasItsMoves graph stored p z) where
  abbrev size : ℕ
  size = length stored.positions

  abbrev kept : ℕ → ℕ
  kept p = successors_in (slice_get stored.records p)

  abbrev out : ℕ → ℕ
  out p = count_below size (λ j. stored.has_edge j p)

  kept_is : (p : ℕ) (r : Record) → HasRecord stored p r → kept p ≡ r.successors
  kept_is p r has = ap (λ (o : Option Record). successors_in o) has

  module _ (p : ℕ) (z : List ℕ) (at : HasNumber (view_of stored) p z) (ys : List (List ℕ)) (js : List ℕ) (its : AreItsMoves graph stored p z ys js) where
    its_once : IsOnce js
    its_once = numbers_once stored.positions ys js its.are.numbers (once_from_pairs ys its.are.once)

    its_edges : (j : ℕ) → Contains js j → (j < size) × (stored.has_edge j p ≡ true)
    its_edges j here =
        let (y, _, y_at) = position_in stored.positions ys js its.are.numbers j here in
        (slice_get_within stored.positions j y y_at, All-contains (λ k. stored.has_edge k p ≡ true) js j its.edges here)

    its_many : kept p ≡ length js
    its_many =
        let (r, has) = record_of stored table p (slice_get_within stored.positions p z at) in
        kept_is p r has ∙ (its.counted r has ∙ as_many stored.positions ys js its.are.numbers)

    its_few : kept p ≤ out p
    its_few =
        let le : length js ≤ out p = few_pass stored.positions (λ j. stored.has_edge j p) js its_once its_edges js its_once its_edges in
        let same : kept p ≡ length js = its_many in
        omega arith

    its_all : kept p ≡ out p → (i : ℕ) (x : List ℕ) → HasNumber (view_of stored) i x → stored.has_edge i p ≡ true → graph.Successor z x
    its_all same i x x_at edge =
        let here : Contains js i = all_pass stored.positions (λ j. stored.has_edge j p) js its_once its_edges (sym its_many ∙ same) i
        (slice_get_within stored.positions i x x_at) edge in
        let (y, is, y_at) = position_in stored.positions ys js its.are.numbers i here in
        subst (λ (u : List ℕ). graph.Successor z u) (same_Some y x (sym y_at ∙ x_at)) ((its.are.each y).0 is)

  few : (p : ℕ) → p < size → kept p ≤ out p
  few p lt =
      ⊎_elim
      (λ within.
      let (z, at) = element stored.positions p lt in
      let (ys, js, its) = moves p z at within in
      its_few p z at ys js its)
      (λ above.
      let (r, has) = record_of stored table p lt in
      let none : r.successors ≡ 0 = waits_without r.state r (table.states p r has)
      (λ is. let within : p < expanded_count stored = (table.expanded p r has).0 is in absurd (omega arith)) in
      let e : kept p ≡ r.successors = kept_is p r has in
      omega arith)
      (cases_lt p (expanded_count stored))

  -- with no more edges than moves, each edge is a move
  pub no_strays : sum_below size kept ≡ sum_below size (λ i. count_below size (λ p. stored.has_edge i p))
      → (i : ℕ) (x : List ℕ) → HasNumber (view_of stored) i x → EdgesAreMoves graph stored i x
  no_strays sums i x x_at p edge =
      let (_, lt) = table.edges i p edge in
      let (i_lt, _) = table.edges i p edge in
      let same : kept p ≡ out p = sum_same size kept out few (sums ∙ count_both_ways size size (λ j q. stored.has_edge j q)) p lt in
      let (z, at) = element stored.positions p lt in
      ⊎_elim
      (λ within.
      let (ys, js, its) = moves p z at within in
      (z, at, within, its_all p z at ys js its same i x x_at edge))
      (λ above.
      let (r, has) = record_of stored table p lt in
      let none : r.successors ≡ 0 = waits_without r.state r (table.states p r has)
      (λ is. let within : p < expanded_count stored = (table.expanded p r has).0 is in absurd (omega arith)) in
      let e : kept p ≡ r.successors = kept_is p r has in
      let some : 0 < out p = counted (λ j. stored.has_edge j p) size i i_lt edge in
      absurd (omega arith))
      (cases_lt p (expanded_count stored))
