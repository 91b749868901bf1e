-- What is found of the moves of a position, and what its record has of them.
use Rattle.std.proofs.Common.{◌≡◌, ◌≢◌, ◌∙◌, sym, ap, subst, ℕ, ◌+◌, ◌≤◌, Bool, true, not, cond, Option, Some, List, [], ◌∷◌, length, get_or, refl, arith, slice_get}
use Rattle.std.specs.Prelude.{Contains, All, AllPairs, count_by}
use Rattle.std.specs.List.{AllZip}
use Rattle.std.specs.Cmp.Lexicographic.{slice_cmp}
use Rattle.std.specs.Ordering.{nat_cmp}
use Rattle.std.specs.declared.cmp.Ordering.TheVariants.{Less, Equal}
use Rattle.std.proofs.lemmas.Cmp.{tied_itself, nat_list_cmp_total}
use Rattle.std.proofs.lemmas.Option.{same_Some}
use Rattle.std.proofs.lemmas.List.Elements.{All-contains}
use Rattle.std.proofs.lemmas.List.Sums.{sum_by-cons}
use Rattle.std.proofs.lemmas.Slice.Zip.{AllZip-long}
use Rattle.rbg_game.specs.declared.roles.Role.{Role}
use Rattle.retrograde.specs.declared.records.Record.{Record}
use Rattle.retrograde.specs.Graph.{Graph}
use Rattle.retrograde.specs.Stored.{Stored, IsTable, HasRecord, view_of, is_processed, processed_in}
use Rattle.retrograde.specs.Audit.{AreSuccessors, AreItsMoves, HasItsMoves}
use Rattle.retrograde.proofs.ByEdges.{moves_by_list}
use Rattle.retrograde.proofs.NumberLists.{number_in, as_many}
use Rattle.legal_moves.specs.Listed.{ListsExactly}
use Rattle.audit.specs.lemmas.Conditions.{AreItsRecords}

-- ascending bytes differ
pub ascending_differ : (ys : List (List ℕ)) → AllPairs (λ x y. slice_cmp nat_cmp x y ≡ Less) ys → AllPairs ◌≢◌ ys
ascending_differ ys pairs = λ i j d lt within same.
    let less : slice_cmp nat_cmp (get_or ys i d) (get_or ys j d) ≡ Less = pairs i j d lt within in
    let tied : slice_cmp nat_cmp (get_or ys i d) (get_or ys i d) ≡ Equal = tied_itself nat_list_cmp_total (get_or ys i d) in
    let both : slice_cmp nat_cmp (get_or ys i d) (get_or ys i d) ≡ Less = subst (λ (z : List ℕ). slice_cmp nat_cmp (get_or ys i d) z ≡ Less) (sym same) less in
    cc

-- as many records are not processed as numbers
left_in_records : {P : Type 0} (stored : Stored P) (js : List ℕ) (records : List Record) → AllZip (HasRecord stored) js records
    → count_by (λ j. not ((view_of stored).processed j)) js ≡ count_by (λ r. not (is_processed r.state)) records
left_in_records stored [] [] zip = refl
left_in_records stored [] (r ∷ records) zip = absurd zip
left_in_records stored (j ∷ js) [] zip = absurd zip
left_in_records stored (j ∷ js) (r ∷ records) zip =
    let rest : count_by (λ i. not ((view_of stored).processed i)) js ≡ count_by
    (λ q. not (is_processed q.state)) records = left_in_records stored js records zip.1 in
    let some : count_by (λ i. not ((view_of stored).processed i)) (j ∷ js)
    ≡ cond (not ((view_of stored).processed j)) 1 0 + count_by (λ i. not ((view_of stored).processed i)) js
    = sum_by-cons (λ i. cond (not ((view_of stored).processed i)) 1 0) j js in
    let others : count_by (λ q. not (is_processed q.state)) (r ∷ records) ≡ cond (not (is_processed r.state)) 1 0 + count_by
    (λ q. not (is_processed q.state)) records
    = sum_by-cons (λ q. cond (not (is_processed q.state)) 1 0) r records in
    let here : (view_of stored).processed j ≡ is_processed r.state = ap (λ (o : Option Record). processed_in o) zip.0 in
    let one : ◌≡◌ {A = ℕ} (cond (not ((view_of stored).processed j)) 1 0) (cond (not (is_processed r.state)) 1 0) = ap (λ (b : Bool). cond (not b) 1 0) here in
    omega arith

module _ (graph : Graph (List ℕ)) (stored : Stored (List ℕ)) (i : ℕ) (x : List ℕ) (ys : List (List ℕ)) (lists : ListsExactly (graph.Successor x) ys) where
  -- where one is not known, they are not its moves
  pub unknown_fails : (y : List ℕ) → Contains ys y → ((j : ℕ) → slice_get stored.positions j ≡ Some y → ⊥) → HasItsMoves graph stored i x → ⊥
  unknown_fails y here unknown (zs, ks, moves) =
      let (k, _, at) = number_in stored.positions zs ks moves.are.numbers y ((moves.are.each y).1 (All-contains (graph.Successor x) ys y lists.only here)) in
      unknown k at

  module _ (table : IsTable stored) (js : List ℕ) (numbers : AllZip (λ y j. slice_get stored.positions j ≡ Some y) ys js) where
    are : AreSuccessors graph (view_of stored) x ys js
    are = record {
      each = λ y. (All-contains (graph.Successor x) ys y lists.only, lists.all y);
      once = ascending_differ ys lists.ascending;
      numbers = numbers;
    }

    by_list : HasItsMoves graph stored i x → AreItsMoves graph stored i x ys js
    by_list = (moves_by_list graph stored table i x ys js are).0

    -- where one has no edge, they are not its moves
    pub no_edge_fails : (All (λ j. stored.has_edge j i ≡ true) js → ⊥) → HasItsMoves graph stored i x → ⊥
    no_edge_fails none moves = none (by_list moves).edges

    module _ (records : List Record) (zip : AllZip (HasRecord stored) js records) (r : Record) (has : HasRecord stored i r) where
      -- what the record is to have of them
      abbrev pub AreCounted : Type 0
      AreCounted =
          (r.successors ≡ length records) × (r.left ≡ count_by (λ q. not (is_processed q.state)) records)
          × (graph.mover x ≡ Role.Keeper → length records ≤ 1)

      long : length ys ≡ length records
      long =
          let same : length records ≡ length js = AllZip-long (HasRecord stored) js records zip in
          as_many stored.positions ys js numbers ∙ sym same

      pub not_counted : (AreCounted → ⊥) → HasItsMoves graph stored i x → ⊥
      not_counted fails moves =
          let its : AreItsMoves graph stored i x ys js = by_list moves in
          fails (
            its.counted r has ∙ long,
            its.left r has ∙ left_in_records stored js records zip,
            λ keeper. let few : length ys ≤ 1 = its.keeper keeper in let same : length ys ≡ length records = long in omega arith,
          )

      pub counted : All (λ j. stored.has_edge j i ≡ true) js → AreCounted → AreItsRecords graph stored i x records
      counted edges (many, left, keeper) = record {
        ys = ys;
        js = js;
        moves = record {
          are = are;
          edges = edges;
          counted = λ q has'. ap (λ (s : Record). s.successors) (same_Some q r (sym has' ∙ has)) ∙ (many ∙ sym long);
          left = λ q has'. ap (λ (s : Record). s.left) (same_Some q r (sym has' ∙ has)) ∙ (left ∙ sym (left_in_records stored js records zip));
          keeper = λ turn. let few : length records ≤ 1 = keeper turn in let same : length ys ≡ length records = long in omega arith;
        };
        records_are = zip;
      }
