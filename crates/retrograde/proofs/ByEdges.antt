-- Over the whole of a table whose parts fit together the edges from a number are those to its successors.
use Rattle.std.proofs.Common.{◌≡◌, ◌∙◌, ◌↔◌, sym, subst, ℕ, ◌≤◌, ◌<◌, Bool, true, not, length, arith, List}
use Rattle.std.specs.Prelude.{Contains}
use Rattle.std.proofs.lemmas.Option.{same_Some, slice_get_within}
use Rattle.std.proofs.lemmas.List.Elements.{All-contains}
use Rattle.retrograde.specs.Graph.{Graph}
use Rattle.retrograde.specs.View.{View, HasNumber}
use Rattle.retrograde.specs.Stored.{Stored, IsTable, view_of}
use Rattle.retrograde.specs.Audit.{AreSuccessors, AreItsMoves, HasItsMoves, EdgesAreMoves}
use Rattle.retrograde.specs.Sound.{IsLocallySoundAt, IsLocallySound}
use Rattle.retrograde.specs.ByEdges.{CountsItsEdges, IsSoundByEdgesAt}
use Rattle.retrograde.proofs.Finished.{element}
use Rattle.retrograde.proofs.NumberLists.{IsOnce, once_from_pairs, pairs_from_once, all_from_contains, count_listed, length_listed, count_alike, length_alike, number_in, position_in, as_many, numbers_once, positions_once, Those, those}

module _ {P : Type 0} (graph : Graph P) (stored : Stored P) (table : IsTable stored) where
  abbrev view : View P
  view = view_of stored

  abbrev size : ℕ
  size = length stored.positions

  -- each edge to any number is a move
  abbrev AllMoves : Type 0
  AllMoves = (j : ℕ) (y : P) → HasNumber view j y → EdgesAreMoves graph stored j y

  -- an edge from i leads to a successor of its position
  leads : AllMoves → (i j : ℕ) (x y : P) → HasNumber view i x → HasNumber view j y → stored.has_edge j i ≡ true → graph.Successor x y
  leads all i j x y x_at y_at edge =
      let (z, z_at, _, move) = all j y y_at i edge in
      subst (λ (u : P). graph.Successor u y) (same_Some z x (sym z_at ∙ x_at)) move

  -- the numbers of the successors are those that edges lead to
  counts_from_list : AllMoves → (i : ℕ) (x : P) → HasNumber view i x → (ys : List P) (js : List ℕ) → AreItsMoves graph stored i x ys js
      → CountsItsEdges graph stored i x
  counts_from_list all i x x_at ys js moves = record {
    each = λ y move.
        let (j, here, y_at) = number_in stored.positions ys js moves.are.numbers y ((moves.are.each y).1 move) in
        (j, y_at, edge_at j here);
    successors = λ r has. moves.counted r has ∙ (many ∙ sym (length_listed size (λ j. stored.has_edge j i) js once each));
    left = λ r has. moves.left r has ∙ sym (count_listed size (λ j. stored.has_edge j i) (λ j. not (view.processed j)) js once each);
    keeper = λ r has is. let few : length ys ≤ 1 = moves.keeper is in let same : r.successors ≡ length ys = moves.counted r has in omega arith;
  }
    where
      many : length ys ≡ length js
      many = as_many stored.positions ys js moves.are.numbers

      once : IsOnce js
      once = numbers_once stored.positions ys js moves.are.numbers (once_from_pairs ys moves.are.once)

      edge_at : (j : ℕ) → Contains js j → stored.has_edge j i ≡ true
      edge_at j here = All-contains (λ k. stored.has_edge k i ≡ true) js j moves.edges here

      each : (j : ℕ) → Contains js j ↔ ((j < size) × (stored.has_edge j i ≡ true))
      each j = (
        λ here. let (y, _, y_at) = position_in stored.positions ys js moves.are.numbers j here in (slice_get_within stored.positions j y y_at, edge_at j here),
        λ (lt, edge).
            let (y, y_at) = element stored.positions j lt in
            let (k, here, k_at) = number_in stored.positions ys js moves.are.numbers y ((moves.are.each y).1 (leads all i j x y x_at y_at edge)) in
            subst (λ (l : ℕ). Contains js l) (table.distinct k j y k_at y_at) here,
      )

  counts_from_moves : AllMoves → (i : ℕ) (x : P) → HasNumber view i x → HasItsMoves graph stored i x → CountsItsEdges graph stored i x
  counts_from_moves all i x x_at (ys, js, moves) = counts_from_list all i x x_at ys js moves

  moves_from_counts : AllMoves → (i : ℕ) (x : P) → HasNumber view i x → CountsItsEdges graph stored i x → HasItsMoves graph stored i x
  moves_from_counts all i x x_at counts = (
    found.ys,
    found.js,
    record {
      are = record {
        each = λ y. (
          (λ here.
              let (j, there, y_at) = number_in stored.positions found.ys found.js found.numbers y here in
              leads all i j x y x_at y_at ((found.each j).0 there).1),
          (λ move.
              let (j, y_at, edge) = counts.each y move in
              let lt : j < size = slice_get_within stored.positions j y y_at in
              let (z, here, z_at) = position_in stored.positions found.ys found.js found.numbers j ((found.each j).1 (lt, edge)) in
              subst (λ (u : P). Contains found.ys u) (same_Some z y (sym z_at ∙ y_at)) here),
        );
        once = pairs_from_once found.ys (positions_once stored.positions table.distinct found.ys found.js found.numbers found.once);
        numbers = found.numbers;
      };
      edges = all_from_contains (λ j. stored.has_edge j i ≡ true) found.js (λ j here. ((found.each j).0 here).1);
      counted = λ r has. counts.successors r has ∙ (length_listed size test found.js found.once found.each ∙ sym many);
      left = λ r has. counts.left r has ∙ count_listed size test (λ j. not (view.processed j)) found.js found.once found.each;
      keeper = λ is.
          let lt : i < length stored.records = let in_it : i < size = slice_get_within stored.positions i x x_at in
          let same : length stored.records ≡ size = table.records in omega arith in
          let (r, has) = element stored.records i lt in
          let few : r.successors ≤ 1 = counts.keeper r has is in
          let same : r.successors ≡ length found.ys = counts.successors r has ∙ (length_listed size test found.js found.once found.each ∙ sym many) in
          omega arith;
    },
  )
    where
      test : ℕ → Bool
      test j = stored.has_edge j i

      found : Those stored.positions size test
      found = those stored.positions size test (omega arith)

      many : length found.ys ≡ length found.js
      many = as_many stored.positions found.ys found.js found.numbers

  pub edges_from_sound : ((i : ℕ) (x : P) → HasNumber view i x → IsLocallySoundAt graph stored i x)
      → (i : ℕ) (x : P) → HasNumber view i x → IsSoundByEdgesAt graph stored i x
  edges_from_sound each i x x_at =
      let at : IsLocallySoundAt graph stored i x = each i x x_at in
      record {
        reached = at.reached;
        edges_are_moves = at.edges.to_it;
        moves_are_edges = λ within. counts_from_moves (λ j y y_at. (each j y y_at).edges.to_it) i x x_at (at.edges.from_it within);
        late = at.late;
        no_nearer = at.no_nearer;
        ended = at.ended;
        moving = at.moving;
        waiting = at.waiting;
      }

  pub sound_from_edges : ((i : ℕ) (x : P) → HasNumber view i x → IsSoundByEdgesAt graph stored i x)
      → (i : ℕ) (x : P) → HasNumber view i x → IsLocallySoundAt graph stored i x
  sound_from_edges each i x x_at =
      let at : IsSoundByEdgesAt graph stored i x = each i x x_at in
      record {
        reached = at.reached;
        edges = record {
          from_it = λ within. moves_from_counts (λ j y y_at. (each j y y_at).edges_are_moves) i x x_at (at.moves_are_edges within);
          to_it = at.edges_are_moves;
        };
        late = at.late;
        no_nearer = at.no_nearer;
        ended = at.ended;
        moving = at.moving;
        waiting = at.waiting;
      }

-- whichever list of its successors is taken, they are its moves or not
module _ {P : Type 0} (graph : Graph P) (stored : Stored P) (table : IsTable stored) (i : ℕ) (x : P) where
  -- the numbers of the successors are the same in any order
  same_numbers : (ys zs : List P) (js ks : List ℕ) → AreSuccessors graph (view_of stored) x ys js → AreSuccessors graph (view_of stored) x zs ks
      → (j : ℕ) → Contains js j → Contains ks j
  same_numbers ys zs js ks are are' j here =
      let (y, is, y_at) = position_in stored.positions ys js are.numbers j here in
      let (k, there, k_at) = number_in stored.positions zs ks are'.numbers y ((are'.each y).1 ((are.each y).0 is)) in
      subst (λ (l : ℕ). Contains ks l) (table.distinct k j y k_at y_at) there

  moves_along : (ys zs : List P) (js ks : List ℕ) → AreSuccessors graph (view_of stored) x ys js → AreItsMoves graph stored i x zs ks
      → AreItsMoves graph stored i x ys js
  moves_along ys zs js ks are moves = record {
    are = are;
    edges = all_from_contains (λ j. stored.has_edge j i ≡ true) js
        (λ j here. All-contains (λ k. stored.has_edge k i ≡ true) ks j moves.edges (same_numbers ys zs js ks are moves.are j here));
    counted = λ r has. moves.counted r has ∙ long;
    left = λ r has. moves.left r has ∙ sym (count_alike (length stored.positions) (λ j. not ((view_of stored).processed j)) js ks once once' below alike);
    keeper = λ is. let few : length zs ≤ 1 = moves.keeper is in let same : length zs ≡ length ys = long in omega arith;
  }
    where
      once : IsOnce js
      once = numbers_once stored.positions ys js are.numbers (once_from_pairs ys are.once)

      once' : IsOnce ks
      once' = numbers_once stored.positions zs ks moves.are.numbers (once_from_pairs zs moves.are.once)

      below : (j : ℕ) → Contains js j → j < length stored.positions
      below j here = let (y, _, y_at) = position_in stored.positions ys js are.numbers j here in slice_get_within stored.positions j y y_at

      alike : (j : ℕ) → Contains js j ↔ Contains ks j
      alike j = (same_numbers ys zs js ks are moves.are j, same_numbers zs ys ks js moves.are are j)

      long : length zs ≡ length ys
      long =
          as_many stored.positions zs ks moves.are.numbers
          ∙ (sym (length_alike (length stored.positions) js ks once once' below alike) ∙ sym (as_many stored.positions ys js are.numbers))

  pub moves_by_list : (ys : List P) (js : List ℕ) → AreSuccessors graph (view_of stored) x ys js
      → HasItsMoves graph stored i x ↔ AreItsMoves graph stored i x ys js
  moves_by_list ys js are = ((λ (zs, ks, moves). moves_along ys zs js ks are moves), (λ moves. (ys, js, moves)))

-- what is locally sound is so by its edges, at each number
pub by_edges : {P : Type 0} (graph : Graph P) (IsWide : P → Type 0) (stored : Stored P) → IsLocallySound graph IsWide stored
    → (i : ℕ) (x : P) → HasNumber (view_of stored) i x → IsSoundByEdgesAt graph stored i x
by_edges graph IsWide stored sound = edges_from_sound graph stored sound.table sound.each
