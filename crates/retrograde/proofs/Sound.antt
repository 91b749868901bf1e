-- A table that agrees with itself at each number is right.
use Rattle.std.proofs.Common.{◌≡◌, ◌∙◌, sym, ap, subst, ℕ, zero, suc, ◌+◌, ◌-◌, ◌≤◌, ◌<◌, inl, inr, ⊎_elim, true, false, Option, Some, None, IsSome, option_map, option_and_then, length, refl, arith, slice_get}
use Rattle.std.proofs.lemmas.Option.{same_Some, slice_get_within}
use Rattle.std.proofs.lemmas.List.Sums.{count_by-le-length}
use Rattle.std.proofs.lemmas.Bool.{cases_lt}
use Rattle.rbg_game.specs.declared.roles.Player.{Player}
use Rattle.retrograde.specs.declared.records.State.{State}
use Rattle.retrograde.specs.declared.records.State.TheVariants.{Known, Expanded, Settled, Processed}
use Rattle.retrograde.specs.declared.records.Record.{Record}
use Rattle.retrograde.specs.Graph.{Graph, IsReachable, at_start, by_move, HasMove, IsEnded}
use Rattle.retrograde.specs.View.{View, HasNumber, IsExpanded}
use Rattle.retrograde.specs.Right.{IsCoherent, KnowsMoves, KeeperIsForced, ProcessesInOrder, IsRight}
use Rattle.retrograde.specs.Local.{IsLocalValue, at_end, by_moves, HasLocalValues, own_win, all_lead, still_open}
use Rattle.retrograde.specs.Stored.{Stored, HasRecord, FitsState, is_expanded, is_processed, processed_in, value_of, view_of, expanded_count, processed_count, count_below}
use Rattle.retrograde.specs.Audit.{IsReached}
use Rattle.retrograde.specs.Sound.{IsLocallySound}
use Rattle.retrograde.specs.ByEdges.{CountsItsEdges, IsSoundByEdgesAt}
use Rattle.retrograde.proofs.Finished.{is_some_at, element}
use Rattle.retrograde.proofs.Local.{right, full_from_some, end_value_some}
use Rattle.retrograde.proofs.CountLemmas.{counted, some_counted, only_one}
use Rattle.retrograde.proofs.ByEdges.{by_edges}

-- a processed record has a winner
processed_has_winner : (s : State) (r : Record) → is_processed s ≡ true → FitsState s r → IsSome r.winner
processed_has_winner Known r is fits = cc
processed_has_winner Expanded r is fits = cc
processed_has_winner Settled r is fits = cc
processed_has_winner Processed r is fits = fits

pub value_needs_record : (o : Option Record) → IsSome (option_and_then value_of o) → (r : Record) × (o ≡ Some r)
value_needs_record None some = cc
value_needs_record (Some r) some = (r, refl)

pub map_some : (winner : Option Player) (d : ℕ) → IsSome winner → IsSome {T = Player × ℕ} (option_map (λ (w : Player). (w, d)) winner)
map_some None d some = cc
map_some (Some w) d some = refl

pub processed_has_value : (o : Option Record) → processed_in o ≡ true → ((r : Record) → o ≡ Some r → FitsState r.state r)
    → IsSome (option_and_then value_of o)
processed_has_value None is fits = cc
processed_has_value (Some r) is fits = map_some r.winner r.distance (processed_has_winner r.state r is (fits r refl))

module _ {P : Type 0} (graph : Graph P) (IsWide : P → Type 0) (stored : Stored P) (sound : IsLocallySound graph IsWide stored) where
  abbrev view : View P
  view = view_of stored

  pub known_number : (i : ℕ) → i < length stored.positions → (x : P) × HasNumber view i x
  known_number i within = element stored.positions i within

  pub known_record : (i : ℕ) → i < length stored.positions → (r : Record) × HasRecord stored i r
  known_record i within = let same : length stored.records ≡ length stored.positions = sound.table.records in element stored.records i (omega arith)

  pub expanded_fits : expanded_count stored ≤ length stored.positions
  expanded_fits = omega (arith, count_by-le-length (λ (r : Record). is_expanded r.state) stored.records, sound.table.records)

  pub valued_known : (i : ℕ) → IsSome (view.value i) → i < length stored.positions
  valued_known i some =
      let (r, is) = value_needs_record (slice_get stored.records i) some in
      let within : i < length stored.records = slice_get_within stored.records i r is in
      let same : length stored.records ≡ length stored.positions = sound.table.records in
      omega arith

  pub at_number : (i : ℕ) → i < length stored.positions → (x : P) × HasNumber view i x × IsSoundByEdgesAt graph stored i x
  at_number i within = let (x, number) = known_number i within in (x, number, by_edges graph IsWide stored sound i x number)

  pub coherent : IsCoherent view
  coherent = record {
    distinct = sound.table.distinct;
    expanded = expanded_fits;
    settled = λ i some.
        let (x, number, at) = at_number i (valued_known i some) in
        ⊎_elim
        (λ within. within)
        (λ later. let none : view.value i ≡ None = at.waiting later in
        let some_none : IsSome {T = Player × ℕ} None = subst (λ (o : Option (Player × ℕ)). IsSome o) none some in cc)
        (cases_lt i (expanded_count stored));
    processed = λ i is. processed_has_value (slice_get stored.records i) is (sound.table.states i);
  }

  -- by one way or another a known position is reached
  reached_to : (b i : ℕ) (x : P) → i ≤ b → HasNumber view i x → IsReachable graph x
  reached_to b i x le number = go b i x le number (by_edges graph IsWide stored sound i x number).reached
    where
      start : (x : P) → x ≡ graph.start → IsReachable graph x
      start x same = subst (λ (y : P). IsReachable graph y) (sym same) at_start

      go : (b i : ℕ) (x : P) → i ≤ b → HasNumber view i x → IsReached graph stored i x → IsReachable graph x
      go b i x le number (inl (_, same)) = start x same
      go zero i x le number (inr (p, lt, within, edge)) = absurd (omega arith)
      go (suc b) i x le number (inr (p, lt, within, edge)) =
          let (z, there, _, move) = (by_edges graph IsWide stored sound i x number).edges_are_moves p edge in
          let less : p ≤ b = omega arith in
          by_move (go b p z less there (by_edges graph IsWide stored sound p z there).reached) move

  -- the start has number 0
  first : HasNumber view 0 graph.start
  first = go (by_edges graph IsWide stored sound 0 x number).reached
    where
      there : (x : P) × HasNumber view 0 x
      there = known_number 0 sound.table.started

      x : P
      x = there.0

      number : HasNumber view 0 x
      number = there.1

      go : IsReached graph stored 0 x → HasNumber view 0 graph.start
      go (inl (_, same)) = subst (λ (y : P). HasNumber view 0 y) same number
      go (inr (p, lt, within, edge)) = absurd (omega arith)

  later : (i : ℕ) (x : P) → HasNumber view (suc i) x → (y : P) × IsExpanded view y × graph.Successor y x
  later i x number = go (by_edges graph IsWide stored sound (suc i) x number).reached
    where
      go : IsReached graph stored (suc i) x → (y : P) × IsExpanded view y × graph.Successor y x
      go (inl (zero_is, _)) = absurd (omega arith)
      go (inr (p, lt, within, edge)) =
          let (z, there, expanded, move) = (by_edges graph IsWide stored sound (suc i) x number).edges_are_moves p edge in
          (z, (p, there, expanded), move)

  pub knows : KnowsMoves graph view
  knows = record {
    first = first;
    later = later;
    closed = λ x y (i, number, within) move.
        let (j, there, edge) = ((by_edges graph IsWide stored sound i x number).moves_are_edges within).each y move in (j, there);
    reached = λ x (i, number). let le : i ≤ i = omega arith in reached_to i i x le number;
  }

  pub forced : KeeperIsForced graph view
  forced x y z (i, number, within) keeper to_y to_z =
      let edges : CountsItsEdges graph stored i x = (by_edges graph IsWide stored sound i x number).moves_are_edges within in
      let (j, y_at, y_edge) = edges.each y to_y in
      let (k, z_at, z_edge) = edges.each z to_z in
      let j_in : j < length stored.positions = slice_get_within stored.positions j y y_at in
      let k_in : k < length stored.positions = slice_get_within stored.positions k z z_at in
      let i_in : i < length stored.positions = slice_get_within stored.positions i x number in
      let (r, has) = known_record i i_in in
      let counts : r.successors ≡ count_below (length stored.positions) (λ l. stored.has_edge l i) = edges.successors r has in
      let most : r.successors ≤ 1 = edges.keeper r has keeper in
      let one : count_below (length stored.positions) (λ l. stored.has_edge l i) ≤ 1 = omega arith in
      let same : j ≡ k = only_one (λ l. stored.has_edge l i) (length stored.positions) j k one j_in k_in y_edge z_edge in
      let at : HasNumber view k y = subst (λ (l : ℕ). HasNumber view l y) same y_at in
      same_Some y z (sym at ∙ z_at)

  -- along the settled order distances do not fall
  pub risen : (d k i j : ℕ) (v w : Player) (m n : ℕ) → slice_get stored.order k ≡ Some i → slice_get stored.order (k + d) ≡ Some j
      → view.value i ≡ Some (v, m) → view.value j ≡ Some (w, n) → m ≤ n
  risen zero k i j v w m n here there a b =
      let stay : k + 0 ≡ k = omega arith in
      let there' : slice_get stored.order k ≡ Some j = subst (λ (l : ℕ). slice_get stored.order l ≡ Some j) stay there in
      let same : i ≡ j = same_Some i j (sym here ∙ there') in
      let a' : view.value j ≡ Some (v, m) = subst (λ (l : ℕ). view.value l ≡ Some (v, m)) same a in
      let equal : m ≡ n = ap (λ (q : Player × ℕ). q.1) (same_Some (v, m) (w, n) (sym a' ∙ b)) in
      omega arith
  risen (suc d) k i j v w m n here there a b =
      let step : k + suc d ≡ suc (k + d) = omega arith in
      let next : slice_get stored.order (suc (k + d)) ≡ Some j = subst (λ (l : ℕ). slice_get stored.order l ≡ Some j) step there in
      let next_in : suc (k + d) < length stored.order = slice_get_within stored.order (suc (k + d)) j next in
      let (h, middle) = element stored.order (k + d) (omega arith) in
      let (value, has) = full_from_some (view.value h) (sound.table.settled (k + d) h middle) in
      let before : m ≤ value.1 = risen d k i h v value.0 m value.1 here middle a has in
      let (x, number, at) = at_number j (valued_known j (is_some_at (view.value j) (w, n) b)) in
      let after : value.1 ≤ n = at.no_nearer (k + d) h value.0 w value.1 n middle next has b in
      omega arith

  pub order : ProcessesInOrder view
  order = record {
    after_expanding = λ i is.
        let (value, has) = full_from_some (view.value i) (coherent.processed i is) in
        let (x, number, at) = at_number i (valued_known i (coherent.processed i is)) in
        at.late is;
    rising = λ i j v w m n is a is_not b.
        let (k, here) = sound.table.listed i (is_some_at (view.value i) (v, m) a) in
        let (l, there) = sound.table.listed j (is_some_at (view.value j) (w, n) b) in
        let k_in : k < processed_count stored = (sound.table.processed k i here).0 is in
        ⊎_elim
        (λ l_in. let is : view.processed j ≡ true = (sound.table.processed l j there).1 l_in in let no_way : true ≡ false = sym is ∙ is_not in cc)
        (λ l_out.
        let apart : l ≡ k + (l - k) = omega arith in
        let there' : slice_get stored.order (k + (l - k)) ≡ Some j = subst (λ (q : ℕ). slice_get stored.order q ≡ Some j) apart there in
        risen (l - k) k i j v w m n here there' a b)
        (cases_lt l (processed_count stored));
  }

  pub local : HasLocalValues graph view
  local i x number within =
      let edges : CountsItsEdges graph stored i x = (by_edges graph IsWide stored sound i x number).moves_are_edges within in
      ⊎_elim
      (λ some.
      let (j, j_in, edge) = some_counted (λ l. stored.has_edge l i) (length stored.positions) some in
      let (y, y_at) = known_number j j_in in
      let (z, z_at, _, move) = (by_edges graph IsWide stored sound j y y_at).edges_are_moves i edge in
      let same : z ≡ x = same_Some z x (sym z_at ∙ number) in
      let has : HasMove graph x = (y, subst (λ (u : P). graph.Successor u y) same move) in
      by_moves has ((by_edges graph IsWide stored sound i x number).moving within has))
      (λ none.
      let ended : IsEnded graph x = λ y move.
      let (j, y_at, edge) = edges.each y move in
      let j_in : j < length stored.positions = slice_get_within stored.positions j y y_at in
      let some : 0 < count_below (length stored.positions) (λ l. stored.has_edge l i) = counted (λ l. stored.has_edge l i)
      (length stored.positions) j j_in edge in
      omega arith in
      at_end ended ((by_edges graph IsWide stored sound i x number).ended within ended))
      (cases_lt 0 (count_below (length stored.positions) (λ l. stored.has_edge l i)))

  pub sound_right : IsRight graph view
  sound_right = right graph view coherent knows order local forced

  -- one step of the lemma below
  distance_step : (n i k : ℕ) (w : Player) → slice_get stored.order k ≡ Some i → view.value i ≡ Some (w, suc n)
      → ((j l : ℕ) (v : Player) → slice_get stored.order l ≡ Some j → view.value j ≡ Some (v, n) → n ≤ l) → suc n ≤ k
  distance_step n i k w at is before_it = go (local i x number within)
    where
      i_in : i < length stored.positions
      i_in = valued_known i (is_some_at (view.value i) (w, suc n) is)

      x : P
      x = (known_number i i_in).0

      number : HasNumber view i x
      number = (known_number i i_in).1

      within : i < expanded_count stored
      within = coherent.settled i (is_some_at (view.value i) (w, suc n) is)

      nearer : (j : ℕ) (v : Player) → view.value j ≡ Some (v, n) → suc n ≤ k
      nearer j v has =
          let (l, there) = sound.table.listed j (is_some_at (view.value j) (v, n) has) in
          let before : n ≤ l = before_it j l v there has in
          ⊎_elim
          (λ lt. omega arith)
          (λ ge.
          let apart : l ≡ k + (l - k) = omega arith in
          let there' : slice_get stored.order (k + (l - k)) ≡ Some j = subst (λ (q : ℕ). slice_get stored.order q ≡ Some j) apart there in
          let wrong : suc n ≤ n = risen (l - k) k i j w v (suc n) n at there' is has in
          absurd (omega arith))
          (cases_lt l k)

      same_distance : (v : Player) (m : ℕ) → view.value i ≡ Some (v, suc m) → m ≡ n
      same_distance v m value = let e : suc m ≡ suc n = ap (λ (q : Player × ℕ). q.1) (same_Some (v, suc m) (w, suc n) (sym value ∙ is)) in omega arith

      go : IsLocalValue graph view x (view.value i) → suc n ≤ k
      go (at_end ended value) = let e : suc n ≡ 0 = (end_value_some (graph.ahead x) w (suc n) (sym value ∙ is)).1 in absurd (omega arith)
      go (by_moves has (own_win v m win value)) =
          let (y, move, (j, at_j, done, there)) = win.nearest in
          nearer j v (subst (λ (l : ℕ). view.value j ≡ Some (v, l)) (same_distance v m value) there)
      go (by_moves has (all_lead v m none_own all value)) =
          let (y, move, (j, at_j, done, there)) = all.farthest in
          nearer j v (subst (λ (l : ℕ). view.value j ≡ Some (v, l)) (same_distance v m value) there)
      go (by_moves has (still_open none_own some_left value)) = cc

  -- a distance is at most the place in the settled order
  pub distance_within_place : (n i k : ℕ) (w : Player) → slice_get stored.order k ≡ Some i → view.value i ≡ Some (w, n) → n ≤ k
  distance_within_place zero i k w at is = omega arith
  distance_within_place (suc n) i k w at is = distance_step n i k w at is (λ j l v. distance_within_place n j l v)

  -- what is in the order has a record
  pub ordered_has_record : (k i : ℕ) → slice_get stored.order k ≡ Some i → i < length stored.records
  ordered_has_record k i at =
      let within : i < length stored.positions = valued_known i (sound.table.settled k i at) in
      let same : length stored.records ≡ length stored.positions = sound.table.records in
      omega arith
