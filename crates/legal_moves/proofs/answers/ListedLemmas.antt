-- The ends that a search for moves has found are exactly the successors.
use Rattle.std.proofs.Common.{◌≡◌, ◌≢◌, ℕ, zero, suc, ◌<◌, ◌≤◌, true, List, [], ◌∷◌, length, map, get_or, Some, slice_get, All, AllPairs, Contains, refl, sym, ap, ◌∙◌, subst, arith}
use Rattle.std.specs.BTreeMap.{BTreeMap, is_at}
use Rattle.std.specs.Map.{keys_of}
use Rattle.std.specs.List.{AllByRecursion}
use Rattle.std.specs.List.Sorted.{IsStrictlySortedBy}
use Rattle.std.specs.Cmp.{IsTotalOrder, on_total, Equal-is}
use Rattle.std.proofs.lemmas.Slice.Eq.{bytes_eq-Decides}
use Rattle.std.proofs.lemmas.Map.Text.{is_eq-slice_cmp}
use Rattle.std.specs.declared.cmp.Ordering.{Ordering}
use Rattle.std.specs.Cmp.Lexicographic.{slice_cmp}
use Rattle.std.specs.Ordering.{nat_cmp}
use Rattle.std.specs.declared.cmp.Ordering.TheVariants.{Less, Equal}
use Rattle.std.proofs.lemmas.Cmp.{nat_list_cmp_total}
use Rattle.std.proofs.lemmas.List.{length-map, get_or-map}
use Rattle.std.proofs.lemmas.Map.Keys.{Less-from_sorted}
use Rattle.std.proofs.lemmas.Map.Entries.{place_from_lookup, btree_map_get_place}
use Rattle.std.proofs.lemmas.Option.{slice_get-get_or}
use Rattle.rbg_game.specs.Games.{Game}
use Rattle.rbg_game.specs.Rules.{is_switch, action_at}
use Rattle.rbg_game.specs.declared.position.Position.{Position}
use Rattle.arrayvec.specs.ArrayVec.{ArrayVec}
use Rattle.position_pack.specs.Bytes.{bytes_of}
use Rattle.legal_moves.specs.Moves.{ShowsFrom}
use Rattle.legal_moves.specs.Shown.{shown_to, shown_of, moves_of}
use Rattle.legal_moves.specs.Listed.{IsSuccessorBytes, ShownMove, IsShownWord, IsShownMove, IsShortestMove, AreMoves}
use Rattle.legal_moves.specs.lemmas.Configurations.{packed_cmp, AreEnds, IsSearch}
use Rattle.legal_moves.specs.Configurations.{Configuration}
use Rattle.legal_moves.proofs.Distinct.{distinct-le}
use Rattle.legal_moves.proofs.GetLemmas.{slice_get-within}
use Rattle.legal_moves.proofs.answers.EndsByBytes.{tied}
use Rattle.legal_moves.proofs.searches.SearchLemmas.{Searched-by_move}
use Rattle.legal_moves.proofs.searches.ExpandLemmas.{ends_at}
use Rattle.legal_moves.proofs.searches.LevelLemmas.{complete}
use Rattle.legal_moves.proofs.searches.WidthLemmas.{contains_by_get, all_by_get, map_at}
use Rattle.legal_moves.proofs.answers.ShownLemmas.{its_word, is_move, shortest}

abbrev Entries : Type 0
Entries = List (ArrayVec ℕ × ℕ)

packed_total : IsTotalOrder packed_cmp
packed_total = on_total (λ (x : ArrayVec ℕ). x.items) nat_list_cmp_total

-- ---- what is shown of the entries

-- an element of the moves comes from an entry
record ComesFrom (cs : List Configuration) (ps : Entries) (m : ShownMove) : Type 0 where
  pub place : ℕ
  pub entry : ArrayVec ℕ × ℕ
  pub entry_at : slice_get ps place ≡ Some entry
  pub same : m ≡ shown_of cs (record { packed = entry.0; index = entry.1 })

comes_from : (cs : List Configuration) (ps : Entries) (i : ℕ) (m : ShownMove) → slice_get (moves_of cs ps) i ≡ Some m → ComesFrom cs ps m
comes_from cs [] i m at = absurd (cc)
comes_from cs (p ∷ ps) zero m at = record { place = 0; entry = p; entry_at = refl; same = cc }
comes_from cs (p ∷ ps) (suc i) m at =
    let h = comes_from cs ps i m at in
    record { place = suc h.place; entry = h.entry; entry_at = h.entry_at; same = h.same }

-- the order stays
module _ (cs : List Configuration) where
  bytes : Entries → List (List ℕ)
  bytes ps = map (λ m. m.next) (moves_of cs ps)

  above : (x : ArrayVec ℕ) (ps : Entries) → AllByRecursion (λ y. packed_cmp x y ≡ Less) (keys_of ps)
      → AllByRecursion (λ y. slice_cmp nat_cmp x.items y ≡ Less) (bytes ps)
  unfolding bytes
  above x [] h = tt
  above x (p ∷ ps) h = (h.0, above x ps h.1)

  sorted : (ps : Entries) → IsStrictlySortedBy packed_cmp (keys_of ps) → IsStrictlySortedBy (slice_cmp nat_cmp) (bytes ps)
  unfolding bytes IsStrictlySortedBy
  sorted [] h = tt
  sorted (p ∷ ps) h = (above p.0 ps h.0, sorted ps h.1)

  pub ascending_of : (ps : Entries) → IsStrictlySortedBy packed_cmp (keys_of ps)
      → AllPairs (λ x y. slice_cmp nat_cmp x y ≡ Less) (map (λ m. m.next) (moves_of cs ps))
  unfolding bytes
  ascending_of ps h i j d less inside = Less-from_sorted (slice_cmp nat_cmp) (map (λ m. m.next) (moves_of cs ps)) i j d (sorted ps h) less inside

-- ---- the successors

module _ (game : Game) (at : Position) (cs : List Configuration) (ends : BTreeMap (ArrayVec ℕ) ℕ)
    (search : IsSearch game game.rules at.place at.state cs) (index : AreEnds cs (length cs) ends) where
  -- the configuration of a move
  record HasEnd (m : ShownMove) : Type 0 where
    pub place : ℕ
    pub configuration : Configuration
    pub is_at : slice_get cs place ≡ Some configuration
    pub ended : configuration.ends ≡ true
    pub next_is : m.next ≡ bytes_of configuration.at
    pub shown_is : m.shown ≡ shown_to cs place place

  end_of : (i : ℕ) (m : ShownMove) → slice_get (moves_of cs ends.entries) i ≡ Some m → HasEnd m
  end_of i m is =
      let from = comes_from cs ends.entries i m is in
      let known = index.only from.entry.0 from.entry.1
      (btree_map_get_place packed_total ends from.place from.entry.0 from.entry.1 index.ordered from.entry_at) in
      record {
        place = from.entry.1;
        configuration = known.0;
        is_at = known.1;
        ended = known.2;
        next_is = ap (λ x. x.next) from.same ∙ known.4;
        shown_is = ap (λ x. x.shown) from.same;
      }

  shown : (m : ShownMove) (h : HasEnd m) → IsShownWord game at m h.configuration.at
      (its_word game at.place at.state cs search h.place h.configuration h.is_at h.ended).word
  shown m h = record {
    bytes_are = h.next_is;
    leads = is_move game at.place at.state cs search h.place h.configuration h.is_at h.ended at refl refl;
    shows = subst (ShowsFromHere h) (sym h.shown_is) (its_word game at.place at.state cs search h.place h.configuration h.is_at h.ended).shows;
  }
    where
      ShowsFromHere : HasEnd m → List (ℕ × ℕ) → Type 0
      ShowsFromHere h xs = ShowsFrom game
          (its_word game at.place at.state cs search h.place h.configuration h.is_at h.ended).word at.state h.configuration.at.state xs

  pub shown_moves : All (IsShownMove game at) (moves_of cs ends.entries)
  shown_moves = all_by_get (IsShownMove game at) (moves_of cs ends.entries)
      (λ i m is. let h = end_of i m is in
      (h.configuration.at, (its_word game at.place at.state cs search h.place h.configuration h.is_at h.ended).word, shown m h))

  pub shortest_moves : All (IsShortestMove game at) (moves_of cs ends.entries)
  shortest_moves = all_by_get (IsShortestMove game at) (moves_of cs ends.entries)
      (λ i m is. let h = end_of i m is in (
        h.configuration.at,
        (its_word game at.place at.state cs search h.place h.configuration h.is_at h.ended).word,
        shown m h,
        shortest game at.place at.state cs search h.place h.configuration h.is_at h.ended at refl refl,
      ))

  only_successors : All (IsSuccessorBytes game at) (map (λ m. m.next) (moves_of cs ends.entries))
  only_successors k d inside =
      let short : k < length (moves_of cs ends.entries) = omega (arith, inside, length-map (moves_of cs ends.entries) (λ m. m.next)) in
      let m = get_or (moves_of cs ends.entries) k (record { next = []; shown = [] }) in
      let h = end_of k m (slice_get-get_or (moves_of cs ends.entries) k (record { next = []; shown = [] }) short) in (
        h.configuration.at,
        get_or-map (λ x. x.next) (moves_of cs ends.entries) k (record { next = []; shown = [] }) d short
            ∙ h.next_is,
        (
          (its_word game at.place at.state cs search h.place h.configuration h.is_at h.ended).word,
          is_move game at.place at.state cs search h.place h.configuration h.is_at h.ended at refl refl,
        ),
      )

  all_successors : (x : List ℕ) → IsSuccessorBytes game at x → Contains (map (λ m. m.next) (moves_of cs ends.entries)) x
  all_successors x s =
      let next = s.0 in
      let searched = Searched-by_move game at s.2.0 next s.2.1 in
      let f = complete game game.rules at.place at.state cs search.found search.expanded s.2.0 next.state next.place searched.0 in
      let place : f.configuration.at.place ≡ next.place = ap (λ p. p.place) f.same in
      let switch = ends_at game game.rules at.place at.state cs search.found f.index f.configuration f.is_at
      ∙ ap (λ p. is_switch (action_at game.rules 1 p)) place ∙ searched.1 in
      let there = place_from_lookup (is_at (packed_cmp (record { items = bytes_of f.configuration.at }))) ends.entries f.index
      (index.all f.index f.configuration (slice_get-within cs f.index f.configuration f.is_at) f.is_at switch) in
      let made : ArrayVec ℕ × ℕ → ShownMove = λ p. shown_of cs (record { packed = p.0; index = p.1 }) in
      let kept = map_at made ends.entries there.0 (there.1, f.index) there.2 in
      let key : bytes_of f.configuration.at ≡ there.1.items = tied (record { items = bytes_of f.configuration.at }) there.1 there.3 in
      let same : there.1.items ≡ x = sym key ∙ ap bytes_of f.same ∙ sym s.1 in
      contains_by_get (map (λ m. m.next) (moves_of cs ends.entries)) there.0 x
      (map_at (λ m. m.next) (moves_of cs ends.entries) there.0 (made (there.1, f.index)) kept ∙ ap Some same)

  pub are_moves : AreMoves game at (moves_of cs ends.entries)
  are_moves = record {
    successors = record {
      only = only_successors;
      all = all_successors;
      ascending = ascending_of cs ends.entries index.ordered;
    };
    words = shown_moves;
  }

  -- ---- different moves have different configurations, so there are not more of them

  have_configurations : All (Contains (map (λ (c : Configuration). bytes_of c.at) cs)) (map (λ m. m.next) (moves_of cs ends.entries))
  have_configurations k d inside =
      let none : ShownMove = record { next = []; shown = [] } in
      let short : k < length (moves_of cs ends.entries) = omega (arith, inside, length-map (moves_of cs ends.entries) (λ m. m.next)) in
      let m = get_or (moves_of cs ends.entries) k none in
      let h = end_of k m (slice_get-get_or (moves_of cs ends.entries) k none short) in
      let same = get_or-map (λ (x : ShownMove). x.next) (moves_of cs ends.entries) k none d short ∙ h.next_is in
      contains_by_get (map (λ (c : Configuration). bytes_of c.at) cs) h.place
      (get_or (map (λ (x : ShownMove). x.next) (moves_of cs ends.entries)) k d)
      (map_at (λ (c : Configuration). bytes_of c.at) cs h.place h.configuration h.is_at ∙ ap Some (sym same))

  are_different : AllPairs ◌≢◌ (map (λ m. m.next) (moves_of cs ends.entries))
  are_different i j d before inside same =
      let x = get_or (map (λ (m : ShownMove). m.next) (moves_of cs ends.entries)) i d in
      let y = get_or (map (λ (m : ShownMove). m.next) (moves_of cs ends.entries)) j d in
      not_both (slice_cmp nat_cmp x y) (ascending_of cs ends.entries index.ordered i j d before inside)
      ((Equal-is (slice_cmp nat_cmp x y)).0 (is_eq-slice_cmp x y ∙ (bytes_eq-Decides x y).1 same))
    where
      not_both : (o : Ordering) → o ≡ Less → o ≡ Equal → ⊥
      not_both o less equal = cc

  pub few_moves : length (moves_of cs ends.entries) ≤ 65536
  few_moves =
      let all = distinct-le (map (λ (c : Configuration). bytes_of c.at) cs)
      (map (λ (m : ShownMove). m.next) (moves_of cs ends.entries)) are_different have_configurations in
      omega (
        arith,
        all,
        length-map (moves_of cs ends.entries) (λ (m : ShownMove). m.next),
        length-map cs (λ (c : Configuration). bytes_of c.at),
        search.found.few,
      )
