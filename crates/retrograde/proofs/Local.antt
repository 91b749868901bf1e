-- Where each value follows from the processed ones that the position leads to, and positions are processed by
-- rising distance, each value is exact.
use Rattle.std.proofs.Common.{◌≡◌, ◌∙◌, sym, ap, subst, ℕ, zero, suc, ◌≤◌, ◌<◌, ◌⊎◌, inl, inr, ⊎_elim, Bool, true, false, Option, Some, None, IsSome, length, refl, arith}
use Rattle.std.proofs.lemmas.Option.{same_Some, slice_get_within}
use Rattle.std.proofs.lemmas.Bool.{cases_lt}
use Rattle.rbg_game.specs.declared.roles.Player.{Player}
use Rattle.retrograde.specs.Graph.{Graph, Moves}
use Rattle.retrograde.specs.Values.{EndsAhead, CanMoveTo, MustMoveTo, WinsWithin, WonIn}
use Rattle.retrograde.specs.View.{View, HasNumber, IsKnown, IsExpanded, IsProcessed, HasValue}
use Rattle.retrograde.specs.Right.{IsCoherent, KnowsMoves, KeeperIsForced, ProcessesInOrder, IsShown, IsRight}
use Rattle.retrograde.specs.Local.{IsProcessedFor, end_value, own_win, all_lead, still_open, IsLocalValue, at_end, by_moves, HasLocalValues}
use Rattle.retrograde.proofs.Values.{more, one_winner, same_mover}
use Rattle.retrograde.proofs.Finished.{none_or_some, is_some_at}

pub full_from_some : {A : Type 0} (o : Option A) → IsSome o → (a : A) × (o ≡ Some a)
full_from_some None some = cc
full_from_some (Some a) some = (a, refl)

pub end_value_some : (o : Option Player) (w : Player) (n : ℕ) → end_value o ≡ Some (w, n) → (o ≡ Some w) × (n ≡ 0)
end_value_some None w n e = cc
end_value_some (Some v) w n e = let p : (v, 0) ≡ (w, n) = same_Some (v, 0) (w, n) e in
    (ap (λ (q : Player × ℕ). Some q.0) p, ap (λ (q : Player × ℕ). q.1) (sym p))

module _ {P : Type 0} (graph : Graph P) (view : View P)
    (coherent : IsCoherent view) (moves : KnowsMoves graph view) (order : ProcessesInOrder view) (local : HasLocalValues graph view) where
  won_along : (v w : Player) (m n : ℕ) (x : P) (o : Option (Player × ℕ)) → o ≡ Some (v, m) → o ≡ Some (w, n) → WinsWithin graph v m x → WinsWithin graph w n x
  won_along v w m n x o a b won =
      let same : (v, m) ≡ (w, n) = same_Some (v, m) (w, n) (sym a ∙ b) in
      subst (λ (q : Player × ℕ). WinsWithin graph q.0 q.1 x) same won

  settled_expanded : (i : ℕ) (w : Player) (n : ℕ) → view.value i ≡ Some (w, n) → i < view.expanded
  settled_expanded i w n is = coherent.settled i (is_some_at (view.value i) (w, n) is)

  distance : (v w : Player) (m n : ℕ) (o : Option (Player × ℕ)) → o ≡ Some (v, m) → o ≡ Some (w, n) → m ≡ n
  distance v w m n o a b = ap (λ (q : Player × ℕ). q.1) (same_Some (v, m) (w, n) (sym a ∙ b))

  processed_for_along : (v w : Player) (n : ℕ) (y : P) → v ≡ w → IsProcessedFor view v n y → IsProcessedFor view w n y
  processed_for_along v w n y same there = subst (λ (u : Player). IsProcessedFor view u n y) same there

  -- what is processed is settled
  processed_value : (i : ℕ) → view.processed i ≡ true → (value : Player × ℕ) × (view.value i ≡ Some value)
  processed_value i is = full_from_some (view.value i) (coherent.processed i is)

  -- once something is processed, all is expanded
  all_expanded : (i : ℕ) → view.processed i ≡ true → (j : ℕ) (x : P) → HasNumber view j x → j < view.expanded
  all_expanded i is j x number =
      let all : view.expanded ≡ length view.known = order.after_expanding i is in
      let within : j < length view.known = slice_get_within view.known j x number in
      omega arith

  -- what is nearer than a processed position is processed
  sooner_processed : (i j : ℕ) (v w : Player) (m n : ℕ)
      → view.processed i ≡ true → view.value i ≡ Some (v, m) → view.value j ≡ Some (w, n) → n < m → view.processed j ≡ true
  sooner_processed i j v w m n is here there sooner = go (view.processed j) refl
    where
      go : (b : Bool) → view.processed j ≡ b → view.processed j ≡ true
      go true e = e
      go false e = let le : m ≤ n = order.rising i j v w m n is here e there in absurd (omega arith)

  sound_step : (i : ℕ) (x : P) (w : Player) (n : ℕ)
      → ((j : ℕ) (y : P) (v : Player) (m : ℕ) → m < n → HasNumber view j y → view.value j ≡ Some (v, m) → WinsWithin graph v m y)
      → HasNumber view i x → view.value i ≡ Some (w, n) → WinsWithin graph w n x
  sound_step i x w n before number is = cases (local i x number (settled_expanded i w n is))
    where
      cases : IsLocalValue graph view x (view.value i) → WinsWithin graph w n x
      cases (at_end ended value) =
          let (ahead, zero_is) = end_value_some (graph.ahead x) w n (sym value ∙ is) in
          let le : 0 ≤ n = omega arith in
          more graph w 0 n x le (ended, ahead)
      cases (by_moves has (own_win v m win value)) =
          let same : suc m ≡ n = distance v w (suc m) n (view.value i) value is in
          let (y, move, (j, at, done, there)) = win.nearest in
          let lt : m < n = omega arith in
          won_along v w (suc m) n x (view.value i) value is (inr (inl (win.turn, (y, move, before j y v m lt at there))))
      cases (by_moves has (all_lead v m none_own all value)) =
          let same : suc m ≡ n = distance v w (suc m) n (view.value i) value is in
          won_along v w (suc m) n x (view.value i) value is
          (inr (inr (
            (λ turn. none_own v m (turn, all.farthest)),
            has,
            (λ y move.
                let (k, le, (j, at, done, there)) = all.each y move in
                let lt : k < n = omega arith in
                more graph v k m y le (before j y v k lt at there)),
          )))
      cases (by_moves has (still_open none_own some_left value)) = cc

  sound_to : (b i : ℕ) (x : P) (w : Player) (n : ℕ) → n ≤ b → HasNumber view i x → view.value i ≡ Some (w, n) → WinsWithin graph w n x
  sound_to zero i x w n le = sound_step i x w n (λ j y v m lt. absurd (omega arith))
  sound_to (suc b) i x w n le = sound_step i x w n (λ j y v m lt. let less : m ≤ b = omega arith in sound_to b j y v m less)

  -- what a value says is so, though perhaps not the least
  pub sound : (i : ℕ) (x : P) (w : Player) (n : ℕ) → HasNumber view i x → view.value i ≡ Some (w, n) → WinsWithin graph w n x
  sound i x w n number is = let le : n ≤ n = omega arith in sound_to n i x w n le number is

  -- The distance kept for i is at most m, and something farther than m isn't processed before i is settled.
  record IsFoundBy (m i : ℕ) : Type 0 where
    within : (v : Player) (n : ℕ) → view.value i ≡ Some (v, n) → n ≤ m
    settled : (j : ℕ) (v : Player) (n : ℕ) → view.processed j ≡ true → view.value j ≡ Some (v, n) → m < n → view.value i ≡ None → ⊥

  -- that this holds of all that is won within m
  abbrev Finds : ℕ → Type 0
  Finds m = (i : ℕ) (x : P) (w : Player) → HasNumber view i x → i < view.expanded → WinsWithin graph w m x → IsFoundBy m i

  -- where something farther is processed, what is won within k is processed too
  near : (k : ℕ) → Finds k → (w : Player) (y : P) → IsKnown view y → WinsWithin graph w k y
      → (j : ℕ) (v : Player) (n : ℕ) → view.processed j ≡ true → view.value j ≡ Some (v, n) → k < n
      → (m : ℕ) × (m ≤ k) × IsProcessedFor view w m y
  near k finds w y (i, number) wins j v n done there farther =
      let found : IsFoundBy k i = finds i y w number (all_expanded j done i y number) wins in
      ⊎_elim
      (λ none. absurd (found.settled j v n done there farther none))
      (λ full.
      let (value, is) = full in
      let le : value.1 ≤ k = found.within value.0 value.1 is in
      let lt : value.1 < n = omega arith in
      let same : value.0 ≡ w = one_winner graph value.0 w value.1 k y (sound i y value.0 value.1 number is) wins in (
        value.1,
        le,
        processed_for_along value.0 w value.1 y same
            (i, number, sooner_processed j i v value.0 n value.1 done there is lt, is),
      ))
      (none_or_some (view.value i))

  found_at_end : (m i : ℕ) (x : P) (w : Player) → HasNumber view i x → i < view.expanded → EndsAhead graph w x → IsFoundBy m i
  found_at_end m i x w number within (ended, ahead) = cases (local i x number within)
    where
      cases : IsLocalValue graph view x (view.value i) → IsFoundBy m i
      cases (at_end _ value) =
          let is : view.value i ≡ Some (w, 0) = value ∙ ap end_value ahead in
          record {
            within = λ v n has. let e : 0 ≡ n = distance w v 0 n (view.value i) is has in omega arith;
            settled = λ j v n done there farther none. cc;
          }
      cases (by_moves has value) = absurd (ended has.0 has.1)

  found_by_own_move : (k : ℕ) → Finds k → (i : ℕ) (x : P) (w : Player) → HasNumber view i x → i < view.expanded
      → CanMoveTo graph w (WinsWithin graph w k) x → IsFoundBy (suc k) i
  found_by_own_move k finds i x w number within (turn, (y, move, wins)) = cases (local i x number within)
    where
      y_known : IsKnown view y
      y_known = moves.closed x y (i, number, within) move

      cases : IsLocalValue graph view x (view.value i) → IsFoundBy (suc k) i
      cases (at_end ended value) = absurd (ended y move)
      cases (by_moves has (own_win v n win value)) = record {
        within = λ u d is.
            let same : suc n ≡ d = distance v u (suc n) d (view.value i) value is in
            ⊎_elim
            (λ farther.
            let (z, _, (j, at, done, there)) = win.nearest in
            let (m, le, found) = near k finds w y y_known wins j v n done there farther in
            let us : w ≡ v = same_mover graph w v x turn win.turn in
            let least : n ≤ m = win.least y m move (processed_for_along w v m y us found) in
            absurd (omega arith))
            (λ enough. omega arith)
            (cases_lt k n);
        settled = λ j u d done there farther none. cc;
      }
      cases (by_moves has (all_lead v n none_own all value)) =
          let (m, le, (j, at, done, there)) = all.each y move in
          let same : v ≡ w = one_winner graph v w m k y (sound j y v m at there) wins in
          absurd (none_own w m (turn, (y, move, processed_for_along v w m y same (j, at, done, there))))
      cases (by_moves has (still_open none_own some_left value)) = record {
        within = λ u d is. cc;
        settled = λ j u d done there farther none.
            let lt : k < d = omega arith in
            let (m, le, found) = near k finds w y y_known wins j u d done there lt in
            none_own w m (turn, (y, move, found));
      }

  found_by_every_move : (k : ℕ) → Finds k → (i : ℕ) (x : P) (w : Player) → HasNumber view i x → i < view.expanded
      → MustMoveTo graph w (WinsWithin graph w k) x → IsFoundBy (suc k) i
  found_by_every_move k finds i x w number within (no_turn, has, each) = cases (local i x number within)
    where
      cases : IsLocalValue graph view x (view.value i) → IsFoundBy (suc k) i
      cases (at_end ended value) = absurd (ended has.0 has.1)
      cases (by_moves _ (own_win v n win value)) =
          let (z, move, (j, at, done, there)) = win.nearest in
          let same : v ≡ w = one_winner graph v w n k z (sound j z v n at there) (each z move) in
          absurd (no_turn (subst (λ (u : Player). Moves graph u x) same win.turn))
      cases (by_moves _ (all_lead v n none_own all value)) =
          let (z, move, (j, at, done, there)) = all.farthest in
          let found : IsFoundBy k j = finds j z w at (all_expanded j done j z at) (each z move) in
          let le : n ≤ k = found.within v n there in
          record {
            within = λ u d is. let same : suc n ≡ d = distance v u (suc n) d (view.value i) value is in omega arith;
            settled = λ j u d done there farther none. cc;
          }
      cases (by_moves _ (still_open none_own some_left value)) = record {
        within = λ u d is. cc;
        settled = λ j u d done there farther none.
            let lt : k < d = omega arith in
            some_left (λ y move.
            let (m, le, (l, at, is, value')) = near k finds w y (moves.closed x y (i, number, within) move) (each y move) j u d done there lt in
            (l, at, is));
      }

  finds : (m : ℕ) → Finds m
  finds zero i x w number within won = found_at_end 0 i x w number within won
  finds (suc k) i x w number within (inl won) = found_at_end (suc k) i x w number within won
  finds (suc k) i x w number within (inr (inl can)) = found_by_own_move k (finds k) i x w number within can
  finds (suc k) i x w number within (inr (inr must)) = found_by_every_move k (finds k) i x w number within must

  -- a value is exact
  pub exact : (i : ℕ) (x : P) (w : Player) (n : ℕ) → HasNumber view i x → view.value i ≡ Some (w, n) → WonIn graph w n x
  exact i x w n number is = record {
    within = sound i x w n number is;
    least = λ m wins. (finds m i x w number (settled_expanded i w n is) wins).within w n is;
  }

  -- two values of one position are one
  same_value : (v w : Player) (m n : ℕ) (x : P) → WonIn graph v m x → WonIn graph w n x → ◌≡◌ {A = Player × ℕ} (v, m) (w, n)
  same_value v w m n x a b =
      let same : v ≡ w = one_winner graph v w m n x a.within b.within in
      let le : m ≤ n = a.least n (subst (λ (u : Player). WinsWithin graph u n x) (sym same) b.within) in
      let ge : n ≤ m = b.least m (subst (λ (u : Player). WinsWithin graph u m x) same a.within) in
      let equal : m ≡ n = omega arith in
      λ i. (same i, equal i)

  -- a settled position that w wins in n is settled so
  settled_so : (i : ℕ) (x : P) (w : Player) (n : ℕ) → HasNumber view i x → WonIn graph w n x → (view.value i ≡ None → ⊥) → HasValue view x w n
  settled_so i x w n number won settled =
      ⊎_elim
      (λ none. absurd (settled none))
      (λ full.
      let (value, is) = full in
      let same : (value.0, value.1) ≡ (w, n) = same_value value.0 w value.1 n x (exact i x value.0 value.1 number is) won in
      (i, number, is ∙ ap (λ (q : Player × ℕ). Some q) same))
      (none_or_some (view.value i))

  -- a processed position that w wins in m is processed for w
  processed_so : (y : P) (w : Player) (m : ℕ) → IsProcessed view y → WinsWithin graph w m y → (n : ℕ) × IsProcessedFor view w n y
  processed_so y w m (j, number, done) won =
      let (value, is) = processed_value j done in
      let same : value.0 ≡ w = one_winner graph value.0 w value.1 m y (sound j y value.0 value.1 number is) won in
      (value.1, processed_for_along value.0 w value.1 y same (j, number, done, is))

  shows : (x : P) (w : Player) (n : ℕ) → HasValue view x w n → IsShown graph view x w n
  shows x w n (i, number, is) = record { won = exact i x w n number is; by = by (local i x number (settled_expanded i w n is)) }
    where
      by : IsLocalValue graph view x (view.value i)
          → ((n ≡ 0) × IsExpanded view x)
          ⊎ (CanMoveTo graph w (λ y. IsProcessed view y × ((m : ℕ) × (n ≡ suc m) × WonIn graph w m y)) x
          ⊎ MustMoveTo graph w (IsProcessed view) x)
      by (at_end ended value) = inl ((end_value_some (graph.ahead x) w n (sym value ∙ is)).1, (i, number, settled_expanded i w n is))
      by (by_moves has (own_win v m win value)) =
          let same : (v, suc m) ≡ (w, n) = same_Some (v, suc m) (w, n) (sym value ∙ is) in
          let us : v ≡ w = ap (λ (q : Player × ℕ). q.0) same in
          let one_more : n ≡ suc m = ap (λ (q : Player × ℕ). q.1) (sym same) in
          let (y, move, (j, at, done, there)) = win.nearest in
          let won : WonIn graph w m y = subst (λ (u : Player). WonIn graph u m y) us (exact j y v m at there) in
          inr (inl (subst (λ (u : Player). Moves graph u x) us win.turn, (y, move, ((j, at, done), (m, one_more, won)))))
      by (by_moves has (all_lead v m none_own all value)) =
          let same : (v, suc m) ≡ (w, n) = same_Some (v, suc m) (w, n) (sym value ∙ is) in
          let us : w ≡ v = ap (λ (q : Player × ℕ). q.0) (sym same) in
          inr (inr (
            (λ turn. none_own v m (subst (λ (u : Player). Moves graph u x) us turn, all.farthest)),
            has,
            (λ y move. let (k, le, (j, at, done, there)) = all.each y move in (j, at, done)),
          ))
      by (by_moves has (still_open none_own some_left value)) = cc

  shown : (x : P) (w : Player) (n : ℕ) → IsKnown view x → IsShown graph view x w n → HasValue view x w n
  shown x w n (i, number) it = by it.by
    where
      by : ((n ≡ 0) × IsExpanded view x)
          ⊎ (CanMoveTo graph w (λ y. IsProcessed view y × ((m : ℕ) × (n ≡ suc m) × WonIn graph w m y)) x
          ⊎ MustMoveTo graph w (IsProcessed view) x)
          → HasValue view x w n
      by (inl (zero_is, (j, at, within))) = settled_so j x w n at it.won (settled (local j x at within))
        where
          ends : EndsAhead graph w x
          ends = subst (λ (k : ℕ). WinsWithin graph w k x) zero_is it.won.within

          settled : IsLocalValue graph view x (view.value j) → view.value j ≡ None → ⊥
          settled (at_end ended value) none =
              let is : end_value (Some w) ≡ None = ap end_value (sym ends.1) ∙ (sym value ∙ none) in
              cc
          settled (by_moves has value) none = ends.0 has.0 has.1
      by (inr (inl (turn, (y, move, (there, (m, one_more, won)))))) =
          settled_so i x w n number it.won (settled (local i x number (all_expanded there.0 there.2 i x number)))
        where
          settled : IsLocalValue graph view x (view.value i) → view.value i ≡ None → ⊥
          settled (at_end ended value) none = ended y move
          settled (by_moves has (own_win v k win value)) none = cc
          settled (by_moves has (all_lead v k none_own all value)) none = cc
          settled (by_moves has (still_open none_own some_left value)) none =
              let (k, found) = processed_so y w m there won.within in
              none_own w k (turn, (y, move, found))
      by (inr (inr (no_turn, has, each))) =
          let (k, at, done) = each has.0 has.1 in
          settled_so i x w n number it.won (settled (local i x number (all_expanded k done i x number)))
        where
          settled : IsLocalValue graph view x (view.value i) → view.value i ≡ None → ⊥
          settled (at_end ended value) none = ended has.0 has.1
          settled (by_moves _ (own_win v k win value)) none = cc
          settled (by_moves _ (all_lead v k none_own all value)) none = cc
          settled (by_moves _ (still_open none_own some_left value)) none = some_left each

  -- a table with local values is right
  pub right : KeeperIsForced graph view → IsRight graph view
  right forced = record {
    coherent = coherent;
    moves = moves;
    keeper = forced;
    order = order;
    values = λ x w n known. (shows x w n, shown x w n known);
  }
