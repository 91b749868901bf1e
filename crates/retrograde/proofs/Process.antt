-- To process a nearest settled position keeps a table locally right.
use Rattle.std.proofs.Common.{◌≡◌, ◌∙◌, sym, ap, subst, ℕ, suc, ◌≤◌, ◌<◌, ◌⊎◌, inl, inr, ⊎_elim, true, false, Some, None, IsSome, List, length, refl, arith, slice_get}
use Rattle.std.proofs.lemmas.Option.{same_Some}
use Rattle.std.proofs.lemmas.Bool.{cases_lt}
use Rattle.rbg_game.specs.declared.roles.Player.{Player}
use Rattle.rbg_game.specs.declared.roles.Player.TheVariants.{First, Second}
use Rattle.rbg_game.specs.declared.roles.Role.{Role}
use Rattle.rbg_game.specs.declared.roles.Role.TheVariants.{Keeper}
use Rattle.retrograde.specs.Graph.{Graph, Moves, HasMove}
use Rattle.retrograde.specs.View.{View, HasNumber, IsExpanded, IsProcessed}
use Rattle.retrograde.specs.Right.{IsCoherent, KnowsMoves, ProcessesInOrder}
use Rattle.retrograde.specs.Local.{IsProcessedFor, HasNoOwnWin, AllLeadTo, IsMoveValue, own_win, all_lead, still_open, IsLocalValue, at_end, by_moves, HasLocalValues}
use Rattle.retrograde.specs.Steps.{IsLocallyRight, IsDue, ProcessesNext}
use Rattle.retrograde.proofs.Finished.{none_or_some, is_some_at, element}
use Rattle.retrograde.proofs.Local.{full_from_some}
use Rattle.retrograde.proofs.CountLemmas.{true_or_false}

-- of three players two are the same
third : (u v w : Player) → (u ≡ v → ⊥) → (u ≡ w → ⊥) → v ≡ w
third First First w a b = absurd (a refl)
third First Second First a b = absurd (b refl)
third First Second Second a b = refl
third Second Second w a b = absurd (a refl)
third Second First Second a b = absurd (b refl)
third Second First First a b = refl

-- a player has the turn or has not
turn_or_not : (w : Player) (r : Role) → (r ≡ Role.Player w) ⊎ (r ≡ Role.Player w → ⊥)
turn_or_not w Keeper = inr (λ e. cc)
turn_or_not First (Role.Player First) = inl refl
turn_or_not First (Role.Player Second) = inr (λ e. cc)
turn_or_not Second (Role.Player First) = inr (λ e. cc)
turn_or_not Second (Role.Player Second) = inl refl

module _ {P : Type 0} (graph : Graph P) (old new : View P) (s : ℕ) (w : Player) (d : ℕ)
    (was : IsLocallyRight graph old) (step : ProcessesNext graph old s w d new) where
  number_before : (i : ℕ) (x : P) → HasNumber new i x → HasNumber old i x
  number_before i x number = subst (λ (ks : List P). slice_get ks i ≡ Some x) step.known number

  number_after : (i : ℕ) (x : P) → HasNumber old i x → HasNumber new i x
  number_after i x number = subst (λ (ks : List P). slice_get ks i ≡ Some x) (sym step.known) number

  -- what was processed for a player still is
  still_processed_for : (v : Player) (m : ℕ) (y : P) → IsProcessedFor old v m y → IsProcessedFor new v m y
  still_processed_for v m y (i, number, is, value) =
      (i, number_after i y number, (step.processed i).1 (inl is), step.kept i (v, m) value)

  -- what is processed for a player was, or it is s
  was_processed_for : (v : Player) (m : ℕ) (y : P) → IsProcessedFor new v m y
      → IsProcessedFor old v m y ⊎ (HasNumber new s y × (v ≡ w) × (m ≡ d))
  was_processed_for v m y (i, number, is, value) = go ((step.processed i).0 is)
    where
      go : (old.processed i ≡ true) ⊎ (i ≡ s) → IsProcessedFor old v m y ⊎ (HasNumber new s y × (v ≡ w) × (m ≡ d))
      go (inl before) =
          let (had, has) = full_from_some (old.value i) (was.coherent.processed i before) in
          let same : had ≡ (v, m) = same_Some had (v, m) (sym (step.kept i had has) ∙ value) in
          inl (i, number_before i y number, before, has ∙ ap (λ (q : Player × ℕ). Some q) same)
      go (inr here) =
          let at : new.value s ≡ Some (v, m) = subst (λ (k : ℕ). new.value k ≡ Some (v, m)) here value in
          let same : ◌≡◌ {A = Player × ℕ} (v, m) (w, d) = same_Some (v, m) (w, d) (sym at ∙ step.kept s (w, d) step.settled) in
          inr (
            subst (λ (k : ℕ). HasNumber new k y) here number,
            ap (λ (q : Player × ℕ). q.0) same,
            ap (λ (q : Player × ℕ). q.1) same,
          )

  -- what is processed is no farther than s
  no_farther : (v : Player) (m : ℕ) (y : P) → IsProcessedFor old v m y → m ≤ d
  no_farther v m y (i, number, is, value) = was.order.rising i s v w m d is value step.waits step.settled

  s_processed : new.processed s ≡ true
  s_processed = (step.processed s).1 (inr refl)

  s_for : (y : P) → HasNumber new s y → IsProcessedFor new w d y
  s_for y number = (s, number, s_processed, step.kept s (w, d) step.settled)

  -- all of a position that is processed is processed for somebody
  processed_for : (y : P) → IsProcessed new y → (v : Player) × (m : ℕ) × IsProcessedFor new v m y
  processed_for y (i, number, is) = go ((step.processed i).0 is)
    where
      go : (old.processed i ≡ true) ⊎ (i ≡ s) → (v : Player) × (m : ℕ) × IsProcessedFor new v m y
      go (inl before) =
          let (had, has) = full_from_some (old.value i) (was.coherent.processed i before) in
          (had.0, had.1, (i, number, is, step.kept i had has))
      go (inr here) = (w, d, s_for y (subst (λ (k : ℕ). HasNumber new k y) here number))

  -- where nobody had a win of its own, only s can be one, and then it is due
  no_own_win : (x : P) → HasNoOwnWin graph old x → (IsDue graph new s w x → ⊥) → HasNoOwnWin graph new x
  no_own_win x none_own not_due v m (turn, (y, move, there)) =
      ⊎_elim
      (λ before. none_own v m (turn, (y, move, before)))
      (λ here. not_due ((y, here.0, move), inl (subst (λ (u : Player). Moves graph u x) here.1 turn)))
      (was_processed_for v m y there)

  no_own_win_but : (x : P) → HasNoOwnWin graph old x → (Moves graph w x → ⊥) → HasNoOwnWin graph new x
  no_own_win_but x none_own no_turn v m (turn, (y, move, there)) =
      ⊎_elim
      (λ before. none_own v m (turn, (y, move, before)))
      (λ here. no_turn (subst (λ (u : Player). Moves graph u x) here.1 turn))
      (was_processed_for v m y there)

  -- what has no win of its own and leads to s leads to w alone
  leads_to_w : (i : ℕ) (x z : P) → HasNumber old i x → i < old.expanded → HasNoOwnWin graph old x → (Moves graph w x → ⊥)
      → HasNumber new s z → graph.Successor x z
      → (y : P) → graph.Successor x y → (v : Player) (m : ℕ) → IsProcessedFor old v m y → v ≡ w
  leads_to_w i x z number within none_own no_turn z_at to_z y to_y v m there = go (graph.mover x) refl
    where
      go : (r : Role) → graph.mover x ≡ r → v ≡ w
      go Keeper is =
          let same : y ≡ z = was.keeper x y z (i, number, within) is to_y to_z in
          let y_at : HasNumber old s y = subst (λ (u : P). HasNumber old s u) (sym same) (number_before s z z_at) in
          let here : there.0 ≡ s = was.coherent.distinct there.0 s y there.1 y_at in
          let value : old.value s ≡ Some (v, m) = subst (λ (k : ℕ). old.value k ≡ Some (v, m)) here there.3 in
          ap (λ (q : Player × ℕ). q.0) (same_Some (v, m) (w, d) (sym value ∙ step.settled))
      go (Role.Player u) is =
          third u v w
          (λ us. none_own v m (is ∙ ap (λ (p : Player). Role.Player p) us, (y, to_y, there)))
          (λ us. no_turn (is ∙ ap (λ (p : Player). Role.Player p) us))

  local : HasLocalValues graph new
  local i x number within_new = go (was.local i x before within) (none_or_some (old.value i))
    where
      before : HasNumber old i x
      before = number_before i x number

      within : i < old.expanded
      within = let same : new.expanded ≡ old.expanded = step.expanded in omega arith

      stays : (value : Player × ℕ) → old.value i ≡ Some value → new.value i ≡ Some value
      stays value is = step.kept i value is

      open_still : IsMoveValue graph old x (old.value i) → old.value i ≡ None → HasMove graph x → IsMoveValue graph new x (new.value i)
      open_still (own_win v n win value) none has = cc
      open_still (all_lead v n none_own all value) none has = cc
      open_still (still_open none_own some_left _) none has = ⊎_elim when_due when_not (step.due i x number none)
        where
          when_not : (IsDue graph new s w x → ⊥) × (new.value i ≡ None) → IsMoveValue graph new x (new.value i)
          when_not (not_due, is) =
              still_open (no_own_win x none_own not_due)
              (λ all.
              some_left (λ y move.
              let (k, at, done) = all y move in
              ⊎_elim
              (λ was_done. (k, number_before k y at, was_done))
              (λ here. absurd (not_due ((y, subst (λ (l : ℕ). HasNumber new l y) here at, move), inr all)))
              ((step.processed k).0 done)))
              is

          when_due : IsDue graph new s w x × (new.value i ≡ Some (w, suc d)) → IsMoveValue graph new x (new.value i)
          when_due (((z, z_at, move), why), is) =
              ⊎_elim
              (λ turn.
              own_win w d
              (record {
                turn = turn;
                nearest = (z, move, s_for z z_at);
                least = λ y m to_y there.
                    ⊎_elim
                    (λ had. absurd (none_own w m (turn, (y, to_y, had))))
                    (λ here. let e : m ≡ d = here.2 in omega arith)
                    (was_processed_for w m y there);
              })
              is)
              (λ no_turn. all_lead w d (no_own_win_but x none_own no_turn) (leads no_turn why) is)
              (turn_or_not w (graph.mover x))
            where
              leads : (Moves graph w x → ⊥) → Moves graph w x ⊎ ((y : P) → graph.Successor x y → IsProcessed new y) → AllLeadTo graph new x w d
              leads no_turn (inl turn) = absurd (no_turn turn)
              leads no_turn (inr all) = record {
                each = λ y to_y.
                    let (v, m, there) = processed_for y (all y to_y) in
                    ⊎_elim
                    (λ had.
                    let same : v ≡ w = leads_to_w i x z before within none_own no_turn z_at move y to_y v m had in
                    (m, no_farther v m y had, subst (λ (u : Player). IsProcessedFor new u m y) same there))
                    (λ here. let le : m ≤ d = let e : m ≡ d = here.2 in omega arith in (m, le, subst (λ (u : Player). IsProcessedFor new u m y) here.1 there))
                    (was_processed_for v m y there);
                farthest = (z, move, s_for z z_at);
              }

      settled_still : (value : Player × ℕ) → old.value i ≡ Some value → IsMoveValue graph old x (old.value i) → IsMoveValue graph new x (new.value i)
      settled_still had has (own_win v n win value) =
          own_win v n
          (record {
            turn = win.turn;
            nearest = let (y, move, there) = win.nearest in (y, move, still_processed_for v n y there);
            least = λ y m to_y there.
                ⊎_elim
                (λ before. win.least y m to_y before)
                (λ here. let e : m ≡ d = here.2 in let (z, _, there) = win.nearest in let le : n ≤ d = no_farther v n z there in omega arith)
                (was_processed_for v m y there);
          })
          (stays (v, suc n) value)
      settled_still had has (all_lead v n none_own all value) =
          all_lead v n
          (λ u m (turn, (y, to_y, there)).
          let (k, le, before) = all.each y to_y in
          let after : IsProcessedFor new v k y = still_processed_for v k y before in
          none_own u m (turn, (y, to_y, from_new y u m v k there before)))
          (record {
            each = λ y to_y. let (k, le, before) = all.each y to_y in (k, le, still_processed_for v k y before);
            farthest = let (y, move, there) = all.farthest in (y, move, still_processed_for v n y there);
          })
          (stays (v, suc n) value)
        where
          from_new : (y : P) (u : Player) (m : ℕ) (v : Player) (k : ℕ) → IsProcessedFor new u m y → IsProcessedFor old v k y → IsProcessedFor old u m y
          from_new y u m v k there before =
              ⊎_elim
              (λ had. had)
              (λ here.
              let at : before.0 ≡ s = was.coherent.distinct before.0 s y before.1 (number_before s y here.0) in
              let is : old.processed s ≡ true = subst (λ (l : ℕ). old.processed l ≡ true) at before.2 in
              let waits : old.processed s ≡ false = step.waits in
              absurd (let no_way : true ≡ false = sym is ∙ waits in cc))
              (was_processed_for u m y there)
      settled_still had has (still_open none_own some_left value) = cc

      go : IsLocalValue graph old x (old.value i) → (old.value i ≡ None) ⊎ ((value : Player × ℕ) × (old.value i ≡ Some value))
          → IsLocalValue graph new x (new.value i)
      go (at_end ended value) (inl none) =
          ⊎_elim
          (λ due. absurd (let ((z, _, move), _) = due.0 in ended z move))
          (λ not_due. at_end ended (not_due.1 ∙ (sym none ∙ value)))
          (step.due i x number none)
      go (at_end ended value) (inr (had, has)) = at_end ended (stays had has ∙ (sym has ∙ value))
      go (by_moves has value) (inl none) = by_moves has (open_still value none has)
      go (by_moves has value) (inr (had, is)) = by_moves has (settled_still had is value)

  same_length : length new.known ≡ length old.known
  same_length = ap (λ (ks : List P). length ks) step.known

  expanded_before : (x : P) → IsExpanded new x → IsExpanded old x
  expanded_before x (i, number, within) = let same : new.expanded ≡ old.expanded = step.expanded in (i, number_before i x number, omega arith)

  expanded_after : (x : P) → IsExpanded old x → IsExpanded new x
  expanded_after x (i, number, within) = let same : new.expanded ≡ old.expanded = step.expanded in (i, number_after i x number, omega arith)

  within_known : (i : ℕ) (value : Player × ℕ) → new.value i ≡ Some value → i < length new.known
  within_known i value is =
      ⊎_elim (λ within. within) (λ outside. let none : new.value i ≡ None = step.none_outside i outside in cc) (cases_lt i (length new.known))

  coherent : IsCoherent new
  coherent = record {
    distinct = λ i j x here there. was.coherent.distinct i j x (number_before i x here) (number_before j x there);
    expanded =
        let same : new.expanded ≡ old.expanded = step.expanded in
        let le : old.expanded ≤ length old.known = was.coherent.expanded in
        let lengths : length new.known ≡ length old.known = same_length in
        omega arith;
    settled = λ i some.
        let (value, is) = full_from_some (new.value i) some in
        let within : i < length new.known = within_known i value is in
        let lengths : length new.known ≡ length old.known = same_length in
        let all : old.expanded ≡ length old.known = step.all_expanded in
        let same : new.expanded ≡ old.expanded = step.expanded in
        omega arith;
    processed = λ i is.
        ⊎_elim
        (λ before. let (value, has) = full_from_some (old.value i) (was.coherent.processed i before) in is_some_at (new.value i) value (step.kept i value has))
        (λ here. is_some_at (new.value i) (w, d) (subst (λ (k : ℕ). new.value k ≡ Some (w, d)) (sym here) (step.kept s (w, d) step.settled)))
        ((step.processed i).0 is);
  }

  value_before : (i : ℕ) (v : Player) (m : ℕ) → new.value i ≡ Some (v, m)
      → (old.value i ≡ Some (v, m)) ⊎ ((old.value i ≡ None) × (m ≡ suc d))
  value_before i v m is = go (none_or_some (old.value i))
    where
      go : (old.value i ≡ None) ⊎ ((value : Player × ℕ) × (old.value i ≡ Some value)) → (old.value i ≡ Some (v, m)) ⊎ ((old.value i ≡ None) × (m ≡ suc d))
      go (inl none) =
          let (x, number) = element new.known i (within_known i (v, m) is) in
          ⊎_elim
          (λ due. inr (none, ap (λ (q : Player × ℕ). q.1) (same_Some (v, m) (w, suc d) (sym is ∙ due.1))))
          (λ not_due. let none : new.value i ≡ None = not_due.1 in cc)
          (step.due i x number none)
      go (inr (had, has)) = inl (has ∙ (sym (step.kept i had has) ∙ is))

  no_farther_than_s : (i : ℕ) (v : Player) (m : ℕ) → new.processed i ≡ true → new.value i ≡ Some (v, m) → m ≤ d
  no_farther_than_s i v m is value = go ((step.processed i).0 is)
    where
      go : (old.processed i ≡ true) ⊎ (i ≡ s) → m ≤ d
      go (inl before) =
          ⊎_elim
          (λ had. was.order.rising i s v w m d before had step.waits step.settled)
          (λ fresh.
          let some : IsSome (old.value i) = was.coherent.processed i before in
          let (had, has) = full_from_some (old.value i) some in
          let none : old.value i ≡ None = fresh.0 in
          cc)
          (value_before i v m value)
      go (inr here) =
          let at : new.value s ≡ Some (v, m) = subst (λ (k : ℕ). new.value k ≡ Some (v, m)) here value in
          let e : m ≡ d = ap (λ (q : Player × ℕ). q.1) (same_Some (v, m) (w, d) (sym at ∙ step.kept s (w, d) step.settled)) in
          omega arith

  order : ProcessesInOrder new
  order = record {
    after_expanding = λ i is.
        let lengths : length new.known ≡ length old.known = same_length in
        let all : old.expanded ≡ length old.known = step.all_expanded in
        let same : new.expanded ≡ old.expanded = step.expanded in
        omega arith;
    rising = λ i j v u m n is a is_not b.
        let le : m ≤ d = no_farther_than_s i v m is a in
        let waits : old.processed j ≡ false =
        ⊎_elim (λ yes'. let now : new.processed j ≡ true = (step.processed j).1 (inl yes') in let no_way : true ≡ false = sym now
        ∙ is_not in cc) (λ e. e) (true_or_false (old.processed j)) in
        ⊎_elim
        (λ had. let ge : d ≤ n = step.nearest j u n waits had in omega arith)
        (λ fresh. let e : n ≡ suc d = fresh.1 in omega arith)
        (value_before j u n b);
  }

  knows : KnowsMoves graph new
  knows = record {
    first = number_after 0 graph.start was.moves.first;
    later = λ i x number. let (y, there, move) = was.moves.later i x (number_before (suc i) x number) in (y, expanded_after y there, move);
    closed = λ x y there move. let (j, at) = was.moves.closed x y (expanded_before x there) move in (j, number_after j y at);
    reached = λ x (i, number). was.moves.reached x (i, number_before i x number);
  }

  pub processing : IsLocallyRight graph new
  processing = record {
    coherent = coherent;
    moves = knows;
    keeper = λ x y z there is to_y to_z. was.keeper x y z (expanded_before x there) is to_y to_z;
    order = order;
    local = local;
  }
