-- To expand the next position keeps a table locally right.
use Rattle.std.proofs.Common.{◌≡◌, ◌∙◌, sym, ap, subst, ℕ, suc, ◌≤◌, ◌<◌, ◌⊎◌, inl, inr, ⊎_elim, true, Option, None, IsSome, length, arith}
use Rattle.std.proofs.lemmas.Option.{same_Some, slice_get_within}
use Rattle.std.proofs.lemmas.Bool.{cases_lt, cases_eq}
use Rattle.rbg_game.specs.declared.roles.Player.{Player}
use Rattle.retrograde.specs.Graph.{Graph, by_move, HasMove}
use Rattle.retrograde.specs.View.{View, HasNumber, IsExpanded}
use Rattle.retrograde.specs.Right.{IsCoherent, KnowsMoves, ProcessesInOrder}
use Rattle.retrograde.specs.Local.{own_win, all_lead, still_open, IsLocalValue, at_end, by_moves, HasLocalValues}
use Rattle.retrograde.specs.Steps.{IsLocallyRight, ExpandsNext}

module _ {P : Type 0} (graph : Graph P) (old new : View P) (x : P) (was : IsLocallyRight graph old) (step : ExpandsNext graph old x new) where
  abbrev e : ℕ
  e = old.expanded

  e_known : e < length old.known
  e_known = slice_get_within old.known e x step.number

  -- nothing is processed yet
  idle_before : (i : ℕ) → old.processed i ≡ true → ⊥
  idle_before i is = let all : old.expanded ≡ length old.known = was.order.after_expanding i is in
      let lt : old.expanded < length old.known = e_known in omega arith

  idle : (i : ℕ) → new.processed i ≡ true → ⊥
  idle i is = idle_before i (sym (step.processed i) ∙ is)

  -- an expanded number was expanded, or it is that of x
  number_before : (i : ℕ) (y : P) → HasNumber new i y → i < e → HasNumber old i y
  number_before i y number below =
      ⊎_elim (λ before. before) (λ later. let le : length old.known ≤ i = later.0 in let lt : e < length old.known = e_known in
      absurd (omega arith)) (step.found i y number)

  is_x : (y : P) → HasNumber new e y → y ≡ x
  is_x y number = same_Some y x (sym number ∙ step.kept e x step.number)

  expanded_after : (y : P) → IsExpanded old y → IsExpanded new y
  expanded_after y (i, number, within) = let more : new.expanded ≡ suc old.expanded = step.expanded in (i, step.kept i y number, omega arith)

  expanded_before : (y : P) → IsExpanded new y → IsExpanded old y ⊎ (y ≡ x)
  expanded_before y (i, number, within) =
      ⊎_elim
      (λ below. inl (i, number_before i y number below, below))
      (λ above.
      let more : new.expanded ≡ suc old.expanded = step.expanded in
      let same : i ≡ e = omega arith in
      inr (is_x y (subst (λ (k : ℕ). HasNumber new k y) same number)))
      (cases_lt i e)

  coherent : IsCoherent new
  coherent = record {
    distinct = step.distinct;
    expanded = let lt : e < length new.known = slice_get_within new.known e x (step.kept e x step.number) in
        let more : new.expanded ≡ suc old.expanded = step.expanded in omega arith;
    settled = λ i some.
        let more : new.expanded ≡ suc old.expanded = step.expanded in
        ⊎_elim
        (λ same. omega arith)
        (λ other.
        let within : i < old.expanded = was.coherent.settled i (subst (λ (o : Option (Player × ℕ)). IsSome o) (step.others i other) some) in
        omega arith)
        (cases_eq i e);
    processed = λ i is. absurd (idle i is);
  }

  knows : KnowsMoves graph new
  knows = record {
    first = step.kept 0 graph.start was.moves.first;
    later = λ i y number.
        ⊎_elim
        (λ before. let (z, there, move) = was.moves.later i y before in (z, expanded_after z there, move))
        (λ fresh.
        let more : new.expanded ≡ suc old.expanded = step.expanded in
        let within : e < new.expanded = omega arith in
        (x, (e, step.kept e x step.number, within), fresh.1))
        (step.found (suc i) y number);
    closed = λ y z there move.
        ⊎_elim
        (λ before. let (j, at) = was.moves.closed y z before move in (j, step.kept j z at))
        (λ same. step.closed z (subst (λ (u : P). graph.Successor u z) same move))
        (expanded_before y there);
    reached = λ y (i, number).
        ⊎_elim
        (λ before. was.moves.reached y (i, before))
        (λ fresh. by_move (was.moves.reached x (e, step.number)) fresh.1)
        (step.found i y number);
  }

  -- with nothing processed, a position that has a move is open
  is_open : (y : P) (value : Option (Player × ℕ)) → HasMove graph y → value ≡ None → IsLocalValue graph new y value
  is_open y value has none =
      by_moves has (still_open
      (λ v n (turn, (z, move, (k, at, done, there))). idle k done)
      (λ all. let (k, at, done) = all has.0 has.1 in idle k done)
      none)

  local : HasLocalValues graph new
  local i y number within =
      ⊎_elim
      (λ here.
      let number' : HasNumber new e y = subst (λ (k : ℕ). HasNumber new k y) here number in
      subst (λ (u : P). IsLocalValue graph new u (new.value i)) (sym (is_x y number'))
      (subst (λ (k : ℕ). IsLocalValue graph new x (new.value k)) (sym here) at_x))
      (λ other.
      let more : new.expanded ≡ suc old.expanded = step.expanded in
      let below : i < e = omega arith in
      go (step.others i other) (was.local i y (number_before i y number below) below))
      (cases_eq i e)
    where
      at_x : IsLocalValue graph new x (new.value e)
      at_x = ⊎_elim (λ ended. at_end ended (step.ended ended)) (λ has. is_open x (new.value e) has (step.moving has)) step.either

      go : new.value i ≡ old.value i → IsLocalValue graph old y (old.value i) → IsLocalValue graph new y (new.value i)
      go same (at_end ended value) = at_end ended (same ∙ value)
      go same (by_moves has (own_win v n win value)) = let (z, move, (k, at, done, there)) = win.nearest in absurd (idle_before k done)
      go same (by_moves has (all_lead v n none_own all value)) = let (z, move, (k, at, done, there)) = all.farthest in absurd (idle_before k done)
      go same (by_moves has (still_open none_own some_left value)) = is_open y (new.value i) has (same ∙ value)

  order : ProcessesInOrder new
  order = record {
    after_expanding = λ i is. absurd (idle i is);
    rising = λ i j v w m n is a is_not b. absurd (idle i is);
  }

  pub expanding : IsLocallyRight graph new
  expanding = record {
    coherent = coherent;
    moves = knows;
    keeper = λ y z u there is to_z to_u.
        ⊎_elim
        (λ before. was.keeper y z u before is to_z to_u)
        (λ same.
        step.keeper z u (ap graph.mover (sym same) ∙ is) (subst (λ (v : P). graph.Successor v z) same to_z)
        (subst (λ (v : P). graph.Successor v u) same to_u))
        (expanded_before y there);
    order = order;
    local = local;
  }
