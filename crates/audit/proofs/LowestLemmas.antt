-- The lowest condition that fails, from some of them to all.
use Rattle.std.proofs.Common.{◌≡◌, ◌∙◌, sym, subst, ℕ, ◌<◌, ◌≤◌, ◌⊎◌, inl, inr, Option, Some, None, IsSome, List, [], ◌∷◌, refl, arith}
use Rattle.std.specs.Prelude.{option_map, Contains}
use Rattle.rbg_game.specs.declared.roles.Player.{Player}
use Rattle.retrograde.specs.declared.records.Record.{Record}
use Rattle.retrograde.specs.Graph.{Graph, HasMove, IsEnded}
use Rattle.retrograde.specs.Stored.{Stored, IsTable, HasRecord, value_of, view_of, expanded_count}
use Rattle.retrograde.specs.Local.{end_value, IsMoveValue}
use Rattle.retrograde.specs.Audit.{HasItsMoves, EdgesAreMoves, IsReached}
use Rattle.retrograde.specs.Verdicts.{Reason, A1, A2, A3, A4, A5, A6, A7, number_of, condition_of}
use Rattle.retrograde.proofs.Additions.{none_in_empty, is_first}
use Rattle.audit.specs.declared.verdict.Reason.{Reason as Answer}
use Rattle.audit.specs.declared.verdict.Reason.TheVariants as answer
use Rattle.audit.specs.lemmas.Conditions.{IsLowest, own_condition, order_condition, waiting_condition, value_condition, AreItsRecords}
use Rattle.audit.specs.lemmas.Records.{HasThis, IsDueByRecords, one_more}
use Rattle.audit.proofs.MoveValueLemmas.{value_from_due, one_value, record_in, record_for}

module _ {P : Type 0} (graph : Graph P) (stored : Stored P) (i : ℕ) (x : P) where
  abbrev Own : Reason → Type 0
  Own = own_condition graph stored i x

  abbrev All7 : Reason → Type 0
  All7 = condition_of graph stored i x

  -- the first fails
  pub first_fails : (IsReached graph stored i x → ⊥) → IsLowest Own (Some answer.A1)
  first_fails not_reached = (not_reached, lower)
    where
      lower : (r : Reason) → number_of r < 1 → Own r
      lower A1 lt = absurd (omega arith)
      lower A2 lt = absurd (omega arith)
      lower A3 lt = absurd (omega arith)
      lower A4 lt = absurd (omega arith)
      lower A5 lt = absurd (omega arith)
      lower A6 lt = absurd (omega arith)
      lower A7 lt = absurd (omega arith)

  below_two : IsReached graph stored i x → (r : Reason) → number_of r < 2 → Own r
  below_two reached A1 lt = reached
  below_two reached A2 lt = absurd (omega arith)
  below_two reached A3 lt = absurd (omega arith)
  below_two reached A4 lt = absurd (omega arith)
  below_two reached A5 lt = absurd (omega arith)
  below_two reached A6 lt = absurd (omega arith)
  below_two reached A7 lt = absurd (omega arith)

  -- the second fails
  pub second_fails : IsReached graph stored i x → i < expanded_count stored → (HasItsMoves graph stored i x → ⊥) → IsLowest Own (Some answer.A2)
  second_fails reached within not_moves = ((λ holds. not_moves (holds within)), below_two reached)

  module _ (reached : IsReached graph stored i x) (moves : i < expanded_count stored → HasItsMoves graph stored i x) where
    -- the third or the fourth fails
    pub order_fails : (a : Answer) → IsLowest (order_condition stored i) (Some a) → IsLowest Own (Some a)
    order_fails answer.A1 (fails, lower) = absurd (fails tt)
    order_fails answer.A2 (fails, lower) = absurd (fails tt)
    order_fails answer.A3 (fails, lower) = (fails, go)
      where
        go : (r : Reason) → number_of r < 3 → Own r
        go A1 lt = reached
        go A2 lt = moves
        go A3 lt = absurd (omega arith)
        go A4 lt = absurd (omega arith)
        go A5 lt = absurd (omega arith)
        go A6 lt = absurd (omega arith)
        go A7 lt = absurd (omega arith)
    order_fails answer.A4 (fails, lower) = (fails, go)
      where
        go : (r : Reason) → number_of r < 4 → Own r
        go A1 lt = reached
        go A2 lt = moves
        go A3 lt = lower A3 (omega arith)
        go A4 lt = absurd (omega arith)
        go A5 lt = absurd (omega arith)
        go A6 lt = absurd (omega arith)
        go A7 lt = absurd (omega arith)
    order_fails answer.A5 (fails, lower) = absurd (fails tt)
    order_fails answer.A6 (fails, lower) = absurd (fails tt)
    order_fails answer.A7 (fails, lower) = absurd (fails tt)

    module _ (order : IsLowest (order_condition stored i) None) where
      -- an expanded position fails by its value, or nowhere
      pub value_fails : IsTable stored → i < expanded_count stored → (a : Option Answer) → IsLowest (value_condition graph stored i x) a → IsLowest Own a
      value_fails table within None holds = go
        where
          go : (r : Reason) → Own r
          go A1 = reached
          go A2 = moves
          go A3 = order A3
          go A4 = order A4
          go A5 = holds A5
          go A6 = holds A6
          go A7 = λ above. absurd (omega arith)
      value_fails table within (Some answer.A1) (fails, lower) = absurd (fails tt)
      value_fails table within (Some answer.A2) (fails, lower) = absurd (fails tt)
      value_fails table within (Some answer.A3) (fails, lower) = absurd (fails tt)
      value_fails table within (Some answer.A4) (fails, lower) = absurd (fails tt)
      value_fails table within (Some answer.A5) (fails, lower) = (fails, go)
        where
          go : (r : Reason) → number_of r < 5 → Own r
          go A1 lt = reached
          go A2 lt = moves
          go A3 lt = order A3
          go A4 lt = order A4
          go A5 lt = absurd (omega arith)
          go A6 lt = absurd (omega arith)
          go A7 lt = absurd (omega arith)
      value_fails table within (Some answer.A6) (fails, lower) = (fails, go)
        where
          go : (r : Reason) → number_of r < 6 → Own r
          go A1 lt = reached
          go A2 lt = moves
          go A3 lt = order A3
          go A4 lt = order A4
          go A5 lt = lower A5 (omega arith)
          go A6 lt = absurd (omega arith)
          go A7 lt = absurd (omega arith)
      value_fails table within (Some answer.A7) (fails, lower) = absurd (fails tt)

  -- one that waits fails by the order or by the last
  pub waiting_all : IsReached graph stored i x → expanded_count stored ≤ i → (a : Option Answer) → IsLowest (waiting_condition stored i) a → IsLowest Own a
  waiting_all reached above None holds = go
    where
      go : (r : Reason) → Own r
      go A1 = reached
      go A2 = λ within. absurd (omega arith)
      go A3 = holds A3
      go A4 = holds A4
      go A5 = λ within. absurd (omega arith)
      go A6 = λ within. absurd (omega arith)
      go A7 = holds A7
  waiting_all reached above (Some answer.A1) (fails, lower) = absurd (fails tt)
  waiting_all reached above (Some answer.A2) (fails, lower) = absurd (fails tt)
  waiting_all reached above (Some answer.A3) (fails, lower) = (fails, go)
    where
      go : (r : Reason) → number_of r < 3 → Own r
      go A1 lt = reached
      go A2 lt = λ within. absurd (omega arith)
      go A3 lt = absurd (omega arith)
      go A4 lt = absurd (omega arith)
      go A5 lt = absurd (omega arith)
      go A6 lt = absurd (omega arith)
      go A7 lt = absurd (omega arith)
  waiting_all reached above (Some answer.A4) (fails, lower) = (fails, go)
    where
      go : (r : Reason) → number_of r < 4 → Own r
      go A1 lt = reached
      go A2 lt = λ within. absurd (omega arith)
      go A3 lt = lower A3 (omega arith)
      go A4 lt = absurd (omega arith)
      go A5 lt = absurd (omega arith)
      go A6 lt = absurd (omega arith)
      go A7 lt = absurd (omega arith)
  waiting_all reached above (Some answer.A5) (fails, lower) = absurd (fails tt)
  waiting_all reached above (Some answer.A6) (fails, lower) = absurd (fails tt)
  waiting_all reached above (Some answer.A7) (fails, lower) = (fails, go)
    where
      go : (r : Reason) → number_of r < 7 → Own r
      go A1 lt = reached
      go A2 lt = λ within. absurd (omega arith)
      go A3 lt = lower A3 (omega arith)
      go A4 lt = lower A4 (omega arith)
      go A5 lt = λ within. absurd (omega arith)
      go A6 lt = λ within. absurd (omega arith)
      go A7 lt = absurd (omega arith)

  -- with the edges that lead to the number
  pub stray_first : IsLowest Own (Some answer.A1) → IsLowest All7 (Some answer.A1)
  stray_first (fails, lower) = (fails, go)
    where
      go : (r : Reason) → number_of r < 1 → All7 r
      go A1 lt = absurd (omega arith)
      go A2 lt = absurd (omega arith)
      go A3 lt = absurd (omega arith)
      go A4 lt = absurd (omega arith)
      go A5 lt = absurd (omega arith)
      go A6 lt = absurd (omega arith)
      go A7 lt = absurd (omega arith)

  above_one : IsReached graph stored i x → (r : Reason) → number_of r < 2 → All7 r
  above_one reached A1 lt = reached
  above_one reached A2 lt = absurd (omega arith)
  above_one reached A3 lt = absurd (omega arith)
  above_one reached A4 lt = absurd (omega arith)
  above_one reached A5 lt = absurd (omega arith)
  above_one reached A6 lt = absurd (omega arith)
  above_one reached A7 lt = absurd (omega arith)

  pub stray_second : IsLowest Own (Some answer.A2) → IsLowest All7 (Some answer.A2)
  stray_second (fails, lower) = ((λ holds. fails holds.from_it), above_one (lower A1 (omega arith)))

  -- what is lower than a stray edge stays
  pub stray_lower : (a : Option Answer) → (a ≡ Some answer.A1) ⊎ (a ≡ Some answer.A2) → IsLowest Own a → IsLowest All7 a
  stray_lower a (inl is) holds =
      subst (λ (o : Option Answer). IsLowest All7 o) (sym is) (stray_first (subst (λ (o : Option Answer). IsLowest Own o) is holds))
  stray_lower a (inr is) holds =
      subst (λ (o : Option Answer). IsLowest All7 o) (sym is) (stray_second (subst (λ (o : Option Answer). IsLowest Own o) is holds))

  -- beyond the second, the first holds
  first_holds : (a : Option Answer) → (a ≡ Some answer.A1 → ⊥) → IsLowest Own a → IsReached graph stored i x
  first_holds None other holds = holds A1
  first_holds (Some answer.A1) other holds = absurd (other refl)
  first_holds (Some answer.A2) other (fails, lower) = lower A1 (omega arith)
  first_holds (Some answer.A3) other (fails, lower) = lower A1 (omega arith)
  first_holds (Some answer.A4) other (fails, lower) = lower A1 (omega arith)
  first_holds (Some answer.A5) other (fails, lower) = lower A1 (omega arith)
  first_holds (Some answer.A6) other (fails, lower) = lower A1 (omega arith)
  first_holds (Some answer.A7) other (fails, lower) = lower A1 (omega arith)

  pub stray_there : (a : Option Answer) → (a ≡ Some answer.A1 → ⊥) → IsLowest Own a → (EdgesAreMoves graph stored i x → ⊥) → IsLowest All7 (Some answer.A2)
  stray_there a other holds stray = ((λ both. stray both.to_it), above_one (first_holds a other holds))

  same_or_second : (r : Reason) → EdgesAreMoves graph stored i x → Own r → All7 r
  same_or_second A1 moves holds = holds
  same_or_second A2 moves holds = record { from_it = holds; to_it = moves }
  same_or_second A3 moves holds = holds
  same_or_second A4 moves holds = holds
  same_or_second A5 moves holds = holds
  same_or_second A6 moves holds = holds
  same_or_second A7 moves holds = holds

  -- without a stray edge the answer is the same
  pub no_stray : (a : Option Answer) → (a ≡ Some answer.A2 → ⊥) → IsLowest Own a → EdgesAreMoves graph stored i x → IsLowest All7 a
  no_stray None other holds moves = λ r. same_or_second r moves (holds r)
  no_stray (Some answer.A1) other (fails, lower) moves = (fails, λ r lt. same_or_second r moves (lower r lt))
  no_stray (Some answer.A2) other (fails, lower) moves = absurd (other refl)
  no_stray (Some answer.A3) other (fails, lower) moves = (fails, λ r lt. same_or_second r moves (lower r lt))
  no_stray (Some answer.A4) other (fails, lower) moves = (fails, λ r lt. same_or_second r moves (lower r lt))
  no_stray (Some answer.A5) other (fails, lower) moves = (fails, λ r lt. same_or_second r moves (lower r lt))
  no_stray (Some answer.A6) other (fails, lower) moves = (fails, λ r lt. same_or_second r moves (lower r lt))
  no_stray (Some answer.A7) other (fails, lower) moves = (fails, λ r lt. same_or_second r moves (lower r lt))

-- the value of an expanded position
module _ {P : Type 0} (graph : Graph P) (stored : Stored P) (i : ℕ) (x : P) (table : IsTable stored) (r : Record) (has : HasRecord stored i r)
    (within : i < expanded_count stored) (records : List Record) (it : AreItsRecords graph stored i x records) where
  its_value : (view_of stored).value i ≡ value_of r
  its_value = rw has refl

  ended : records ≡ [] → IsEnded graph x
  ended empty y move =
      let (q, j, here, _, _) = record_for graph stored table i x records it y move in
      none_in_empty q (subst (λ (rs : List Record). Contains rs q) empty here)

  pub ended_so : records ≡ [] → value_of r ≡ end_value (graph.ahead x) → IsLowest (value_condition graph stored i x) None
  ended_so empty so = go
    where
      go : (q : Reason) → value_condition graph stored i x q
      go A1 = tt
      go A2 = tt
      go A3 = tt
      go A4 = tt
      go A5 = λ _ _. its_value ∙ so
      go A6 = λ _ (y, move). absurd (ended empty y move)
      go A7 = tt

  pub not_ended_so : records ≡ [] → (value_of r ≡ end_value (graph.ahead x) → ⊥) → IsLowest (value_condition graph stored i x) (Some answer.A5)
  not_ended_so empty not_so = ((λ holds. not_so (sym its_value ∙ holds within (ended empty))), go)
    where
      go : (q : Reason) → number_of q < 5 → value_condition graph stored i x q
      go A1 lt = tt
      go A2 lt = tt
      go A3 lt = tt
      go A4 lt = tt
      go A5 lt = absurd (omega arith)
      go A6 lt = absurd (omega arith)
      go A7 lt = absurd (omega arith)

  has_move : (records ≡ [] → ⊥) → HasMove graph x
  has_move some = by records refl
    where
      by : (rs : List Record) → records ≡ rs → HasMove graph x
      by [] is = absurd (some is)
      by (q ∷ rs) is =
          let (y, j, move, _, _) = record_in graph stored table i x records it q (subst (λ (us : List Record). Contains us q) (sym is) (is_first q rs)) in
          (y, move)

  module _ (some : records ≡ [] → ⊥) (due : Option (Player × ℕ)) (is_due : IsDueByRecords (graph.mover x) records due) where
    move_value : IsMoveValue graph (view_of stored) x (option_map one_more due)
    move_value = value_from_due graph stored table i x records it (has_move some) due is_due

    pub moves_so : HasThis r due → IsLowest (value_condition graph stored i x) None
    moves_so so = go
      where
        go : (q : Reason) → value_condition graph stored i x q
        go A1 = tt
        go A2 = tt
        go A3 = tt
        go A4 = tt
        go A5 = λ _ ended'. let (y, move) = has_move some in absurd (ended' y move)
        go A6 = λ _ _. subst (λ (v : Option (Player × ℕ)). IsMoveValue graph (view_of stored) x v) (sym (its_value ∙ so)) move_value
        go A7 = tt

    pub not_moves_so : (HasThis r due → ⊥) → IsLowest (value_condition graph stored i x) (Some answer.A6)
    not_moves_so not_so = (
      (λ holds. not_so (sym its_value ∙ one_value graph stored table x ((view_of stored).value i) (option_map one_more due)
          (holds within (has_move some)) move_value)),
      go,
    )
      where
        go : (q : Reason) → number_of q < 6 → value_condition graph stored i x q
        go A1 lt = tt
        go A2 lt = tt
        go A3 lt = tt
        go A4 lt = tt
        go A5 lt = λ _ ended'. let (y, move) = has_move some in absurd (ended' y move)
        go A6 lt = absurd (omega arith)
        go A7 lt = absurd (omega arith)

-- the order and the last, of one that is not expanded
module _ {P : Type 0} (stored : Stored P) (i : ℕ) (above : expanded_count stored ≤ i) (r : Record) (has : HasRecord stored i r) where
  pub waiting_order : (a : Answer) → IsLowest (order_condition stored i) (Some a) → IsLowest (waiting_condition stored i) (Some a)
  waiting_order answer.A1 (fails, lower) = absurd (fails tt)
  waiting_order answer.A2 (fails, lower) = absurd (fails tt)
  waiting_order answer.A3 (fails, lower) = (fails, go)
    where
      go : (q : Reason) → number_of q < 3 → waiting_condition stored i q
      go A1 lt = tt
      go A2 lt = tt
      go A3 lt = absurd (omega arith)
      go A4 lt = absurd (omega arith)
      go A5 lt = tt
      go A6 lt = tt
      go A7 lt = absurd (omega arith)
  waiting_order answer.A4 (fails, lower) = (fails, go)
    where
      go : (q : Reason) → number_of q < 4 → waiting_condition stored i q
      go A1 lt = tt
      go A2 lt = tt
      go A3 lt = lower A3 (omega arith)
      go A4 lt = absurd (omega arith)
      go A5 lt = tt
      go A6 lt = tt
      go A7 lt = absurd (omega arith)
  waiting_order answer.A5 (fails, lower) = absurd (fails tt)
  waiting_order answer.A6 (fails, lower) = absurd (fails tt)
  waiting_order answer.A7 (fails, lower) = absurd (fails tt)

  value_at : (view_of stored).value i ≡ value_of r
  value_at = rw has refl

  pub waiting_fails : IsLowest (order_condition stored i) None → IsSome r.winner → IsLowest (waiting_condition stored i) (Some answer.A7)
  waiting_fails order some = ((λ holds. settled r.winner refl some (sym value_at ∙ holds above)), go)
    where
      settled : (o : Option Player) → r.winner ≡ o → IsSome o → value_of r ≡ None → ⊥
      settled None is there none = cc
      settled (Some w) is there none = let other : value_of r ≡ Some (w, r.distance) = rw is refl in cc

      go : (q : Reason) → number_of q < 7 → waiting_condition stored i q
      go A1 lt = tt
      go A2 lt = tt
      go A3 lt = order A3
      go A4 lt = order A4
      go A5 lt = tt
      go A6 lt = tt
      go A7 lt = absurd (omega arith)

  pub waiting_holds : IsLowest (order_condition stored i) None → (IsSome r.winner → ⊥) → IsLowest (waiting_condition stored i) None
  waiting_holds order none = go
    where
      unsettled : (o : Option Player) → r.winner ≡ o → (IsSome o → ⊥) → value_of r ≡ None
      unsettled None is never = rw is refl
      unsettled (Some w) is never = absurd (never refl)

      go : (q : Reason) → waiting_condition stored i q
      go A1 = tt
      go A2 = tt
      go A3 = order A3
      go A4 = order A4
      go A5 = tt
      go A6 = tt
      go A7 = λ _. value_at ∙ unsettled r.winner refl none
