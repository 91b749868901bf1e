-- Of a game within the limits no unit is refused by a limit.
use Rattle.std.proofs.Common.{◌≡◌, ◌≢◌, inl, inr, ℕ, ◌+◌, ◌-◌, ◌<◌, ◌≤◌, ◌^◌, List, [], ◌∷◌, ◌++◌, length, get_or, AllPairs, Contains, Option, None, Some, sym, ap, ◌∙◌, subst, arith, length-append}
use Rattle.std.specs.Prelude.{IsTrue}
use Rattle.std.specs.List.Sorted.{IsStrictlySortedBy}
use Rattle.std.specs.Ordering.{ordering_reverse}
use Rattle.std.specs.declared.cmp.Ordering.TheVariants.{Less, Greater}
use Rattle.std.proofs.lemmas.Bool.{cases_lt}
use Rattle.std.proofs.lemmas.Cmp.{nat_list_cmp_total}
use Rattle.std.proofs.lemmas.List.{get_or_append_left, get_or-append-add}
use Rattle.std.proofs.lemmas.List.Elements.{Contains-get_or}
use Rattle.std.proofs.lemmas.List.Kept.{AllPairs-cons}
use Rattle.std.proofs.lemmas.Map.Keys.{sorted_tail}
use Rattle.std.proofs.lemmas.Map.Views.{All-after_first}
use Rattle.std.proofs.lemmas.Option.{slice_get-get_or}
use Rattle.rbg_game.specs.Games.{Game}
use Rattle.rbg_read.specs.Reads.{Reads}
use Rattle.rbg_read.proofs.OneGame.{one_game}
use Rattle.legal_moves.proofs.Distinct.{distinct-le}
use Rattle.retrograde.specs.Expands.{IsTooMany}
use Rattle.retrograde.specs.Graph.{Graph, IsReachable}
use Rattle.retrograde.specs.Right.{IsRight}
use Rattle.retrograde.specs.Sound.{IsLocallySound}
use Rattle.retrograde.specs.Stored.{Stored, view_of, expanded_count}
use Rattle.retrograde.specs.Successors.{packed_cmp}
use Rattle.retrograde.proofs.Sound.{sound_right}
use Rattle.frontier.specs.Causes.{IsRefusal, IsCause, HasUnitCause}
use Rattle.frontier.specs.declared.fault.StepFault.{StepFault}
use Rattle.frontier.specs.declared.fault.StepFault.TheVariants as step
use Rattle.game_table.specs.Work.{StopsWith}
use Rattle.game_file.specs.Kept.{Kept}
use Rattle.game_file.specs.State.{State}
use Rattle.solver.specs.Held.{IsSound, graph_in, wide_in}
use Rattle.solver.specs.Machine.{Step, work, StopsAt, WorkCause}
use Rattle.solver.specs.declared.fault.SolverFault.{SolverFault}
use Rattle.solver.specs.declared.fault.SolverFault.TheVariants as fault
use Rattle.solver.specs.declared.replies.Reply.TheVariants.{Refused}
use Rattle.progress.specs.Limits.{IsWithinLimits, WantsRoom}

ordered : (xs : List (List ℕ)) → IsStrictlySortedBy packed_cmp xs → AllPairs (λ x y. packed_cmp x y ≡ Less) xs
ordered [] sorted = λ i j d less inside. absurd (omega arith)
ordered (x ∷ xs) sorted =
    AllPairs-cons (λ y z. packed_cmp y z ≡ Less) x xs (All-after_first packed_cmp x xs sorted) (ordered xs (sorted_tail packed_cmp x xs sorted))

not_below_itself : (x : List ℕ) → packed_cmp x x ≡ Less → ⊥
not_below_itself x less =
    let greater : packed_cmp x x ≡ Greater = nat_list_cmp_total.antisymm x x ∙ ap ordering_reverse less in
    let no_way : Less ≡ Greater = sym less ∙ greater in
    cc

-- what is sorted is there once
once : (xs : List (List ℕ)) → IsStrictlySortedBy packed_cmp xs → AllPairs ◌≢◌ xs
once xs sorted i j d less inside =
    λ same.
    not_below_itself (get_or xs j d) (subst (λ u. packed_cmp u (get_or xs j d) ≡ Less) same (ordered xs sorted i j d less inside))

-- two lists whose elements differ, each among its own and from those of the other, are one such list
both_apart : (xs ys : List (List ℕ)) → AllPairs ◌≢◌ xs → AllPairs ◌≢◌ ys
    → ((i j : ℕ) (d : List ℕ) → i < length xs → j < length ys → get_or xs i d ≢ get_or ys j d) → AllPairs ◌≢◌ (xs ++ ys)
both_apart xs ys one other across i j d less inside =
    let long = length-append xs ys in
    elim (cases_lt j (length xs)) [
      | inl low ↦
          λ same. one i j d less low
          (sym (get_or_append_left xs ys d i (omega arith)) ∙ same ∙ get_or_append_left xs ys d j low)
      | inr high ↦
          let at_j = there j high in
          elim (cases_lt i (length xs)) [
            | inl low ↦
                λ same. across i (j - length xs) d low (omega (arith, long, inside, high))
                (sym (get_or_append_left xs ys d i low) ∙ same ∙ at_j)
            | inr far ↦
                λ same. other (i - length xs) (j - length xs) d (omega (arith, far, less)) (omega (arith, long, inside, high))
                (sym (there i far) ∙ same ∙ at_j)
          ]
    ]
  where
    there : (k : ℕ) → length xs ≤ k → get_or (xs ++ ys) k d ≡ get_or ys (k - length xs) d
    there k far =
        let same : length xs + (k - length xs) ≡ k = omega (arith, far) in
        subst (λ m. get_or (xs ++ ys) m d ≡ get_or ys (k - length xs) d) same (get_or-append-add xs ys (k - length xs) d)

module _ (graph : Graph (List ℕ)) (IsWide : List ℕ → Type 0) (limits : IsWithinLimits graph IsWide) where
  -- what is known and what a move leads to is no more than play can come to
  not_too_many : (stored : Stored (List ℕ)) (x : List ℕ) → IsRight graph (view_of stored) → IsReachable graph x
      → IsTooMany packed_cmp graph (2 ^ 24) stored.positions x → ⊥
  not_too_many stored x right reached many =
      let found = many.found in
      let apart =
      both_apart stored.positions found
      (λ i j d less inside same.
      let at_i = slice_get-get_or stored.positions i d (omega arith) in
      let at_j = slice_get-get_or stored.positions j d inside in
      let one : i ≡ j = right.coherent.distinct i j (get_or stored.positions i d) at_i (at_j ∙ ap (λ y. Some y) (sym same)) in
      omega arith)
      (once found many.fresh.ascending)
      (λ i j d low inside same.
      ((many.fresh.each (get_or found j d)).0 (Contains-get_or found j d inside)).1
      (subst (Contains stored.positions) same (Contains-get_or stored.positions i d low))) in
      let within =
      distinct-le limits.few.positions (stored.positions ++ found) apart
      (λ k d inside.
      elim (cases_lt k (length stored.positions)) [
        | inl low ↦
            subst (Contains limits.few.positions) (sym (get_or_append_left stored.positions found d k low))
            (limits.few.each _ (right.moves.reached (get_or stored.positions k d) (k, slice_get-get_or stored.positions k d low)))
        | inr far ↦
            let same : length stored.positions + (k - length stored.positions) ≡ k = omega (arith, far) in
            let short : k - length stored.positions < length found = omega (arith, far, inside, length-append stored.positions found) in
            let at = get_or-append-add stored.positions found (k - length stored.positions) d in
            let leads = ((many.fresh.each (get_or found (k - length stored.positions) d)).0
            (Contains-get_or found (k - length stored.positions) d short)).0 in
            subst (λ m. Contains limits.few.positions (get_or (stored.positions ++ found) m d)) same
            (subst (Contains limits.few.positions) (sym at) (limits.few.each _ (IsReachable.by_move reached leads)))
      ]) in
      let over = many.over in
      let bound = limits.few.as_many in
      absurd (omega (arith, within, over, bound))

  not_refused : (stored : Stored (List ℕ)) (why : StepFault) → IsRight graph (view_of stored) → IsRefusal why → HasUnitCause graph IsWide stored why → ⊥
  not_refused stored why right own cause =
      let here = cause own in
      go why here.0 (right.moves.reached here.0 (expanded_count stored, here.1)) own here.2
    where
      go : (why : StepFault) (x : List ℕ) → IsReachable graph x → IsRefusal why → IsCause graph IsWide stored (expanded_count stored) x why → ⊥
      go step.TooWide x reached own is = limits.narrow x reached is
      go (step.KeeperChooses number) x reached own is = limits.forced x reached is.2
      go step.TooManyPositions x reached own is = not_too_many stored x right reached is.2
      go step.Inconsistent x reached own is = own
      go step.OutOfMemory x reached own is = own
      go (step.Table fault) x reached own is = own

  never_stops : (old : Stored (List ℕ)) (units : ℕ) (why : StepFault) → IsRefusal why → StopsWith graph IsWide old units why → ⊥
  never_stops old units why own stops =
      not_refused stops.reached why (sound_right graph IsWide stops.reached stops.sound) own stops.cause

-- so a table on which a unit has stopped for its own fault is of another game
not_at : (units : ℕ) (kept : Kept) (game : Game) (why : StepFault) → IsRefusal why → IsSound (Some kept) → Reads kept.text game
    → IsWithinLimits (graph_in game kept) (wide_in game kept) → StopsAt units (Some kept) why → ⊥
not_at units kept game why own (other, is_read, sound) also limits stops =
    let same : other ≡ game = one_game kept.text other game is_read also in
    never_stops (graph_in game kept) (wide_in game kept) limits kept.table units why own
    (stops game also (subst (λ (g : Game). IsLocallySound (graph_in g kept) (wide_in g kept) kept.table) same sound))

pub work_wants_room_alone : (units : ℕ) (why : SolverFault) (old new : State) (kept : Kept) (game : Game) → Step (work units) old (Refused why) new
    → IsTrue old.disk.honest → old.kept ≡ Some kept → IsSound (Some kept) → Reads kept.text game
    → IsWithinLimits (graph_in game kept) (wide_in game kept) → WantsRoom old new why
work_wants_room_alone units why old new kept game refused honest is sound is_read limits = go why refused.reason
  where
    at : (step_fault : StepFault) → IsRefusal step_fault → StopsAt units old.kept step_fault → ⊥
    at step_fault own stops =
        not_at units kept game step_fault own sound is_read limits (subst (λ (k : Option Kept). StopsAt units k step_fault) is stops)

    go : (why : SolverFault) → WorkCause units old new why → WantsRoom old new why
    go fault.Disk cause = cause
    go fault.Damaged cause = absurd (cause honest)
    go fault.TableFull cause = cause honest
    go fault.OutOfMemory cause = tt
    go fault.Closed cause = cause
    go fault.NoGame cause = let no_way : Some kept ≡ None = sym is ∙ cause in absurd (cc)
    go (fault.KeeperChooses number) cause = absurd (at (step.KeeperChooses number) tt (cause honest))
    go fault.TooWide cause = absurd (at step.TooWide tt (cause honest))
    go fault.TooManyPositions cause = absurd (at step.TooManyPositions tt (cause honest))
    go fault.Inconsistent cause = absurd (cause honest (subst (λ (k : Option Kept). IsSound k) (sym is) sound))
    go _ cause = absurd cause
