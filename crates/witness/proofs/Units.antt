-- No unit of work on a right table of the game is refused by a fault of its own.
use Rattle.std.proofs.Common.{◌≡◌, ◌≢◌, ℕ, List, [], ◌∷◌, get_or, AllPairs, sym, ap, ◌∙◌, ◌^◌, subst, arith, length-append}
use Rattle.std.proofs.lemmas.Cmp.{nat_list_cmp_total}
use Rattle.std.proofs.lemmas.List.Elements.{Contains-get_or}
use Rattle.std.proofs.lemmas.List.Kept.{AllPairs-cons}
use Rattle.std.proofs.lemmas.Map.Keys.{sorted_tail}
use Rattle.std.proofs.lemmas.Map.Views.{All-after_first}
use Rattle.std.specs.List.Sorted.{IsStrictlySortedBy}
use Rattle.std.specs.Ordering.{ordering_reverse}
use Rattle.std.specs.declared.cmp.Ordering.TheVariants.{Less, Greater}
use Rattle.position_pack.specs.declared.kind.PackingKind.{PackingKind}
use Rattle.legal_moves.specs.Sources.{IsWideAt}
use Rattle.legal_moves.proofs.Distinct.{distinct-le}
use Rattle.retrograde.specs.Expands.{IsTooMany}
use Rattle.retrograde.specs.Graph.{IsReachable}
use Rattle.retrograde.specs.Right.{IsRight}
use Rattle.retrograde.specs.Stored.{Stored, view_of, expanded_count}
use Rattle.retrograde.specs.Successors.{packed_cmp}
use Rattle.frontier.specs.Causes.{IsRefusal, IsCause, HasUnitCause}
use Rattle.frontier.specs.declared.fault.StepFault.{StepFault}
use Rattle.frontier.specs.declared.fault.StepFault.TheVariants as step
use Rattle.witness.specs.Game.{witness_game}
use Rattle.witness.proofs.NineUnits.{four_known}
use Rattle.witness.proofs.Positions.{graph, all, comes, is_among, no_choice, no_width}

ordered : (xs : List (List ℕ)) → IsStrictlySortedBy packed_cmp xs → AllPairs (λ x y. packed_cmp x y ≡ Less) xs
ordered [] sorted = λ i j d less inside. absurd (omega arith)
ordered (x ∷ xs) sorted =
    AllPairs-cons (λ y z. packed_cmp y z ≡ Less) x xs (All-after_first packed_cmp x xs sorted) (ordered xs (sorted_tail packed_cmp x xs sorted))

not_below_itself : (x : List ℕ) → packed_cmp x x ≡ Less → ⊥
not_below_itself x less =
    let greater : packed_cmp x x ≡ Greater = nat_list_cmp_total.antisymm x x ∙ ap ordering_reverse less in
    let no_way : Less ≡ Greater = sym less ∙ greater in
    cc

-- what is sorted is there once
once : (xs : List (List ℕ)) → IsStrictlySortedBy packed_cmp xs → AllPairs ◌≢◌ xs
once xs sorted i j d less inside =
    λ same.
    not_below_itself (get_or xs j d) (subst (λ u. packed_cmp u (get_or xs j d) ≡ Less) same (ordered xs sorted i j d less inside))

module _ (kind : PackingKind) where
  -- there are far fewer positions than a table takes
  not_too_many : (stored : Stored (List ℕ)) (x : List ℕ) → IsRight (graph kind) (view_of stored) → IsReachable (graph kind) x
      → IsTooMany packed_cmp (graph kind) (2 ^ 24) stored.positions x → ⊥
  not_too_many stored x right reached many =
      let known = four_known kind (view_of stored) right in
      let found =
      distinct-le (all kind) many.found (once many.found many.fresh.ascending)
      (λ k d inside.
      let leads = ((many.fresh.each (get_or many.found k d)).0 (Contains-get_or many.found k d inside)).0 in
      is_among kind _ (comes kind _ (IsReachable.by_move reached leads))) in
      let over = many.over in
      absurd (omega (arith, length-append stored.positions many.found))

  pub unit_is_done : (stored : Stored (List ℕ)) → IsRight (graph kind) (view_of stored) → (why : StepFault) → IsRefusal why
      → HasUnitCause (graph kind) (IsWideAt kind witness_game) stored why → ⊥
  unit_is_done stored right why own cause =
      let here = cause own in
      let reached = right.moves.reached here.0 (expanded_count stored, here.1) in
      go why here.0 reached own here.2
    where
      go : (fault : StepFault) (x : List ℕ) → IsReachable (graph kind) x → IsRefusal fault
          → IsCause (graph kind) (IsWideAt kind witness_game) stored (expanded_count stored) x fault → ⊥
      go step.TooWide x reached mine is = no_width kind x (comes kind x reached) is
      go (step.KeeperChooses number) x reached mine is = no_choice kind x (comes kind x reached) is.2
      go step.TooManyPositions x reached mine is = not_too_many stored x right reached is.2
      go step.Inconsistent x reached mine is = mine
      go step.OutOfMemory x reached mine is = mine
      go (step.Table fault) x reached mine is = mine
