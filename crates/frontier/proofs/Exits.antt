-- What is left and why, of a fault that a call hands on.
use Rattle.std.proofs.Common.{◌≡◌, ◌∙◌, ◌⊎◌, inl, inr, sym, subst, ℕ, List, slice_get, Option}
use Rattle.table.specs.declared.fault.TableFault.{TableFault}
use Rattle.retrograde.specs.Graph.{Graph}
use Rattle.retrograde.specs.Stored.{Stored, expanded_count}
use Rattle.frontier.specs.declared.fault.StepFault.{StepFault}
use Rattle.frontier.specs.declared.fault.StepFault.TheVariants.{TooWide, KeeperChooses, TooManyPositions, Inconsistent, OutOfMemory, Table}
use Rattle.frontier.specs.Causes.{HasUnitCause, Leaves}

-- after calls that were answered
pub leaves_after : (Ahead On : Type 0) (Fails Since : TableFault → Type 0) (fault : StepFault) → (Ahead → On) → ((f : TableFault) → Fails f → Since f)
    → Leaves Ahead Fails fault → Leaves On Since fault
leaves_after Ahead On Fails Since TooWide on since left = on left
leaves_after Ahead On Fails Since (KeeperChooses number) on since left = on left
leaves_after Ahead On Fails Since TooManyPositions on since left = on left
leaves_after Ahead On Fails Since Inconsistent on since left = on left
leaves_after Ahead On Fails Since OutOfMemory on since left = on left
leaves_after Ahead On Fails Since (Table f) on since left = since f left

module _ (fault : StepFault) (one_of : (fault ≡ TooWide) ⊎ (fault ≡ OutOfMemory)) where
  -- a fault of the search leaves a table that has gone on
  pub search_leaves : (Ahead : Type 0) (Fails : TableFault → Type 0) → Ahead → Leaves Ahead Fails fault
  search_leaves Ahead Fails ahead = go one_of
    where
      go : (fault ≡ TooWide) ⊎ (fault ≡ OutOfMemory) → Leaves Ahead Fails fault
      go (inl is) = subst (λ (f : StepFault). Leaves Ahead Fails f) (sym is) ahead
      go (inr is) = subst (λ (f : StepFault). Leaves Ahead Fails f) (sym is) ahead

  -- and is no inconsistency
  pub search_consistent : fault ≡ Inconsistent → ⊥
  search_consistent same = go one_of
    where
      go : (fault ≡ TooWide) ⊎ (fault ≡ OutOfMemory) → ⊥
      go (inl is) = let other : TooWide ≡ Inconsistent = sym is ∙ same in cc
      go (inr is) = let other : OutOfMemory ≡ Inconsistent = sym is ∙ same in cc

  -- and has its cause
  pub search_cause : (graph : Graph (List ℕ)) (IsWide : List ℕ → Type 0) (stored : Stored (List ℕ)) (x : List ℕ)
      → slice_get stored.positions (expanded_count stored) ≡ Option.Some x → (fault ≡ TooWide → IsWide x) → HasUnitCause graph IsWide stored fault
  search_cause graph IsWide stored x at wide = go one_of
    where
      go : (fault ≡ TooWide) ⊎ (fault ≡ OutOfMemory) → HasUnitCause graph IsWide stored fault
      go (inl is) = subst (λ (f : StepFault). HasUnitCause graph IsWide stored f) (sym is) (λ refused. (x, at, wide is))
      go (inr is) = subst (λ (f : StepFault). HasUnitCause graph IsWide stored f) (sym is) (λ refused. absurd refused)
