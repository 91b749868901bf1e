-- Why a position is not expanded.
use Rattle.std.specs.Prelude.{◌≡◌, ◌^◌, ℕ, List, Some, slice_get}
use Rattle.legal_moves.specs.declared.fault.MoveFault.{MoveFault}
use Rattle.legal_moves.specs.declared.fault.MoveFault.TheVariants as search
use Rattle.retrograde.specs.Graph.{Graph}
use Rattle.retrograde.specs.Stored.{Stored, expanded_count}
use Rattle.retrograde.specs.Successors.{packed_cmp}
use Rattle.retrograde.specs.Expands.{IsChoice, IsTooMany}
use Rattle.table.specs.declared.fault.TableFault.{TableFault}
use Rattle.frontier.specs.declared.fault.StepFault.{StepFault}
use Rattle.frontier.specs.declared.fault.StepFault.TheVariants.{TooWide, KeeperChooses, TooManyPositions, Inconsistent, OutOfMemory, Table}

-- what a fault of the search is as a fault of the unit
abbrev pub search_fault : MoveFault → StepFault
search_fault search.TooWide = TooWide
search_fault search.OutOfMemory = OutOfMemory

-- the table stays as it was
abbrev pub IsRefusal : StepFault → Type 0
IsRefusal TooWide = Unit {0}
IsRefusal (KeeperChooses number) = Unit {0}
IsRefusal TooManyPositions = Unit {0}
IsRefusal Inconsistent = ⊥
IsRefusal OutOfMemory = ⊥
IsRefusal (Table fault) = ⊥

-- what a unit that is not done leaves, and why: of its own fault the table says both, and after another it has gone on
abbrev pub Leaves : Type 0 → (TableFault → Type 0) → StepFault → Type 0
Leaves ahead fails TooWide = ahead
Leaves ahead fails (KeeperChooses number) = ahead
Leaves ahead fails TooManyPositions = ahead
Leaves ahead fails Inconsistent = ahead
Leaves ahead fails OutOfMemory = ahead
Leaves ahead fails (Table fault) = fails fault

-- why x, which has this number, is not expanded: a search that is too wide before a choice of the keeper's, and that
-- before the limit of positions
abbrev pub IsCause : Graph (List ℕ) → (List ℕ → Type 0) → Stored (List ℕ) → ℕ → List ℕ → StepFault → Type 0
IsCause graph IsWide stored e x TooWide = IsWide x
IsCause graph IsWide stored e x (KeeperChooses number) = (number ≡ e) × (¬ IsWide x) × IsChoice graph x
IsCause graph IsWide stored e x TooManyPositions = (¬ IsWide x) × (¬ IsChoice graph x)
    × IsTooMany packed_cmp graph (2 ^ 24) stored.positions x
IsCause graph IsWide stored e x Inconsistent = Unit {0}
IsCause graph IsWide stored e x OutOfMemory = Unit {0}
IsCause graph IsWide stored e x (Table fault) = Unit {0}

-- a refusal comes of the next position to be expanded, and has its cause
abbrev pub HasUnitCause : Graph (List ℕ) → (List ℕ → Type 0) → Stored (List ℕ) → StepFault → Type 0
HasUnitCause graph IsWide stored fault =
    IsRefusal fault → (x : List ℕ) × (slice_get stored.positions (expanded_count stored) ≡ Some x)
    × IsCause graph IsWide stored (expanded_count stored) x fault
