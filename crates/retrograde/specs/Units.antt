-- How a table goes on, unit by unit.
use Rattle.std.specs.Prelude.{◌≡◌, ◌↔◌, ℕ, zero, suc, ◌+◌, ◌≤◌, ◌<◌, true, List, ◌++◌, length, slice_get, Contains, Some}
use Rattle.std.specs.List.Sorted.{IsStrictlySortedBy}
use Rattle.std.specs.declared.cmp.Ordering.{Ordering}
use Rattle.retrograde.specs.Graph.{Graph}
use Rattle.retrograde.specs.View.{View, HasNumber}
use Rattle.retrograde.specs.Right.{IsRight}
use Rattle.retrograde.specs.Stored.{count_below}

-- the positions that a move from x leads to and that were not known, in order
pub record IsNewFrom {P : Type 0} (cmp : P → P → Ordering) (graph : Graph P) (known : List P) (x : P) (found : List P) : Type 0 where
  pub each : (y : P) → Contains found y ↔ (graph.Successor x y × (Contains known y → ⊥))
  pub ascending : IsStrictlySortedBy cmp found

-- expanding this many positions, from the one with number e on, turns the first list of known positions into the second
abbrev pub Grows : {P : Type 0} → (P → P → Ordering) → Graph P → ℕ → ℕ → List P → List P → Type 0
Grows cmp graph zero e known known' = known' ≡ known
Grows {P} cmp graph (suc k) e known known' =
    (x : P) × (found : List P) × (slice_get known e ≡ Some x) × IsNewFrom cmp graph known x found
    × Grows cmp graph k (suc e) (known ++ found) known'

-- how many positions are processed
abbrev pub processed_in_view : {P : Type 0} → View P → ℕ
processed_in_view view = count_below (length view.known) view.processed

-- u units of work lead from one table to the other: each expands one position or processes one
pub record UnitsOfWork {P : Type 0} (cmp : P → P → Ordering) (graph : Graph P) (IsWide : P → Type 0) (limit : ℕ)
    (old : View P) (u : ℕ) (new : View P) : Type 0 where
  pub before : IsRight graph old
  pub right : IsRight graph new
  pub room : length new.known ≤ limit
  -- how many positions are expanded
  pub more : ℕ
  pub expanded : new.expanded ≡ old.expanded + more
  pub grows : Grows cmp graph more old.expanded old.known new.known
  pub narrow : (i : ℕ) (x : P) → HasNumber new i x → old.expanded ≤ i → i < new.expanded → IsWide x → ⊥
  pub keeps : (i : ℕ) → old.processed i ≡ true → new.processed i ≡ true
  pub units : new.expanded + processed_in_view new ≡ old.expanded + processed_in_view old + u
