-- What many units of work come to.
use Rattle.std.specs.Prelude.{◌≡◌, ◌⊎◌, ◌<◌, ◌^◌, ℕ, List}
use Rattle.retrograde.specs.Graph.{Graph}
use Rattle.retrograde.specs.Stored.{Stored, view_of}
use Rattle.retrograde.specs.View.{IsFinished}
use Rattle.retrograde.specs.Sound.{IsLocallySound}
use Rattle.retrograde.specs.Successors.{packed_cmp}
use Rattle.retrograde.specs.Units.{UnitsOfWork}
use Rattle.frontier.specs.declared.fault.StepFault.{StepFault}
use Rattle.frontier.specs.Causes.{HasUnitCause}
use Rattle.game_table.specs.Units.{AreUnits}

-- this many units of work lead from one stored table to the other, within the limit of positions
abbrev pub Works : Graph (List ℕ) → (List ℕ → Type 0) → Stored (List ℕ) → ℕ → Stored (List ℕ) → Type 0
Works graph IsWide old units new = UnitsOfWork packed_cmp graph IsWide (2 ^ 24) (view_of old) units (view_of new)

-- of the units asked of the old table these were done, one after another: all, or as many as were left to do; and the new table is locally
-- sound again
pub record AreDone (graph : Graph (List ℕ)) (IsWide : List ℕ
    → Type 0) (units : ℕ) (old : Stored (List ℕ)) (done : ℕ) (new : Stored (List ℕ)) : Type 0 where
  pub works : Works graph IsWide old done new
  pub by_units : AreUnits graph old done new
  pub all : (done ≡ units) ⊎ ((done < units) × IsFinished (view_of new))
  pub sound : IsLocallySound graph IsWide new

-- fewer units than were asked lead to a table whose next unit has this fault with its cause
pub record StopsWith (graph : Graph (List ℕ)) (IsWide : List ℕ
    → Type 0) (old : Stored (List ℕ)) (units : ℕ) (fault : StepFault) : Type 0 where
  pub done : ℕ
  pub fewer : done < units
  pub reached : Stored (List ℕ)
  pub works : Works graph IsWide old done reached
  pub sound : IsLocallySound graph IsWide reached
  pub cause : HasUnitCause graph IsWide reached fault
