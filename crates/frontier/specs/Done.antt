-- What a unit of work has done on a table that was locally sound.
use Rattle.std.specs.Prelude.{◌≡◌, ◌↔◌, ◌^◌, ℕ, List, None}
use Rattle.retrograde.specs.Graph.{Graph, IsReachable}
use Rattle.retrograde.specs.Values.{Drawn}
use Rattle.retrograde.specs.View.{HasNumber, IsKnown, IsFinished}
use Rattle.retrograde.specs.Right.{IsRight}
use Rattle.retrograde.specs.Stored.{Stored, view_of}
use Rattle.retrograde.specs.Sound.{IsLocallySound}
use Rattle.retrograde.specs.Successors.{packed_cmp}
use Rattle.retrograde.specs.Units.{UnitsOfWork}

-- one unit leads from the old table to the new, which is locally sound again, and right; where it is finished, it knows the
-- reachable positions, and those without a value are the drawn ones
pub record IsUnitDone (graph : Graph (List ℕ)) (IsWide : List ℕ → Type 0) (old new : Stored (List ℕ)) : Type 0 where
  pub step : UnitsOfWork packed_cmp graph IsWide (2 ^ 24) (view_of old) 1 (view_of new)
  pub sound : IsLocallySound graph IsWide new
  pub right : IsRight graph (view_of new)
  pub reached : IsFinished (view_of new) → (x : List ℕ) → IsKnown (view_of new) x ↔ IsReachable graph x
  pub drawn : IsFinished (view_of new) → (i : ℕ) (x : List ℕ) → HasNumber (view_of new) i x → ((view_of new).value i ≡ None) ↔ Drawn graph x
