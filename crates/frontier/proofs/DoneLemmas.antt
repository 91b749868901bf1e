-- What is so of a table to which a unit leads.
use Rattle.std.proofs.Common.{◌^◌, ℕ, List}
use Rattle.retrograde.specs.Graph.{Graph}
use Rattle.retrograde.specs.Right.{IsRight}
use Rattle.retrograde.specs.Stored.{Stored, view_of}
use Rattle.retrograde.specs.Sound.{IsLocallySound}
use Rattle.retrograde.specs.Successors.{packed_cmp}
use Rattle.retrograde.specs.Units.{UnitsOfWork}
use Rattle.retrograde.proofs.Finished.{draws, reach_is_known}
use Rattle.retrograde.proofs.Sound.{sound_right}
use Rattle.frontier.specs.Done.{IsUnitDone}

pub unit_done : (graph : Graph (List ℕ)) (IsWide : List ℕ → Type 0) (old new : Stored (List ℕ)) → IsLocallySound graph IsWide new
    → UnitsOfWork packed_cmp graph IsWide (2 ^ 24) (view_of old) 1 (view_of new) → IsUnitDone graph IsWide old new
unit_done graph IsWide old new sound step =
    let right : IsRight graph (view_of new) = sound_right graph IsWide new sound in
    record {
      step = step;
      sound = sound;
      right = right;
      reached = λ finished x. (right.moves.reached x, reach_is_known graph (view_of new) right finished x);
      drawn = λ finished i x number. draws graph (view_of new) right finished i x number;
    }
