use Rattle.std.proofs.Common.{ℕ, List}
use Rattle.retrograde.specs.View.{HasNumber}
use Rattle.retrograde.specs.Stored.{Stored, view_of}
use Rattle.retrograde.specs.Sound.{IsLocallySound}
use Rattle.retrograde.specs.Graph.{Graph}
use Rattle.retrograde.proofs.Finished.{values_are_won, draws}
use Rattle.retrograde.proofs.Sound.{sound_right}
use Rattle.best_line.specs.declared.answers.Value.{Value}
use Rattle.best_line.specs.declared.answers.Value.TheVariants.{Won, Drawn, Open}
use Rattle.best_line.specs.Values.{IsValue}
use Rattle.best_line.specs.Laws.{IsSo}
use Rattle.best_line.proofs.laws.values_are_so.Goals as goal

so : (graph : Graph (List ℕ)) (IsWide : List ℕ → Type 0) (stored : Stored (List ℕ)) (i : ℕ) (x : List ℕ) (value : Value)
    → IsLocallySound graph IsWide stored → HasNumber (view_of stored) i x → IsValue (view_of stored) i value → IsSo graph x value
so graph IsWide stored i x (Won w n) sound number is = values_are_won graph (view_of stored) (sound_right graph IsWide stored sound) x w n (i, number, is)
so graph IsWide stored i x Drawn sound number (none, finished) =
    (draws graph (view_of stored) (sound_right graph IsWide stored sound) finished i x number).0 none
so graph IsWide stored i x Open sound number is = tt

pub returns : goal.returns
returns g c = λ game stored i x value sound number is. so (g.M.GameGraph.graph game) (g.M.GameGraph.is_wide game) stored i x value sound number is
