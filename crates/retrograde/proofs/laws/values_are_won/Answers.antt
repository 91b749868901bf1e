use Rattle.retrograde.proofs.Finished.{values_are_won}
use Rattle.retrograde.proofs.laws.values_are_won.Goals as goal

pub returns : goal.returns
returns g c = λ game view x w n right has. values_are_won (g.M.GameGraph.graph game) view right x w n has
