use Rattle.retrograde.proofs.Local.{right}
use Rattle.retrograde.proofs.laws.local_values_are_right.Goals as goal

pub returns : goal.returns
returns g c = λ game view it. right (g.M.GameGraph.graph game) view it.coherent it.moves it.order it.local it.keeper
