use Rattle.retrograde.proofs.RightExpansion.{expanding}
use Rattle.retrograde.proofs.laws.expanding_keeps.Goals as goal

pub returns : goal.returns
returns g c = λ game old new x was step. expanding (g.M.GameGraph.graph game) old new x was step
