use Rattle.retrograde.proofs.Verdicts.{one_verdict}
use Rattle.retrograde.proofs.laws.one_verdict.Goals as goal

pub returns : goal.returns
returns g c = λ game stored v w. one_verdict (g.M.GameGraph.graph game) stored v w
