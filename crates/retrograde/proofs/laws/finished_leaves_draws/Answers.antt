use Rattle.retrograde.proofs.Finished.{draws}
use Rattle.retrograde.proofs.laws.finished_leaves_draws.Goals as goal

pub returns : goal.returns
returns g c = λ game view i x right done number. draws (g.M.GameGraph.graph game) view right done i x number
