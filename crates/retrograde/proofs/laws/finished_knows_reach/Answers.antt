use Rattle.retrograde.proofs.Finished.{reach_is_known}
use Rattle.retrograde.proofs.laws.finished_knows_reach.Goals as goal

pub returns : goal.returns
returns g c = λ game view x right done.
    (right.moves.reached x, reach_is_known (g.M.GameGraph.graph game) view right done x)
