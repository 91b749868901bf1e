use Rattle.retrograde.proofs.Values.{one_winner}
use Rattle.retrograde.proofs.laws.one_winner.Goals as goal

pub returns : goal.returns
returns g c = λ game v w m n x. one_winner (g.M.GameGraph.graph game) v w m n x
