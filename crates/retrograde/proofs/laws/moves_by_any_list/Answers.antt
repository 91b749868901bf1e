use Rattle.retrograde.proofs.ByEdges.{moves_by_list}
use Rattle.retrograde.proofs.laws.moves_by_any_list.Goals as goal

pub returns : goal.returns
returns g c = λ game stored i x ys js table are. moves_by_list (g.M.GameGraph.graph game) stored table i x ys js are
