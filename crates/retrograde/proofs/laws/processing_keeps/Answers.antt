use Rattle.retrograde.proofs.Process.{processing}
use Rattle.retrograde.proofs.laws.processing_keeps.Goals as goal

pub returns : goal.returns
returns g c = λ game old new s w d was step. processing (g.M.GameGraph.graph game) old new s w d was step
