use Rattle.retrograde.proofs.Play.{play_length}
use Rattle.retrograde.proofs.laws.play_has_its_length.Goals as goal

pub returns : goal.returns
returns g c = λ game w n xs play. play_length (g.M.GameGraph.graph game) w n xs play
