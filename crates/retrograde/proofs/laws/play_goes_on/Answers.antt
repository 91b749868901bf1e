use Rattle.retrograde.proofs.Play.{goes_on}
use Rattle.retrograde.proofs.laws.play_goes_on.Goals as goal

pub returns : goal.returns
returns g c = λ game view x w n right has none. goes_on (g.M.GameGraph.graph game) view right x w n has none
