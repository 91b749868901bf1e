use Rattle.retrograde.proofs.Sound.{sound_right}
use Rattle.retrograde.proofs.laws.sound_is_right.Goals as goal

pub returns : goal.returns
returns g c = λ game stored sound. sound_right (g.M.GameGraph.graph game) (g.M.GameGraph.is_wide game) stored sound
