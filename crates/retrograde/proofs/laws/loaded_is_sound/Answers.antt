use Rattle.retrograde.proofs.FirstTable.{loaded_sound}
use Rattle.retrograde.proofs.laws.loaded_is_sound.Goals as goal

pub returns : goal.returns
returns g c = λ game. loaded_sound (g.M.GameGraph.graph game) (g.M.GameGraph.is_wide game)
