use Rattle.retrograde.proofs.Results.{settles_sound}
use Rattle.retrograde.proofs.laws.processing_keeps_sound.Goals as goal

pub returns : goal.returns
returns g c = λ game old new s r w sound full leads. settles_sound (g.M.GameGraph.graph game) (g.M.GameGraph.is_wide game) old new sound full s r w leads
