use Rattle.retrograde.specs.Successors.{packed_cmp}
use Rattle.retrograde.proofs.Units.{settled_stays}
use Rattle.retrograde.proofs.laws.settled_stays.Goals as goal

pub returns : goal.returns
returns g c = λ game a b limit u x w n works has.
    settled_stays packed_cmp (g.M.GameGraph.graph game) (g.M.GameGraph.is_wide game) limit a b u works x w n has
