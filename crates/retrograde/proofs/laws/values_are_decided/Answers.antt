use Rattle.retrograde.proofs.Finished.{values_are_decided}
use Rattle.retrograde.proofs.laws.values_are_decided.Goals as goal

pub returns : goal.returns
returns g c = λ game a b i right_a right_b known expanded processed.
    values_are_decided (g.M.GameGraph.graph game) a b i right_a right_b known expanded processed
