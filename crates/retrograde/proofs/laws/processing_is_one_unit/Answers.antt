use Rattle.retrograde.specs.Successors.{packed_cmp}
use Rattle.retrograde.proofs.Results.{settles_works}
use Rattle.retrograde.proofs.laws.processing_is_one_unit.Goals as goal

pub returns : goal.returns
returns g c = λ game limit old new s r w sound full room leads.
    settles_works (g.M.GameGraph.graph game) (g.M.GameGraph.is_wide game) old new sound full s r w leads packed_cmp limit room
