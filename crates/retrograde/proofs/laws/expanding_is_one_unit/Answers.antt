use Rattle.std.proofs.lemmas.Cmp.{nat_list_cmp_total}
use Rattle.retrograde.specs.Successors.{packed_cmp}
use Rattle.retrograde.proofs.Results.{expands_works}
use Rattle.retrograde.proofs.OneResult.{bytes_decided}
use Rattle.retrograde.proofs.laws.expanding_is_one_unit.Goals as goal

pub returns : goal.returns
returns g c = λ game limit old new x ys sound leads free narrow room.
    expands_works packed_cmp nat_list_cmp_total bytes_decided (g.M.GameGraph.graph game)
    (g.M.GameGraph.is_wide game) old new sound x ys leads free narrow limit room
