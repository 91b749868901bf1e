use Rattle.retrograde.specs.Successors.{packed_cmp}
use Rattle.retrograde.proofs.Units.{works_alone, works_along}
use Rattle.retrograde.proofs.laws.units_add_up.Goals as goal

pub returns : goal.returns
returns g c = record {
  none = λ game a limit right room. works_alone packed_cmp (g.M.GameGraph.graph game) (g.M.GameGraph.is_wide game) limit a right room;
  more = λ game a b c limit m n first second.
      works_along packed_cmp (g.M.GameGraph.graph game) (g.M.GameGraph.is_wide game) limit a b c m n first second;
}
