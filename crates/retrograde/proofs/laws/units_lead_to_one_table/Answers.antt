use Rattle.std.proofs.lemmas.Cmp.{nat_list_cmp_total}
use Rattle.retrograde.specs.Successors.{packed_cmp}
use Rattle.retrograde.proofs.OneResult.{expands_once, settles_once}
use Rattle.retrograde.proofs.laws.units_lead_to_one_table.Goals as goal

pub returns : goal.returns
returns g c = record {
  expands = λ game old a b x ys table to_a to_b. expands_once packed_cmp nat_list_cmp_total (g.M.GameGraph.graph game) old table x ys a b to_a to_b;
  settles = λ game old a b s r w table to_a to_b. settles_once (g.M.GameGraph.graph game) old table s r w a b to_a to_b;
}
