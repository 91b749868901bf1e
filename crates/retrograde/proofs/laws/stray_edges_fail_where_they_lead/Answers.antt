use Rattle.retrograde.proofs.Verdicts.{moves_alike, stray_fails}
use Rattle.retrograde.proofs.laws.stray_edges_fail_where_they_lead.Goals as goal

pub returns : goal.returns
returns g c = record {
  leads = λ game stored i p x y x_at edge stray it. stray_fails (g.M.GameGraph.graph game) stored i p x y x_at edge stray it;
  begins = λ game a b p x positions records edges. moves_alike (g.M.GameGraph.graph game) a b p x positions records edges;
}
