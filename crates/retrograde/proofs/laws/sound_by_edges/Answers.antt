use Rattle.retrograde.proofs.ByEdges.{edges_from_sound, sound_from_edges}
use Rattle.retrograde.proofs.laws.sound_by_edges.Goals as goal

pub returns : goal.returns
returns g c = λ game stored table.
    (edges_from_sound (g.M.GameGraph.graph game) stored table, sound_from_edges (g.M.GameGraph.graph game) stored table)
