use Rattle.std.proofs.Common.{◌≡◌, take, map}
use Rattle.rbg_read.proofs.names.names_of_vertices.Given as goal

abbrev pub invariant-loop-vertex : goal.invariant-loop-vertex
invariant-loop-vertex l = map (λ w. w.now) l.names.items ≡ map (λ v. v.name.now) (take l.vertex-index l.vertices)
