use Rattle.std.proofs.Common.{◌≡◌, map, take}
use Rattle.legal_moves.proofs.compiled.Compiled.start.Given as goal

abbrev pub invariant-loop-vertex : goal.invariant-loop-vertex
invariant-loop-vertex l = l.pieces.items ≡ map (λ v. v.piece) (take l.vertex-index l.vertex-items)

abbrev pub invariant-loop-variable : goal.invariant-loop-variable
invariant-loop-variable l = l.values.items ≡ map (λ v. 0) (take l._variable-index l._variable-items)
