use Rattle.std.proofs.Common.{◌≡◌, take, map}
use Rattle.position_pack.proofs.packed.Packing.new.Given as goal

abbrev pub invariant-loop-variable : goal.invariant-loop-variable
invariant-loop-variable l = l.bounds.items ≡ map (λ v. v.bound) (take l.variable-index l.variable-items)
