use Rattle.std.proofs.Common.{◌≡◌, ◌-◌, replicate}
use Rattle.position_pack.proofs.fields.greatest_of.Given as goal

abbrev pub invariant-loop-vertex : goal.invariant-loop-vertex
invariant-loop-vertex l = l.greatest.items ≡ replicate l._vertex (l.fn.pieces - 1)
