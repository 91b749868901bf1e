use Rattle.std.proofs.Common.{◌≡◌, drop, map}
use Rattle.rbg_read.specs.Causes.{has_repeat}
use Rattle.rbg_read.proofs.names.has_repeat.Given as goal

abbrev pub invariant-loop-at : goal.invariant-loop-at
invariant-loop-at l = has_repeat (map (λ w. w.now) l.names) ≡ has_repeat (map (λ w. w.now) (drop l.at l.names))
