use Rattle.std.proofs.Common.{◌≡◌, drop, map}
use Rattle.rbg_read.specs.Causes.{has_repeat}
use Rattle.rbg_read.proofs.repeats.repeats_label.Given as goal

abbrev pub invariant-loop-at : goal.invariant-loop-at
invariant-loop-at l = has_repeat (map (λ a. a.label.now) l.arrows) ≡ has_repeat (map (λ a. a.label.now) (drop l.at l.arrows))
