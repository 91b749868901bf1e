use Rattle.std.proofs.Common.{◌≤◌}
use Rattle.explanations.proofs.explain.is_over.Given as goal

abbrev pub invariant-loop-digit : goal.invariant-loop-digit
invariant-loop-digit l = l.number ≤ 1000001
