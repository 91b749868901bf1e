use Rattle.std.proofs.Common.{take}
use Rattle.audit.proofs.ValueLemmas.{IsFarthestSoFar}
use Rattle.audit.proofs.values.farthest.Given as goal

abbrev pub invariant-loop-kept : goal.invariant-loop-kept
invariant-loop-kept l = IsFarthestSoFar (take l.kept-index l.records) l.most
