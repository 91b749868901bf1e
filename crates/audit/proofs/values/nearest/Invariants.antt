use Rattle.std.proofs.Common.{take}
use Rattle.audit.specs.lemmas.Records.{IsNearest}
use Rattle.audit.proofs.values.nearest.Given as goal

abbrev pub invariant-loop-kept : goal.invariant-loop-kept
invariant-loop-kept l = IsNearest (take l.kept-index l.records) l.player l.least
