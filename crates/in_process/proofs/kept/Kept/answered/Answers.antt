use Rattle.std.proofs.Common.{subst}
use Rattle.in_process.specs.Kept.{IsLeftIn}
use Rattle.in_process.specs.Lines.{IsAnsweredOn}
use Rattle.in_process.proofs.kept.Kept.answered.Goals as goal

pub returns-in-Err-clause-answered : goal.returns-in-Err-clause-answered
returns-in-Err-clause-answered c = λ askable. IsAnsweredOn.unopened c.in-Err.refused.fault c.in-Err.ensures.refused c.said_refused-status.ensures.told

pub returns-clause-answered : goal.returns-clause-answered
returns-clause-answered c = λ askable.
    let (ready, honest) = c.in-Ok.ensures.ready askable in
    let (read, ends, cut, session, same) = c.lines_on-status.ensures.came ready honest in
    IsAnsweredOn.answered c.in-Ok.solver.file ends read _ _ cut c.in-Ok.ensures.found (rw c.new-moments.ensures at session)
    (subst (λ s. IsLeftIn s c.lines_on-status.result c.left.result) same c.left.ensures.left)
