use Rattle.std.proofs.Common.{inr}
use Rattle.session.specs.Commands.{came_of}
use Rattle.session.proofs.Audits.{audit_of_done}
use Rattle.session.proofs.texts.audited_on.Goals as goal

pub audited_about-requires-clause-open : goal.audited_about-requires-clause-open
audited_about-requires-clause-open g c = c.in-Ok.ensures.ok.opened.is_open

pub returns-in-Ok : goal.returns-in-Ok
returns-in-Ok g c = audit_of_done _ _ _ _ _ _ _ _ c.in-Ok.ensures.ok.opened c.audited_about.ensures.asked
    (record { disk = c.close.ensures.disk; failures = c.close.ensures.failures }) (came_of c.audited_about.result) c.audited_about.ensures.came

pub returns-in-Err : goal.returns-in-Err
returns-in-Err g c = inr (c.in-Err.ensures.err.refused, c.in-Err.ensures.err.cause)
