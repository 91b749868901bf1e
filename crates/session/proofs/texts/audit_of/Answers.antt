use Rattle.session.specs.Commands.{came_of}
use Rattle.session.proofs.texts.audit_of.Goals as goal

pub returns-clause-done : goal.returns-clause-done
returns-clause-done g c = (came_of c.audited_on-told.result.0, c.audited_on-told.ensures, c.said.ensures.refused, c.said.ensures.told)
