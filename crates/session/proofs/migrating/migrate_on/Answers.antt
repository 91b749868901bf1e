use Rattle.session.specs.Commands.{came_of}
use Rattle.session.proofs.migrating.migrate_on.Goals as goal

pub returns-clause-done : goal.returns-clause-done
returns-clause-done g c = (came_of c.brought-told.result.0, c.brought-told.ensures, c.said.ensures.refused, c.said.ensures.told)
