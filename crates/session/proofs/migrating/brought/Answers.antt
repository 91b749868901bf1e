use Rattle.session.proofs.Brought.{brought_so}
use Rattle.session.proofs.migrating.brought.Goals as goal

pub returns-in-Ok : goal.returns-in-Ok
returns-in-Ok g c = brought_so g.First.EarlierFile.stores g.Second.EarlierFile.stores g.Today.GameFile.stores _ _ _ _ c.in-Ok.which c.in-Ok.ensures.migrated
    c.in-Ok.ensures.current
