use Rattle.std.proofs.Common.{None}
use Rattle.witness.proofs.Told.{load_refused}
use Rattle.witness.proofs.sittings.load.Goals as goal

pub returns-in-Err-clause-fault : goal.returns-in-Err-clause-fault
returns-in-Err-clause-fault g c =
    load_refused g.F.GameFile.stores _ None _ _ c.in-Err.fault c.text.ensures c.requires.table (c.status.ensures.none.0 c.in-None.is)
    (c.in-Err.ensures.err.refused c.requires.ready)
