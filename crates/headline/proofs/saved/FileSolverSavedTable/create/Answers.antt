use Rattle.headline.proofs.Calls.{each_err, create_failed}
use Rattle.headline.proofs.saved.FileSolverSavedTable.create.Goals as goal

pub returns-clause-refused : goal.returns-clause-refused
returns-clause-refused g c =
    each_err c.create.result _ _ (λ back it. it.from.goes_on) c.create.ensures.refused

pub returns-clause-failed : goal.returns-clause-failed
returns-clause-failed g c =
    each_err c.create.result _ _
    (λ back it. create_failed (g.F.Device.SectorDisk.disk c.args.disk) (g.F.Device.SectorDisk.failures c.args.disk)
    (g.F.Device.SectorDisk.failures back.disk) back.fault it)
    c.create.ensures.cause
