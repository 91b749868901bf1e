use Rattle.headline.proofs.Calls.{each_err, open_failed}
use Rattle.headline.proofs.saved.FileSolverSavedTable.open.Goals as goal

pub returns-clause-failed : goal.returns-clause-failed
returns-clause-failed g c =
    each_err c.open.result _ _
    (λ back it. open_failed g.F.GameFile.stores (g.F.Device.SectorDisk.disk c.args.disk) (g.F.Device.SectorDisk.failures c.args.disk)
    (g.F.Device.SectorDisk.failures back.disk) back.fault it.cause)
    c.open.ensures.err
