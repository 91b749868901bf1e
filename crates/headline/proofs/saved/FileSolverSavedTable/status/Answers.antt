use Rattle.solver.specs.Solvers.{state, IsReady}
use Rattle.headline.proofs.Calls.{tells_status}
use Rattle.headline.proofs.saved.FileSolverSavedTable.status.Goals as goal

pub returns : goal.returns
returns g c =
    let state_of = state {F = g.row.F.Denot} {Device = g.row.F-Device.Denot} {file = g.F.GameFile} {table = g.F.Table} {disk = g.F.Device.SectorDisk} in
    let ready = IsReady {F = g.row.F.Denot} {Device = g.row.F-Device.Denot} {file = g.F.GameFile} {table = g.F.Table} {disk = g.F.Device.SectorDisk} in
    tells_status state_of ready c.args.self.now c.status.result c.status.ensures.counts
