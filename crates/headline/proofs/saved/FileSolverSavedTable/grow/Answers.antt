use Rattle.solver.specs.Growth.{GrowthCause}
use Rattle.solver.specs.Solvers.{state, IsReady}
use Rattle.headline.proofs.Calls.{is_reply, has_grown, grown_so, not_grown}
use Rattle.headline.proofs.saved.FileSolverSavedTable.grow.Goals as goal

pub returns-clause-reply : goal.returns-clause-reply
returns-clause-reply g c =
    let state_of = state {F = g.row.F.Denot} {Device = g.row.F-Device.Denot} {file = g.F.GameFile} {table = g.F.Table} {disk = g.F.Device.SectorDisk} in
    let ready = IsReady {F = g.row.F.Denot} {Device = g.row.F-Device.Denot} {file = g.F.GameFile} {table = g.F.Table} {disk = g.F.Device.SectorDisk} in
    is_reply g.F.GameFile.stores state_of ready c.args.self.now c.grow.new.self c.grow.result
    (GrowthCause c.args.pages (state_of c.args.self.now) (state_of c.grow.new.self)) (λ closed. (c.grow.ensures.err.closed closed).0) (λ it. it)
    (λ _. c.grow.ensures.err.cause)

pub returns-clause-grown : goal.returns-clause-grown
returns-clause-grown g c =
    let state_of = state {F = g.row.F.Denot} {Device = g.row.F-Device.Denot} {file = g.F.GameFile} {table = g.F.Table} {disk = g.F.Device.SectorDisk} in
    let ready = IsReady {F = g.row.F.Denot} {Device = g.row.F-Device.Denot} {file = g.F.GameFile} {table = g.F.Table} {disk = g.F.Device.SectorDisk} in
    grown_so g.F.GameFile.stores state_of ready c.args.self.now c.grow.new.self c.grow.result c.args.pages c.grow.ensures.left.ready c.grow.ensures.left.ahead
    c.grow.ensures.growth c.grow.ensures.err.closed c.grow.ensures.grown

pub returns-clause-refused : goal.returns-clause-refused
returns-clause-refused g c =
    let state_of = state {F = g.row.F.Denot} {Device = g.row.F-Device.Denot} {file = g.F.GameFile} {table = g.F.Table} {disk = g.F.Device.SectorDisk} in
    let ready = IsReady {F = g.row.F.Denot} {Device = g.row.F-Device.Denot} {file = g.F.GameFile} {table = g.F.Table} {disk = g.F.Device.SectorDisk} in
    not_grown g.F.GameFile.stores state_of ready c.args.self.now c.grow.new.self c.grow.result c.args.pages c.grow.ensures.err.refused

pub returns-clause-either : goal.returns-clause-either
returns-clause-either g c =
    let state_of = state {F = g.row.F.Denot} {Device = g.row.F-Device.Denot} {file = g.F.GameFile} {table = g.F.Table} {disk = g.F.Device.SectorDisk} in
    let ready = IsReady {F = g.row.F.Denot} {Device = g.row.F-Device.Denot} {file = g.F.GameFile} {table = g.F.Table} {disk = g.F.Device.SectorDisk} in
    has_grown g.F.GameFile.stores state_of ready c.args.self.now c.grow.new.self c.grow.result c.args.pages c.grow.ensures.left.ready c.grow.ensures.left.ahead
    c.grow.ensures.growth c.grow.ensures.err.closed
