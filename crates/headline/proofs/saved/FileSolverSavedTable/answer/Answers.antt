use Rattle.solver.specs.Runs.{command_of}
use Rattle.solver.specs.Solvers.{state, IsReady}
use Rattle.headline.specs.lemmas.Causes.{short_for_told}
use Rattle.headline.proofs.Calls.{is_replied}
use Rattle.headline.proofs.saved.FileSolverSavedTable.answer.Goals as goal

pub returns-clause-answered : goal.returns-clause-answered
returns-clause-answered g c =
    let state_of = state {F = g.row.F.Denot} {Device = g.row.F-Device.Denot} {file = g.F.GameFile} {table = g.F.Table} {disk = g.F.Device.SectorDisk} in
    let ready = IsReady {F = g.row.F.Denot} {Device = g.row.F-Device.Denot} {file = g.F.GameFile} {table = g.F.Table} {disk = g.F.Device.SectorDisk} in
    is_replied g.F.GameFile.stores state_of ready c.args.self.now c.answer.new.self (command_of c.args.command.now) c.answer.result
    c.answer.ensures.left.ready c.answer.ensures.left.ahead c.answer.ensures.turn c.answer.ensures.closed

pub returns-clause-full : goal.returns-clause-full
returns-clause-full g c = λ table (here, is_open, told) honest is.
    let state_of = state {F = g.row.F.Denot} {Device = g.row.F-Device.Denot} {file = g.F.GameFile} {table = g.F.Table} {disk = g.F.Device.SectorDisk} in
    short_for_told (command_of c.args.command.now) (state_of c.args.self.now).kept table (told honest) (g.F.Table.free c.args.self.now.file)
    (c.answer.ensures.full here honest is)
