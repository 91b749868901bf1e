use Rattle.rbg_game.specs.Goals.{points_of}
use Rattle.solver.specs.Machine.{load}
use Rattle.solver.specs.declared.replies.Reply.TheVariants.{Loaded}
use Rattle.solver.specs.Solvers.{state, IsReady}
use Rattle.headline.proofs.Calls.{is_command}
use Rattle.headline.proofs.saved.FileSolverSavedTable.load.Goals as goal

pub returns : goal.returns
returns g c =
    let state_of = state {F = g.row.F.Denot} {Device = g.row.F-Device.Denot} {file = g.F.GameFile} {table = g.F.Table} {disk = g.F.Device.SectorDisk} in
    let ready = IsReady {F = g.row.F.Denot} {Device = g.row.F-Device.Denot} {file = g.F.GameFile} {table = g.F.Table} {disk = g.F.Device.SectorDisk} in
    is_command g.F.GameFile.stores state_of ready c.args.self.now c.load.new.self c.load.result (load c.args.text.now (points_of c.args.goal)) (λ _. Loaded)
    c.load.ensures.left.ready c.load.ensures.left.ahead c.load.ensures.done c.load.ensures.err.refused c.load.ensures.err.closed
