use Rattle.solver.specs.Moves.{MovesCause}
use Rattle.solver.specs.Solvers.{state, IsReady}
use Rattle.headline.specs.Tables.{of_moves}
use Rattle.headline.specs.lemmas.Questions.{why_moves}
use Rattle.headline.proofs.Calls.{is_question}
use Rattle.headline.proofs.saved.FileSolverSavedTable.moves.Goals as goal

pub returns : goal.returns
returns g c =
    let state_of = state {F = g.row.F.Denot} {Device = g.row.F-Device.Denot} {file = g.F.GameFile} {table = g.F.Table} {disk = g.F.Device.SectorDisk} in
    let ready = IsReady {F = g.row.F.Denot} {Device = g.row.F-Device.Denot} {file = g.F.GameFile} {table = g.F.Table} {disk = g.F.Device.SectorDisk} in
    is_question g.F.GameFile.stores state_of ready c.args.self.now c.moves.new.self c.moves.result
    (MovesCause c.args.number (state_of c.args.self.now) (state_of c.moves.new.self))
    (of_moves c.args.number) (λ t told h o. why_moves (state_of c.args.self.now) (state_of c.moves.new.self) t told h o c.args.number)
    c.moves.ensures.left.ready c.moves.ensures.left.asked c.moves.ensures.err.closed (λ it. it) c.moves.ensures.err.cause
