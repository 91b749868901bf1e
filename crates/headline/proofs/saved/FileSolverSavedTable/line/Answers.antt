use Rattle.solver.specs.Queries.{LineCause}
use Rattle.solver.specs.Solvers.{state, IsReady}
use Rattle.headline.specs.Tables.{of_line}
use Rattle.headline.specs.lemmas.Questions.{why_line}
use Rattle.headline.proofs.Calls.{is_question, tells_line}
use Rattle.headline.proofs.saved.FileSolverSavedTable.line.Goals as goal

pub returns-clause-asked : goal.returns-clause-asked
returns-clause-asked g c =
    let state_of = state {F = g.row.F.Denot} {Device = g.row.F-Device.Denot} {file = g.F.GameFile} {table = g.F.Table} {disk = g.F.Device.SectorDisk} in
    let ready = IsReady {F = g.row.F.Denot} {Device = g.row.F-Device.Denot} {file = g.F.GameFile} {table = g.F.Table} {disk = g.F.Device.SectorDisk} in
    is_question g.F.GameFile.stores state_of ready c.args.self.now c.line.new.self c.line.result
    (LineCause c.args.number (state_of c.args.self.now) (state_of c.line.new.self))
    (of_line c.args.number) (λ t told h o. why_line (state_of c.args.self.now) (state_of c.line.new.self) t told h o c.args.number)
    c.line.ensures.left.ready c.line.ensures.left.asked c.line.ensures.err.closed (λ it. it) c.line.ensures.err.cause

pub returns-clause-told : goal.returns-clause-told
returns-clause-told g c =
    let state_of = state {F = g.row.F.Denot} {Device = g.row.F-Device.Denot} {file = g.F.GameFile} {table = g.F.Table} {disk = g.F.Device.SectorDisk} in
    let ready = IsReady {F = g.row.F.Denot} {Device = g.row.F-Device.Denot} {file = g.F.GameFile} {table = g.F.Table} {disk = g.F.Device.SectorDisk} in
    tells_line state_of ready c.args.self.now c.line.result c.args.number (λ numbers. numbers.items) c.line.ensures.line
