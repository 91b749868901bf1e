use Rattle.solver.specs.Queries.{NumberCause}
use Rattle.solver.specs.Solvers.{state, IsReady}
use Rattle.headline.specs.Tables.{of_number}
use Rattle.headline.specs.lemmas.Questions.{why_number}
use Rattle.headline.proofs.Calls.{is_question, tells_value}
use Rattle.headline.proofs.saved.FileSolverSavedTable.value.Goals as goal

pub returns-clause-asked : goal.returns-clause-asked
returns-clause-asked g c =
    let state_of = state {F = g.row.F.Denot} {Device = g.row.F-Device.Denot} {file = g.F.GameFile} {table = g.F.Table} {disk = g.F.Device.SectorDisk} in
    let ready = IsReady {F = g.row.F.Denot} {Device = g.row.F-Device.Denot} {file = g.F.GameFile} {table = g.F.Table} {disk = g.F.Device.SectorDisk} in
    is_question g.F.GameFile.stores state_of ready c.args.self.now c.value.new.self c.value.result
    (NumberCause c.args.number (state_of c.args.self.now) (state_of c.value.new.self))
    (of_number c.args.number) (λ t told h o. why_number (state_of c.args.self.now) (state_of c.value.new.self) t told h o c.args.number)
    c.value.ensures.left.ready c.value.ensures.left.asked c.value.ensures.err.closed (λ it. it) c.value.ensures.err.cause

pub returns-clause-told : goal.returns-clause-told
returns-clause-told g c =
    let state_of = state {F = g.row.F.Denot} {Device = g.row.F-Device.Denot} {file = g.F.GameFile} {table = g.F.Table} {disk = g.F.Device.SectorDisk} in
    let ready = IsReady {F = g.row.F.Denot} {Device = g.row.F-Device.Denot} {file = g.F.GameFile} {table = g.F.Table} {disk = g.F.Device.SectorDisk} in
    tells_value state_of ready c.args.self.now c.value.result c.args.number c.value.ensures.value
