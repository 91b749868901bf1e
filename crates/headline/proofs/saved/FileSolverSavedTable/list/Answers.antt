use Rattle.solver.specs.Queries.{NumberCause}
use Rattle.solver.specs.Units.{units_in}
use Rattle.solver.specs.Solvers.{state, IsReady}
use Rattle.headline.specs.Tables.{of_number}
use Rattle.headline.specs.lemmas.Questions.{why_number}
use Rattle.headline.proofs.Calls.{is_question, tells_rows}
use Rattle.headline.proofs.saved.FileSolverSavedTable.list.Goals as goal

pub returns-clause-asked : goal.returns-clause-asked
returns-clause-asked g c =
    let state_of = state {F = g.row.F.Denot} {Device = g.row.F-Device.Denot} {file = g.F.GameFile} {table = g.F.Table} {disk = g.F.Device.SectorDisk} in
    let ready = IsReady {F = g.row.F.Denot} {Device = g.row.F-Device.Denot} {file = g.F.GameFile} {table = g.F.Table} {disk = g.F.Device.SectorDisk} in
    is_question g.F.GameFile.stores state_of ready c.args.self.now c.list.new.self c.list.result
    (NumberCause c.args.from (state_of c.args.self.now) (state_of c.list.new.self))
    (of_number c.args.from) (λ t told h o. why_number (state_of c.args.self.now) (state_of c.list.new.self) t told h o c.args.from)
    c.list.ensures.left.ready c.list.ensures.left.asked c.list.ensures.err.closed (λ it. it) c.list.ensures.err.cause

pub returns-clause-told : goal.returns-clause-told
returns-clause-told g c =
    let state_of = state {F = g.row.F.Denot} {Device = g.row.F-Device.Denot} {file = g.F.GameFile} {table = g.F.Table} {disk = g.F.Device.SectorDisk} in
    let ready = IsReady {F = g.row.F.Denot} {Device = g.row.F-Device.Denot} {file = g.F.GameFile} {table = g.F.Table} {disk = g.F.Device.SectorDisk} in
    tells_rows state_of ready c.args.self.now c.list.result c.args.from (units_in c.args.count) (λ rows. rows.items) c.list.ensures.rows
