use Rattle.solver.specs.Queries.{FindCause}
use Rattle.solver.specs.Solvers.{state, IsReady}
use Rattle.headline.specs.Tables.{of_text}
use Rattle.headline.specs.lemmas.Questions.{why_find}
use Rattle.headline.proofs.Calls.{is_question, tells_value_of}
use Rattle.headline.proofs.saved.FileSolverSavedTable.find_value.Goals as goal

pub returns-clause-asked : goal.returns-clause-asked
returns-clause-asked g c =
    let state_of = state {F = g.row.F.Denot} {Device = g.row.F-Device.Denot} {file = g.F.GameFile} {table = g.F.Table} {disk = g.F.Device.SectorDisk} in
    let ready = IsReady {F = g.row.F.Denot} {Device = g.row.F-Device.Denot} {file = g.F.GameFile} {table = g.F.Table} {disk = g.F.Device.SectorDisk} in
    is_question g.F.GameFile.stores state_of ready c.args.self.now c.find_value.new.self c.find_value.result
    (FindCause c.args.text.now (state_of c.args.self.now) (state_of c.find_value.new.self))
    of_text (λ t told h o. why_find (state_of c.args.self.now) (state_of c.find_value.new.self) t told h o c.args.text.now)
    c.find_value.ensures.left.ready c.find_value.ensures.left.asked c.find_value.ensures.err.closed (λ it. it) c.find_value.ensures.err.cause

pub returns-clause-told : goal.returns-clause-told
returns-clause-told g c =
    let state_of = state {F = g.row.F.Denot} {Device = g.row.F-Device.Denot} {file = g.F.GameFile} {table = g.F.Table} {disk = g.F.Device.SectorDisk} in
    let ready = IsReady {F = g.row.F.Denot} {Device = g.row.F-Device.Denot} {file = g.F.GameFile} {table = g.F.Table} {disk = g.F.Device.SectorDisk} in
    tells_value_of state_of ready c.args.self.now c.find_value.result c.args.text.now c.find_value.ensures.value
