use Rattle.solver.specs.Queries.{FindCause}
use Rattle.solver.specs.Solvers.{state, IsReady}
use Rattle.headline.specs.Tables.{of_text}
use Rattle.headline.specs.lemmas.Questions.{why_find}
use Rattle.headline.proofs.Calls.{is_question, tells_text}
use Rattle.headline.proofs.saved.FileSolverSavedTable.find.Goals as goal

pub returns-clause-asked : goal.returns-clause-asked
returns-clause-asked g c =
    let state_of = state {F = g.row.F.Denot} {Device = g.row.F-Device.Denot} {file = g.F.GameFile} {table = g.F.Table} {disk = g.F.Device.SectorDisk} in
    let ready = IsReady {F = g.row.F.Denot} {Device = g.row.F-Device.Denot} {file = g.F.GameFile} {table = g.F.Table} {disk = g.F.Device.SectorDisk} in
    is_question g.F.GameFile.stores state_of ready c.args.self.now c.find.new.self c.find.result
    (FindCause c.args.text.now (state_of c.args.self.now) (state_of c.find.new.self))
    of_text (λ t told h o. why_find (state_of c.args.self.now) (state_of c.find.new.self) t told h o c.args.text.now)
    c.find.ensures.left.ready c.find.ensures.left.asked c.find.ensures.err.closed (λ it. it) c.find.ensures.err.cause

pub returns-clause-told : goal.returns-clause-told
returns-clause-told g c =
    let state_of = state {F = g.row.F.Denot} {Device = g.row.F-Device.Denot} {file = g.F.GameFile} {table = g.F.Table} {disk = g.F.Device.SectorDisk} in
    let ready = IsReady {F = g.row.F.Denot} {Device = g.row.F-Device.Denot} {file = g.F.GameFile} {table = g.F.Table} {disk = g.F.Device.SectorDisk} in
    tells_text state_of ready c.args.self.now c.find.result (λ number. number) (λ number. c.args.text.now) c.find.ensures.number
