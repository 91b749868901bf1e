use Rattle.solver.specs.Queries.{ShowCause}
use Rattle.solver.specs.Solvers.{state, IsReady}
use Rattle.headline.specs.Tables.{of_number}
use Rattle.headline.specs.lemmas.Questions.{why_show}
use Rattle.headline.proofs.Calls.{is_question, tells_text}
use Rattle.headline.proofs.saved.FileSolverSavedTable.show.Goals as goal

pub returns-clause-asked : goal.returns-clause-asked
returns-clause-asked g c =
    let state_of = state {F = g.row.F.Denot} {Device = g.row.F-Device.Denot} {file = g.F.GameFile} {table = g.F.Table} {disk = g.F.Device.SectorDisk} in
    let ready = IsReady {F = g.row.F.Denot} {Device = g.row.F-Device.Denot} {file = g.F.GameFile} {table = g.F.Table} {disk = g.F.Device.SectorDisk} in
    is_question g.F.GameFile.stores state_of ready c.args.self.now c.show.new.self c.show.result
    (ShowCause c.args.number (state_of c.args.self.now) (state_of c.show.new.self))
    (of_number c.args.number) (λ t told h o. why_show (state_of c.args.self.now) (state_of c.show.new.self) t told h o c.args.number)
    c.show.ensures.left.ready c.show.ensures.left.asked c.show.ensures.err.closed (λ it. it) c.show.ensures.err.cause

pub returns-clause-told : goal.returns-clause-told
returns-clause-told g c =
    let state_of = state {F = g.row.F.Denot} {Device = g.row.F-Device.Denot} {file = g.F.GameFile} {table = g.F.Table} {disk = g.F.Device.SectorDisk} in
    let ready = IsReady {F = g.row.F.Denot} {Device = g.row.F-Device.Denot} {file = g.F.GameFile} {table = g.F.Table} {disk = g.F.Device.SectorDisk} in
    tells_text state_of ready c.args.self.now c.show.result (λ text. c.args.number) (λ text. text.items) c.show.ensures.text
