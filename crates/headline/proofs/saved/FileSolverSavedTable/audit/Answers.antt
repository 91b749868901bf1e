use Rattle.audit.specs.declared.verdict.Verdict.TheVariants.{Right}
use Rattle.solver.specs.Audits.{AuditCause}
use Rattle.solver.specs.Solvers.{state, IsReady}
use Rattle.headline.specs.Tables.{of_all}
use Rattle.headline.specs.lemmas.Questions.{why_audit}
use Rattle.headline.proofs.Calls.{is_question, is_right}
use Rattle.headline.proofs.saved.FileSolverSavedTable.audit.Goals as goal

pub returns-clause-asked : goal.returns-clause-asked
returns-clause-asked g c =
    let state_of = state {F = g.row.F.Denot} {Device = g.row.F-Device.Denot} {file = g.F.GameFile} {table = g.F.Table} {disk = g.F.Device.SectorDisk} in
    let ready = IsReady {F = g.row.F.Denot} {Device = g.row.F-Device.Denot} {file = g.F.GameFile} {table = g.F.Table} {disk = g.F.Device.SectorDisk} in
    is_question g.F.GameFile.stores state_of ready c.args.self.now c.audit.new.self c.audit.result
    (AuditCause (state_of c.args.self.now) (state_of c.audit.new.self))
    of_all (λ t told h o. why_audit (state_of c.args.self.now) (state_of c.audit.new.self) t told h o)
    c.audit.ensures.left.ready c.audit.ensures.left.asked c.audit.ensures.err.closed (λ it. it) c.audit.ensures.err.cause

pub returns-clause-right : goal.returns-clause-right
returns-clause-right g c =
    let state_of = state {F = g.row.F.Denot} {Device = g.row.F-Device.Denot} {file = g.F.GameFile} {table = g.F.Table} {disk = g.F.Device.SectorDisk} in
    let ready = IsReady {F = g.row.F.Denot} {Device = g.row.F-Device.Denot} {file = g.F.GameFile} {table = g.F.Table} {disk = g.F.Device.SectorDisk} in
    is_right g.F.GameFile.stores state_of ready c.args.self.now c.audit.new.self c.audit.result Right c.audit.ensures.left.ready c.audit.ensures.left.asked
    c.audit.ensures.err.closed c.audit.ensures.sound
