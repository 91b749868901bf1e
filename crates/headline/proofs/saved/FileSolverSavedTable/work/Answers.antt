use Rattle.std.proofs.Common.{◌≡◌}
use Rattle.solver.specs.declared.fault.SolverFault.TheVariants.{TableFull}
use Rattle.solver.specs.Machine.{work, IsShortOfPages}
use Rattle.headline.specs.Tables.{IsShort}
use Rattle.headline.specs.lemmas.Causes.{short_told}
use Rattle.solver.specs.declared.replies.Reply.TheVariants.{Worked}
use Rattle.solver.specs.Units.{units_in}
use Rattle.solver.specs.Solvers.{state, IsReady}
use Rattle.headline.proofs.Calls.{each_err, is_command}
use Rattle.headline.proofs.saved.FileSolverSavedTable.work.Goals as goal

pub returns-clause-answered : goal.returns-clause-answered
returns-clause-answered g c =
    let state_of = state {F = g.row.F.Denot} {Device = g.row.F-Device.Denot} {file = g.F.GameFile} {table = g.F.Table} {disk = g.F.Device.SectorDisk} in
    let ready = IsReady {F = g.row.F.Denot} {Device = g.row.F-Device.Denot} {file = g.F.GameFile} {table = g.F.Table} {disk = g.F.Device.SectorDisk} in
    is_command g.F.GameFile.stores state_of ready c.args.self.now c.work.new.self c.work.result (work (units_in c.args.units))
    (λ done. Worked done.units done.counts) c.work.ensures.left.ready c.work.ensures.left.ahead c.work.ensures.done c.work.ensures.err.refused c.work.ensures.err.closed

pub returns-clause-full : goal.returns-clause-full
returns-clause-full g c = λ table (here, is_open, told) honest.
    let state_of = state {F = g.row.F.Denot} {Device = g.row.F-Device.Denot} {file = g.F.GameFile} {table = g.F.Table} {disk = g.F.Device.SectorDisk} in
    let kept = (state_of c.args.self.now).kept in
    let free = g.F.Table.free c.args.self.now.file in
    each_err c.work.result (λ fault. fault ≡ TableFull → IsShortOfPages (units_in c.args.units) free kept)
    (λ fault. fault ≡ TableFull → IsShort (units_in c.args.units) free table)
    (λ fault short is. short_told kept table (told honest) (units_in c.args.units) free (short is)) (c.work.ensures.err.full here honest)
