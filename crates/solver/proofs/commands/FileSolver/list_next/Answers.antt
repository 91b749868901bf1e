use Rattle.solver.proofs.Frames.{only_asked}
use Rattle.solver.proofs.commands.FileSolver.list_next.Goals as goal

pub returns-clause-left : goal.returns-clause-left
returns-clause-left g c = only_asked g.met.F.GameFile.whole_stays g.met.F.GameFile.goes_on_lasts g.met.F.Table.stays_goes_on c.args.self.now _ c.version_rows.ensures.stays

pub returns-in_err-rows-clause-left : goal.returns-in_err-rows-clause-left
returns-in_err-rows-clause-left g c =
    only_asked g.met.F.GameFile.whole_stays g.met.F.GameFile.goes_on_lasts g.met.F.Table.stays_goes_on c.args.self.now _ c.version_rows.ensures.stays
