use Rattle.std.proofs.Common.{refl}
use Rattle.solver.specs.Solvers.{state}
use Rattle.witness.proofs.Behind.{sitting_of}
use Rattle.witness.proofs.sittings.use_solver.Goals as goal

pub returns-clause-used : goal.returns-clause-used
returns-clause-used g c = λ ready sound is_open honest.
    sitting_of g.F.GameFile.stores (λ s. state s) c.args.solver.now c.run.new.self _ _ c.run.result c.run.ensures.left.ahead
    ((c.requires, refl), (tt, (tt, (tt, tt)))) is_open (c.run.ensures.stopped ready sound is_open honest) c.run.ensures.err.refused
