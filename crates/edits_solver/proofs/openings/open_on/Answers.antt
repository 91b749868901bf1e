use Rattle.edits_solver.proofs.Parts.{ok_so}
use Rattle.edits_solver.proofs.openings.open_on.Goals as goal

pub returns : goal.returns
returns g c = ok_so c.open.result _ _ (λ solver it. it.opened.from.goes_on) c.open.ensures.ok
