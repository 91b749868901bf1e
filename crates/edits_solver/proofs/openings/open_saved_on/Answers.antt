use Rattle.edits_solver.proofs.Parts.{ok_so}
use Rattle.edits_solver.proofs.openings.open_saved_on.Goals as goal

pub returns : goal.returns
returns g c = ok_so c.open.result _ _ (λ table it. (g.met.S.SavedTable.lawful.opened_on _ table it).1) c.open.ensures.opened
