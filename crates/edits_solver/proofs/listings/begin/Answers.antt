use Rattle.edits_solver.proofs.Parts.{begun_lasts}
use Rattle.edits_solver.proofs.listings.begin.Goals as goal

pub returns : goal.returns
returns g c = λ ready honest. begun_lasts _ _ _ _ _ _ _ _ _ c.put_listing.result (c.put_listing.ensures.replied ready honest)
