use Rattle.solver.specs.lemmas.Laws.{what_was_left_is_opened}
use Rattle.solver.proofs.laws.what_was_left_is_opened.Goals as goal

pub returns : goal.returns
returns g c = what_was_left_is_opened g.F.GameFile.stores
