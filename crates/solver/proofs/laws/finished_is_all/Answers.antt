use Rattle.solver.specs.lemmas.Laws.{finished_is_all}
use Rattle.solver.proofs.laws.finished_is_all.Goals as goal

pub returns : goal.returns
returns c = finished_is_all
