use Rattle.solver.specs.lemmas.Laws.{finished_leaves_the_drawn}
use Rattle.solver.proofs.laws.finished_leaves_the_drawn.Goals as goal

pub returns : goal.returns
returns c = finished_leaves_the_drawn
