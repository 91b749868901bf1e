use Rattle.solver.specs.lemmas.Laws.{what_is_settled_is_won}
use Rattle.solver.proofs.laws.what_is_settled_is_won.Goals as goal

pub returns : goal.returns
returns c = what_is_settled_is_won
