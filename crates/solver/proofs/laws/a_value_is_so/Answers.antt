use Rattle.solver.specs.lemmas.Laws.{a_value_is_so}
use Rattle.solver.proofs.laws.a_value_is_so.Goals as goal

pub returns : goal.returns
returns c = a_value_is_so
