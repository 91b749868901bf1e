use Rattle.audit.proofs.AnswerLemmas.{right_so}
use Rattle.audit.proofs.laws.right_is_so.Goals as goal

pub returns : goal.returns
returns g c = λ game stored table answer. right_so (g.M.GameGraph.graph game) (g.M.GameGraph.is_wide game) stored table answer
