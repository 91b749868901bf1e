use Rattle.witness.proofs.Win.{only_in_two, not_drawn}
use Rattle.witness.proofs.laws.nothing_else_is_so.Goals as goal

pub returns-clause-won : goal.returns-clause-won
returns-clause-won c = only_in_two

pub returns-clause-drawn : goal.returns-clause-drawn
returns-clause-drawn c = not_drawn
