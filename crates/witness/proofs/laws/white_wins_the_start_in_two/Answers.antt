use Rattle.witness.proofs.Win.{won_in_two}
use Rattle.witness.proofs.laws.white_wins_the_start_in_two.Goals as goal

pub returns : goal.returns
returns c = won_in_two
