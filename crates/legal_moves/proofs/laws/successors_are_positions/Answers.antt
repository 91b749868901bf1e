use Rattle.legal_moves.proofs.answers.ReachLemmas.{position_of}
use Rattle.legal_moves.proofs.laws.successors_are_positions.Goals as goal

pub returns : goal.returns
returns c = position_of
