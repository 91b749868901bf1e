use Rattle.numbered_actions.proofs.ActionNumbers.{numbers_kept}
use Rattle.numbered_actions.proofs.laws.numbers_are_kept.Goals as goal

pub returns : goal.returns
returns c = numbers_kept
