use Rattle.position_pack.proofs.ShapeLemmas.{small_shape}
use Rattle.position_pack.proofs.laws.games_are_small.Goals as goal

pub returns : goal.returns
returns c = small_shape
