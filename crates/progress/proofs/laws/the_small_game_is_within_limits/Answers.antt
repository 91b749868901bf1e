use Rattle.progress.proofs.Small.{the_small_game_has_four, the_small_game_is_within_limits}
use Rattle.progress.proofs.laws.the_small_game_is_within_limits.Goals as goal

pub returns : goal.returns
returns c = record { within = the_small_game_is_within_limits; few = the_small_game_has_four }
