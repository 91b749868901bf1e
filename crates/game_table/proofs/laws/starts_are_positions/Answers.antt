use Rattle.game_table.specs.lemmas.Laws.{starts_are_positions}
use Rattle.game_table.proofs.laws.starts_are_positions.Goals as goal

pub returns : goal.returns
returns c = starts_are_positions
