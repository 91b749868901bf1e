use Rattle.game_table.specs.lemmas.Laws.{positions_have_one_length}
use Rattle.game_table.proofs.laws.positions_have_one_length.Goals as goal

pub returns : goal.returns
returns c = positions_have_one_length
