use Rattle.game_table.specs.lemmas.Laws.{texts_are_short}
use Rattle.game_table.proofs.laws.texts_are_short.Goals as goal

pub returns : goal.returns
returns c = texts_are_short
