use Rattle.game_table.specs.lemmas.Laws.{sound_tables_fit}
use Rattle.game_table.proofs.laws.sound_tables_fit.Goals as goal

pub returns : goal.returns
returns c = sound_tables_fit
