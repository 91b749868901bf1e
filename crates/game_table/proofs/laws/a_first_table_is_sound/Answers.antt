use Rattle.game_table.specs.lemmas.Laws.{a_first_table_is_sound}
use Rattle.game_table.proofs.laws.a_first_table_is_sound.Goals as goal

pub returns : goal.returns
returns c = a_first_table_is_sound
