use Rattle.solver.specs.lemmas.Laws.{a_sound_table_is_right}
use Rattle.solver.proofs.laws.a_sound_table_is_right.Goals as goal

pub returns : goal.returns
returns c = a_sound_table_is_right
