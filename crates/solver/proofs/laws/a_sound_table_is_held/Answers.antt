use Rattle.solver.specs.lemmas.Laws.{a_sound_table_is_held}
use Rattle.solver.proofs.laws.a_sound_table_is_held.Goals as goal

pub returns : goal.returns
returns g c = λ pages. a_sound_table_is_held (g.F.GameFile.stores pages)
