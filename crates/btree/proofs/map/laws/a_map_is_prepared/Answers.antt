use Rattle.btree.specs.lemmas.Laws.{a_map_is_prepared as law}
use Rattle.btree.proofs.map.laws.a_map_is_prepared.Goals as goal

pub returns : goal.returns
returns c = law
