use Rattle.btree.specs.lemmas.Laws.{a_map_is_held as law}
use Rattle.btree.proofs.map.laws.a_map_is_held.Goals as goal

pub returns : goal.returns
returns c = law
