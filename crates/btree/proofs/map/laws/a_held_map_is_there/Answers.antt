use Rattle.btree.specs.lemmas.Laws.{a_held_map_is_there as law}
use Rattle.btree.proofs.map.laws.a_held_map_is_there.Goals as goal

pub returns : goal.returns
returns c = law
