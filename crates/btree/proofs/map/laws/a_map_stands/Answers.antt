use Rattle.btree.specs.lemmas.Laws.{a_map_stands as law}
use Rattle.btree.proofs.map.laws.a_map_stands.Goals as goal

pub returns : goal.returns
returns c = law
