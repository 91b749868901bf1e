use Rattle.btree.specs.lemmas.Laws.{a_root_has_one_map as law}
use Rattle.btree.proofs.map.laws.a_root_has_one_map.Goals as goal

pub returns : goal.returns
returns c = law
