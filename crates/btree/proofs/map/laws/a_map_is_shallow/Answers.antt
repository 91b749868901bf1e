use Rattle.btree.specs.lemmas.PutFrame.{a_map_is_shallow as law}
use Rattle.btree.proofs.map.laws.a_map_is_shallow.Goals as goal

pub returns : goal.returns
returns c = law
