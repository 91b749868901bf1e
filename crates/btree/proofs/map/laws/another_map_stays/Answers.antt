use Rattle.btree.specs.lemmas.PutFrame.{another_map_stays as law}
use Rattle.btree.proofs.map.laws.another_map_stays.Goals as goal

pub returns : goal.returns
returns c = law
