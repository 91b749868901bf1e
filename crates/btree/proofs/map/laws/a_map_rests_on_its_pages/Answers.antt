use Rattle.btree.specs.lemmas.Laws.{a_map_rests_on_its_pages as law}
use Rattle.btree.proofs.map.laws.a_map_rests_on_its_pages.Goals as goal

pub returns : goal.returns
returns c = law
