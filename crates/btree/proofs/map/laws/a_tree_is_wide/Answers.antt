use Rattle.btree.specs.lemmas.Laws.{a_tree_is_wide as law}
use Rattle.btree.proofs.map.laws.a_tree_is_wide.Goals as goal

pub returns : goal.returns
returns c = law
