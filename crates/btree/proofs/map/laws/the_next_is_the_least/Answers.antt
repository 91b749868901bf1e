use Rattle.btree.specs.lemmas.Next.{the_next_is_the_least as law}
use Rattle.btree.proofs.map.laws.the_next_is_the_least.Goals as goal

pub returns : goal.returns
returns c = law
