use Rattle.btree.specs.lemmas.Next.{no_next_is_greater as law}
use Rattle.btree.proofs.map.laws.no_next_is_greater.Goals as goal

pub returns : goal.returns
returns c = law
