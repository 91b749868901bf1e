use Rattle.btree.specs.lemmas.PutEntries.{a_put_is_found as law}
use Rattle.btree.proofs.map.laws.a_put_is_found.Goals as goal

pub returns : goal.returns
returns c = law
