use Rattle.btree.specs.lemmas.PutEntries.{others_are_found as law}
use Rattle.btree.proofs.map.laws.others_are_found.Goals as goal

pub returns : goal.returns
returns c = law
