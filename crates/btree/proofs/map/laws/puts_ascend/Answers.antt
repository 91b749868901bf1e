use Rattle.btree.specs.lemmas.PutEntries.{puts_ascend as law}
use Rattle.btree.proofs.map.laws.puts_ascend.Goals as goal

pub returns : goal.returns
returns c = law
