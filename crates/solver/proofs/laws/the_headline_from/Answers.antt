use Rattle.solver.proofs.Chains.{the_headline_from}
use Rattle.solver.proofs.laws.the_headline_from.Goals as goal

pub returns : goal.returns
returns g c = the_headline_from g.F.GameFile.stores g.met.F.GameFile.stores_begins
