use Rattle.solver.proofs.Chains.{the_headline}
use Rattle.solver.proofs.laws.the_headline.Goals as goal

pub returns : goal.returns
returns g c = the_headline g.F.GameFile.stores g.met.F.GameFile.stores_begins
