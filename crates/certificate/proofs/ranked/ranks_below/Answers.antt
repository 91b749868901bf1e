use Rattle.certificate.specs.Lists.{HasRankedLine}
use Rattle.certificate.proofs.RankLemmas.{below_found, below_missing}
use Rattle.certificate.proofs.ranked.ranks_below.Goals as goal

pub returns-in-Some : goal.returns-in-Some
returns-in-Some c = below_found (HasRankedLine c.args.list.now c.args.at.now) c.args.rank c.in-Some.found c.in-Some.ensures

pub returns-in-None : goal.returns-in-None
returns-in-None c = below_missing (HasRankedLine c.args.list.now c.args.at.now) c.args.rank c.in-None.ensures
