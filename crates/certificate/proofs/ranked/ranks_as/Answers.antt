use Rattle.certificate.specs.Lists.{HasRankedLine}
use Rattle.certificate.proofs.RankLemmas.{as_found, as_missing}
use Rattle.certificate.proofs.ranked.ranks_as.Goals as goal

pub returns-in-Some : goal.returns-in-Some
returns-in-Some c = as_found (HasRankedLine c.args.list.now c.args.at.now) c.args.rank c.in-Some.found c.in-Some.ensures

pub returns-in-None : goal.returns-in-None
returns-in-None c = as_missing (HasRankedLine c.args.list.now c.args.at.now) c.args.rank c.in-None.ensures
