use Rattle.std.proofs.Common.{◌≡◌, arith}
use Rattle.certificate.specs.Lists.{HasRankedLine}
use Rattle.certificate.proofs.RankLemmas.{from_found, from_missing}
use Rattle.certificate.proofs.ranked.ranks_from.Goals as goal

pub returns-in-Some : goal.returns-in-Some
returns-in-Some c =
    let some : c.args.rank ≡ 0 → ⊥ = λ none. omega arith in
    from_found (HasRankedLine c.args.list.now c.args.at.now) c.args.rank c.in-Some.found some c.in-Some.ensures

pub returns-in-None : goal.returns-in-None
returns-in-None c =
    let some : c.args.rank ≡ 0 → ⊥ = λ none. omega arith in
    from_missing (HasRankedLine c.args.list.now c.args.at.now) c.args.rank some c.in-None.ensures
