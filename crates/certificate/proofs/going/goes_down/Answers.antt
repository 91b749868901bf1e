use Rattle.std.proofs.Common.{rules, ◌≡◌, ◌↔◌, ◌∙◌, sym, subst, ℕ, ◌<◌, List, length, true}
use Rattle.arrayvec.specs.ArrayVec.{ArrayVec}
use Rattle.retrograde.specs.Graph.{Moves}
use Rattle.certificate.specs.Lists.{HasRankedLine}
use Rattle.certificate.specs.Strategies.{RanksBelow}
use Rattle.certificate.specs.lemmas.Found.{SomeOf, EachOf}
use Rattle.certificate.proofs.GoingLemmas.{goes_down_by_own, goes_down_by_others}
use Rattle.certificate.proofs.going.goes_down.Goals as goal

pub returns-then-has_turn-clause-is : goal.returns-then-has_turn-clause-is
returns-then-has_turn-clause-is g c =
    let graph = g.M.GameGraph.graph c.args.source.now in
    let Ranks = HasRankedLine c.args.list.now in
    let some : 0 < length c.in_ok-found.found.items = search rules in
    let turn : Moves graph c.args.player c.args.at.now.items = sym c.mover.ensures ∙ c.has_turn.ensures.0 c.if-has_turn.true in
    goes_down_by_own graph c.args.player c.args.at.now.items c.in_ok-found.found.items c.in_ok-found.ensures.exact Ranks c.args.rank c.some_below.result
    some turn
    (subst (λ (found : List (ArrayVec ℕ)). (c.some_below.result ≡ true) ↔ SomeOf found
    (RanksBelow Ranks c.args.rank)) c.deref.ensures.value c.some_below.ensures)

pub returns-clause-is : goal.returns-clause-is
returns-clause-is g c =
    let graph = g.M.GameGraph.graph c.args.source.now in
    let Ranks = HasRankedLine c.args.list.now in
    let some : 0 < length c.in_ok-found.found.items = search rules in
    let no_turn : ¬ Moves graph c.args.player c.args.at.now.items = λ turn.
    let is : c.has_turn.result ≡ true = c.has_turn.ensures.1 (c.mover.ensures ∙ turn) in
    cc in
    goes_down_by_others graph c.args.player c.args.at.now.items c.in_ok-found.found.items c.in_ok-found.ensures.exact Ranks c.args.rank c.each_below.result
    some no_turn
    (subst (λ (found : List (ArrayVec ℕ)). (c.each_below.result ≡ true) ↔ EachOf found
    (RanksBelow Ranks c.args.rank)) c.deref-2.ensures.value c.each_below.ensures)
