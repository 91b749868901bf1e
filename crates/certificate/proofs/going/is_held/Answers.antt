use Rattle.std.proofs.Common.{rules, ◌≡◌, ◌↔◌, ◌∙◌, sym, subst, ℕ, ◌<◌, List, length, true}
use Rattle.arrayvec.specs.ArrayVec.{ArrayVec}
use Rattle.retrograde.specs.Graph.{Moves}
use Rattle.certificate.specs.Lists.{HasRankedLine}
use Rattle.certificate.specs.Strategies.{RanksFrom}
use Rattle.certificate.specs.lemmas.Found.{SomeOf, EachOf}
use Rattle.certificate.proofs.GoingLemmas.{held_by_own, held_by_others}
use Rattle.certificate.proofs.going.is_held.Goals as goal

pub returns-then-has_turn-clause-is : goal.returns-then-has_turn-clause-is
returns-then-has_turn-clause-is g c =
    let graph = g.M.GameGraph.graph c.args.source.now in
    let Good = RanksFrom (HasRankedLine c.args.list.now) c.args.rank in
    let some : 0 < length c.in_ok-found.found.items = search rules in
    let turn : Moves graph c.args.player c.args.at.now.items = sym c.mover.ensures ∙ c.has_turn.ensures.0 c.if-has_turn.true in
    held_by_own graph c.args.player c.args.at.now.items c.in_ok-found.found.items c.in_ok-found.ensures.exact Good c.each_from.result some turn
    (subst (λ (found : List (ArrayVec ℕ)). (c.each_from.result ≡ true) ↔ EachOf found Good) c.deref.ensures.value c.each_from.ensures)

pub returns-clause-is : goal.returns-clause-is
returns-clause-is g c =
    let graph = g.M.GameGraph.graph c.args.source.now in
    let Good = RanksFrom (HasRankedLine c.args.list.now) c.args.rank in
    let some : 0 < length c.in_ok-found.found.items = search rules in
    let no_turn : ¬ Moves graph c.args.player c.args.at.now.items = λ turn.
    let is : c.has_turn.result ≡ true = c.has_turn.ensures.1 (c.mover.ensures ∙ turn) in
    cc in
    held_by_others graph c.args.player c.args.at.now.items c.in_ok-found.found.items c.in_ok-found.ensures.exact Good c.some_from.result some no_turn
    (subst (λ (found : List (ArrayVec ℕ)). (c.some_from.result ≡ true) ↔ SomeOf found Good) c.deref-2.ensures.value c.some_from.ensures)
