use Rattle.std.proofs.Common.{◌≡◌, sym, subst}
use Rattle.retrograde.specs.Values.{WonIn}
use Rattle.certificate.specs.Lists.{Has, lines_in}
use Rattle.certificate.specs.Right.{AreShown}
use Rattle.certificate.specs.Shown.{AreNarrow, IsList, IsUnshown, ShowsRank}
use Rattle.certificate.specs.Shown.{IsUnshown as cause}
use Rattle.certificate.specs.declared.claim.Claimed.TheVariants as claimed
use Rattle.certificate.specs.declared.fault.CertificateFault.TheVariants.{NotShown}
use Rattle.certificate.specs.declared.manner.Manner.TheVariants.{AtMost, AtLeast}
use Rattle.certificate.proofs.ListLoops.{if_both_err, on_ok, passed_on}
use Rattle.certificate.proofs.ShownLemmas.{delay_of, strategy_of}
use Rattle.certificate.proofs.StrategyLemmas.{won_by_both}
use Rattle.certificate.proofs.values.show_win.Goals as goal

pub returns-in_err-all_follow-clause-fault : goal.returns-in_err-all_follow-clause-fault
returns-in_err-all_follow-clause-fault g c =
    passed_on _ c.from_residual.result _ c.from_residual.ensures
    (cause.unfollowed AtMost c.args.player (lines_in c.args.most.now.list.items) _ IsList.the_first c.in_err-all_follow.ensures.fault)

pub returns-in_err-all_follow-2-clause-fault : goal.returns-in_err-all_follow-2-clause-fault
returns-in_err-all_follow-2-clause-fault g c =
    passed_on _ c.from_residual-in_err-all_follow-2.result _ c.from_residual-in_err-all_follow-2.ensures
    (cause.unfollowed AtLeast c.args.player (lines_in c.args.least.now.list.items) _ IsList.the_second c.in_err-all_follow-2.ensures.fault)

pub returns-in_err-has_shown-clause-fault : goal.returns-in_err-has_shown-clause-fault
returns-in_err-has_shown-clause-fault g c =
    passed_on _ c.from_residual-in_err-has_shown.result _ c.from_residual-in_err-has_shown.ensures
    (subst (IsUnshown (g.M.GameGraph.graph c.args.source.now) (g.M.GameGraph.is_wide c.args.source.now)
    (claimed.Won c.args.player c.args.moves) c.args.at.now.items (lines_in c.args.most.now.list.items) (lines_in c.args.least.now.list.items))
    (sym c.in_err-has_shown.ensures.fault)
    (cause.not_there AtMost c.args.player (lines_in c.args.most.now.list.items) IsList.the_first c.in_err-has_shown.ensures.not_there))

pub returns-clause-so : goal.returns-clause-so
returns-clause-so g c =
    let graph = g.M.GameGraph.graph c.args.source.now in
    let most = lines_in c.args.most.now.list.items in
    let least = lines_in c.args.least.now.list.items in
    on_ok c.has_shown-2.result (ShowsRank AtLeast least c.args.at.now.items c.args.moves) (WonIn graph c.args.player c.args.moves c.args.at.now.items)
    (λ held. won_by_both graph c.args.player (Has most) (Has least) (strategy_of graph c.args.player most c.in_ok-all_follow.ensures.so)
    (delay_of graph c.args.player least c.in_ok-all_follow-2.ensures.so) c.args.moves c.args.at.now.items c.in_ok-has_shown.ensures.so held)
    c.has_shown-2.ensures.so

pub returns-clause-fault : goal.returns-clause-fault
returns-clause-fault g c =
    let least = lines_in c.args.least.now.list.items in
    if_both_err c.has_shown-2.result (λ refusal. refusal.fault ≡ NotShown) (λ _. ¬ ShowsRank AtLeast least c.args.at.now.items c.args.moves)
    (λ refusal. (IsUnshown (g.M.GameGraph.graph c.args.source.now) (g.M.GameGraph.is_wide c.args.source.now)
    (claimed.Won c.args.player c.args.moves) c.args.at.now.items (lines_in c.args.most.now.list.items)
    (lines_in c.args.least.now.list.items)) refusal.fault)
    (λ refusal is bad. subst (IsUnshown (g.M.GameGraph.graph c.args.source.now) (g.M.GameGraph.is_wide c.args.source.now)
    (claimed.Won c.args.player c.args.moves) c.args.at.now.items (lines_in c.args.most.now.list.items) (lines_in c.args.least.now.list.items)) (sym is)
    (cause.not_there AtLeast c.args.player least IsList.the_second bad))
    c.has_shown-2.ensures.fault c.has_shown-2.ensures.not_there

pub returns-clause-shown : goal.returns-clause-shown
returns-clause-shown g c =
    let graph = g.M.GameGraph.graph c.args.source.now in
    let most = lines_in c.args.most.now.list.items in
    let least = lines_in c.args.least.now.list.items in
    let x = c.args.at.now.items in
    on_ok c.has_shown-2.result (ShowsRank AtLeast least x c.args.moves) (AreShown graph (claimed.Won c.args.player c.args.moves) x most least)
    (λ held. (
      (strategy_of graph c.args.player most c.in_ok-all_follow.ensures.so, c.in_ok-has_shown.ensures.so),
      (delay_of graph c.args.player least c.in_ok-all_follow-2.ensures.so, held),
    ))
    c.has_shown-2.ensures.so

pub returns-clause-narrow : goal.returns-clause-narrow
returns-clause-narrow g c =
    let Wide = g.M.GameGraph.is_wide c.args.source.now in
    let most = lines_in c.args.most.now.list.items in
    let least = lines_in c.args.least.now.list.items in
    on_ok c.has_shown-2.result (ShowsRank AtLeast least c.args.at.now.items c.args.moves) (AreNarrow Wide (claimed.Won c.args.player c.args.moves) most least)
    (λ held. (c.in_ok-all_follow.ensures.narrow, c.in_ok-all_follow-2.ensures.narrow)) c.has_shown-2.ensures.so
