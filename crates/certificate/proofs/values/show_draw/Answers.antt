use Rattle.std.proofs.Common.{◌≡◌, sym, subst, ℕ}
use Rattle.rbg_game.specs.declared.roles.Player.TheVariants.{First, Second}
use Rattle.retrograde.specs.Values.{Drawn, WinsWithin}
use Rattle.certificate.specs.Lists.{Has, lines_in}
use Rattle.certificate.specs.Right.{AreShown}
use Rattle.certificate.specs.Shown.{AreNarrow, IsList, IsUnshown, ShowsRank}
use Rattle.certificate.specs.Shown.{IsUnshown as cause}
use Rattle.certificate.specs.Strategies.{RanksFrom}
use Rattle.certificate.specs.declared.claim.Claimed.TheVariants as claimed
use Rattle.certificate.specs.declared.fault.CertificateFault.TheVariants.{NotShown}
use Rattle.certificate.specs.declared.manner.Manner.TheVariants.{Never}
use Rattle.certificate.specs.declared.manner.TheConstants.{NEVER}
use Rattle.certificate.proofs.ListLoops.{if_both_err, on_ok, passed_on}
use Rattle.certificate.proofs.ShownLemmas.{safe_of}
use Rattle.certificate.proofs.StrategyLemmas.{safe_is_never_won}
use Rattle.certificate.proofs.values.show_draw.Goals as goal

pub returns-in_err-all_follow-clause-fault : goal.returns-in_err-all_follow-clause-fault
returns-in_err-all_follow-clause-fault g c =
    passed_on _ c.from_residual.result _ c.from_residual.ensures
    (cause.unfollowed Never First (lines_in c.args.first.now.list.items) _ IsList.the_first c.in_err-all_follow.ensures.fault)

pub returns-in_err-has_shown-clause-fault : goal.returns-in_err-has_shown-clause-fault
returns-in_err-has_shown-clause-fault g c =
    passed_on _ c.from_residual-in_err-has_shown.result _ c.from_residual-in_err-has_shown.ensures
    (subst (IsUnshown (g.M.GameGraph.graph c.args.source.now) (g.M.GameGraph.is_wide c.args.source.now) claimed.Drawn c.args.at.now.items
    (lines_in c.args.first.now.list.items) (lines_in c.args.second.now.list.items))
    (sym c.in_err-has_shown.ensures.fault)
    (cause.not_there Never First (lines_in c.args.first.now.list.items) IsList.the_first c.in_err-has_shown.ensures.not_there))

pub returns-in_err-all_follow-2-clause-fault : goal.returns-in_err-all_follow-2-clause-fault
returns-in_err-all_follow-2-clause-fault g c =
    passed_on _ c.from_residual-in_err-all_follow-2.result _ c.from_residual-in_err-all_follow-2.ensures
    (cause.unfollowed Never Second (lines_in c.args.second.now.list.items) _ IsList.the_second c.in_err-all_follow-2.ensures.fault)

pub returns-clause-so : goal.returns-clause-so
returns-clause-so g c =
    let graph = g.M.GameGraph.graph c.args.source.now in
    let first = lines_in c.args.first.now.list.items in
    let second = lines_in c.args.second.now.list.items in
    let x = c.args.at.now.items in
    on_ok c.has_shown-2.result (ShowsRank Never second x 0) (Drawn graph x)
    (λ here w. elim w as (λ v. (n : ℕ) → WinsWithin graph v n x → ⊥) [
      | First ↦ λ n wins. safe_is_never_won graph First (RanksFrom (Has first) NEVER)
          (safe_of graph First first c.in_ok-all_follow.ensures.so) n x c.in_ok-has_shown.ensures.so wins
      | Second ↦ λ n wins. safe_is_never_won graph Second (RanksFrom (Has second) NEVER)
          (safe_of graph Second second c.in_ok-all_follow-2.ensures.so) n x here wins
    ])
    c.has_shown-2.ensures.so

pub returns-clause-fault : goal.returns-clause-fault
returns-clause-fault g c =
    let second = lines_in c.args.second.now.list.items in
    if_both_err c.has_shown-2.result (λ refusal. refusal.fault ≡ NotShown) (λ _. ¬ ShowsRank Never second c.args.at.now.items 0)
    (λ refusal. (IsUnshown (g.M.GameGraph.graph c.args.source.now)
    (g.M.GameGraph.is_wide c.args.source.now) claimed.Drawn c.args.at.now.items (lines_in c.args.first.now.list.items)
    (lines_in c.args.second.now.list.items)) refusal.fault)
    (λ refusal is bad. subst (IsUnshown (g.M.GameGraph.graph c.args.source.now)
    (g.M.GameGraph.is_wide c.args.source.now) claimed.Drawn c.args.at.now.items (lines_in c.args.first.now.list.items)
    (lines_in c.args.second.now.list.items)) (sym is)
    (cause.not_there Never Second second IsList.the_second bad))
    c.has_shown-2.ensures.fault c.has_shown-2.ensures.not_there

pub returns-clause-shown : goal.returns-clause-shown
returns-clause-shown g c =
    let graph = g.M.GameGraph.graph c.args.source.now in
    let first = lines_in c.args.first.now.list.items in
    let second = lines_in c.args.second.now.list.items in
    let x = c.args.at.now.items in
    on_ok c.has_shown-2.result (ShowsRank Never second x 0) (AreShown graph claimed.Drawn x first second)
    (λ here. (
      (safe_of graph First first c.in_ok-all_follow.ensures.so, c.in_ok-has_shown.ensures.so),
      (safe_of graph Second second c.in_ok-all_follow-2.ensures.so, here),
    ))
    c.has_shown-2.ensures.so

pub returns-clause-narrow : goal.returns-clause-narrow
returns-clause-narrow g c =
    let Wide = g.M.GameGraph.is_wide c.args.source.now in
    let first = lines_in c.args.first.now.list.items in
    let second = lines_in c.args.second.now.list.items in
    on_ok c.has_shown-2.result (ShowsRank Never second c.args.at.now.items 0) (AreNarrow Wide claimed.Drawn first second)
    (λ here. (c.in_ok-all_follow.ensures.narrow, c.in_ok-all_follow-2.ensures.narrow)) c.has_shown-2.ensures.so
