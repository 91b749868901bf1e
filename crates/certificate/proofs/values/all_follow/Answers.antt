use Rattle.std.proofs.Common.{ap, sym, subst, List, ℕ, All, Option, Err}
use Rattle.std.specs.Prelude.{Contains, MatchOption}
use Rattle.legal_moves.specs.declared.fault.MoveFault.{MoveFault}
use Rattle.certificate.specs.Format.{Line}
use Rattle.certificate.specs.Lists.{lines_in}
use Rattle.certificate.specs.Shown.{Follows, IsSearched, IsUnfollowed}
use Rattle.certificate.specs.Shown.{IsUnfollowed as cause}
use Rattle.certificate.specs.declared.ranked.Ranked.{Ranked}
use Rattle.certificate.proofs.ShownLemmas.{unsearched}
use Rattle.certificate.proofs.values.all_follow.Goals as goal

pub returns-in-Ok-Some-clause-fault : goal.returns-in-Ok-Some-clause-fault
returns-in-Ok-Some-clause-fault g c =
    let graph = g.M.GameGraph.graph c.args.source.now in
    let said = subst (λ (o : Option ℕ). MatchOption o
    (All (Follows graph c.args.manner c.args.player (lines_in c.deref.result.now)) (lines_in c.deref.result.now))
    (λ _. (line : Line) × Contains (lines_in c.deref.result.now) line × ¬ Follows graph c.args.manner c.args.player (lines_in c.deref.result.now) line))
    c.in-Ok-Some.field-0-is c.in-Ok-Some.ensures.is in
    let (line, there, bad) = subst (λ (all : List Ranked). (line : Line) × Contains (lines_in all) line
    × ¬ Follows graph c.args.manner c.args.player (lines_in all) line)
    c.deref.ensures.value said in
    subst (IsUnfollowed graph (g.M.GameGraph.is_wide c.args.source.now) c.args.manner c.args.player (lines_in c.args.listed.now.list.items))
    (sym c.not_followed.ensures)
    (cause.not_followed line there bad)

pub returns-in-Err-clause-fault : goal.returns-in-Err-clause-fault
returns-in-Err-clause-fault g c =
    let graph = g.M.GameGraph.graph c.args.source.now in
    let Wide = g.M.GameGraph.is_wide c.args.source.now in
    let list = lines_in c.args.listed.now.list.items in
    subst (IsUnfollowed graph Wide c.args.manner c.args.player list) (sym c.not_searched.ensures)
    (unsearched graph Wide c.args.manner c.args.player list c.in-Err.fault
    (λ is. subst (λ (all : List Ranked). (line : Line) × Contains (lines_in all) line × (IsSearched c.args.manner line × Wide line.at)) c.deref.ensures.value
    (c.in-Err.ensures.wide (ap (λ (f : MoveFault). Err f) is))))
