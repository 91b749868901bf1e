use Rattle.std.proofs.Common.{ap, Err, arith}
use Rattle.std.proofs.lemmas.List.Elements.{All-map}
use Rattle.legal_moves.specs.declared.fault.MoveFault.{MoveFault}
use Rattle.certificate.specs.Format.{Line}
use Rattle.certificate.specs.Lists.{line_of, lines_in}
use Rattle.certificate.specs.Shown.{Follows, IsSearched}
use Rattle.certificate.proofs.ListLoops.{not_this}
use Rattle.certificate.proofs.RankLemmas.{stands_there}
use Rattle.certificate.proofs.whole.first_not_following.Goals as goal

pub returns-in_err-follows-clause-wide : goal.returns-in_err-follows-clause-wide
returns-in_err-follows-clause-wide g c = λ is. (
  line_of c.index-list-index.result,
  stands_there c.args.list.now c.loop-index.index c.index-list-index.result c.loop-index-test.true c.index-list-index.is,
  c.in_err-follows.ensures.wide (ap (λ (f : MoveFault). Err f) (not_this c.from_residual.result _ _ c.from_residual.ensures is)),
)

pub returns-clause-is : goal.returns-clause-is
returns-clause-is g c =
    All-map (Follows (g.M.GameGraph.graph c.args.source.now) c.args.manner c.args.player (lines_in c.args.list.now)) line_of c.args.list.now
    (λ k d lt. c.loop-index.invariant.0 k d (omega arith))

pub returns-clause-narrow : goal.returns-clause-narrow
returns-clause-narrow g c = λ is.
    All-map (λ (line : Line). IsSearched c.args.manner line → ¬ g.M.GameGraph.is_wide c.args.source.now line.at) line_of c.args.list.now
    (λ k d lt. c.loop-index.invariant.1 k d (omega arith))
