use Rattle.std.proofs.Common.{◌∙◌, ap, arith, ℕ, List}
use Rattle.retrograde.specs.Stored.{Stored}
use Rattle.retrograde.specs.Changes.{with_settled}
use Rattle.table.proofs.Exits.{passed_on}
use Rattle.table.proofs.Frames.{written_then}
use Rattle.frontier.proofs.Frames.{is_failed, in_conflict, given_up_since}
use Rattle.frontier.proofs.finish.end.Goals as goal

pub returns-clause-ended : goal.returns-clause-ended
returns-clause-ended g c = λ honest.
    c.in_ok-push_settled.ensures.pushed (c.in_ok-set_record.ensures.wrote.honest.0 honest)
    ∙ ap (λ (t : Stored (List ℕ)). with_settled t c.args.number) (c.in_ok-set_record.ensures.set honest)

pub returns-in_err-set_record-clause-takes : goal.returns-in_err-set_record-clause-takes
returns-in_err-set_record-clause-takes g c = omega (arith, c.in_err-set_record.ensures.takes)

pub returns-then-counts-clause-takes : goal.returns-then-counts-clause-takes
returns-then-counts-clause-takes g c = omega (arith, c.in_ok-set_record.ensures.takes)

pub returns-in_err-push_settled-clause-takes : goal.returns-in_err-push_settled-clause-takes
returns-in_err-push_settled-clause-takes g c = omega (arith, c.in_ok-set_record.ensures.takes, c.in_err-push_settled.ensures.takes)

pub returns-clause-takes : goal.returns-clause-takes
returns-clause-takes g c = omega (arith, c.in_ok-set_record.ensures.takes, c.in_ok-push_settled.ensures.takes)

pub returns-in_err-set_record-clause-err : goal.returns-in_err-set_record-clause-err
returns-in_err-set_record-clause-err g c = passed_on _ c.from_residual.result _ c.from_residual.ensures (is_failed c.in_err-set_record.ensures.fault)

pub returns-in_err-push_settled-clause-err : goal.returns-in_err-push_settled-clause-err
returns-in_err-push_settled-clause-err g c =
    passed_on _ c.from_residual-in_err-push_settled.result _ c.from_residual-in_err-push_settled.ensures
    (given_up_since g.met.T.Table.goes_on_then g.met.T.Table.fails_since c.in_ok-set_record.ensures.wrote.ahead (is_failed c.in_err-push_settled.ensures.fault))

pub returns-then-counts-clause-err : goal.returns-then-counts-clause-err
returns-then-counts-clause-err g c = in_conflict c.in_ok-set_record.ensures.wrote.ahead

pub returns-clause-ok : goal.returns-clause-ok
returns-clause-ok g c = written_then g.met.T.Table.goes_on_then c.in_ok-set_record.ensures.wrote c.in_ok-push_settled.ensures.wrote
