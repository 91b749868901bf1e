use Rattle.std.proofs.Common.{◌∙◌, ap, arith, ℕ, List}
use Rattle.retrograde.specs.Stored.{Stored}
use Rattle.retrograde.specs.Changes.{with_record}
use Rattle.table.proofs.Frames.{written_then}
use Rattle.frontier.proofs.Frames.{in_conflict}
use Rattle.settle.proofs.lower.settle.Goals as goal

pub returns-clause-settled : goal.returns-clause-settled
returns-clause-settled g c = λ honest.
    c.in_ok-set_record.ensures.set (c.in_ok-push_settled.ensures.wrote.honest.0 honest)
    ∙ ap (λ (t : Stored (List ℕ)). with_record t c.args.number c.args.kept) (c.in_ok-push_settled.ensures.pushed honest)

pub returns-in_err-push_settled-clause-takes : goal.returns-in_err-push_settled-clause-takes
returns-in_err-push_settled-clause-takes g c = omega (arith, c.in_err-push_settled.ensures.takes)

pub returns-in_err-set_record-clause-takes : goal.returns-in_err-set_record-clause-takes
returns-in_err-set_record-clause-takes g c = omega (arith, c.in_ok-push_settled.ensures.takes, c.in_err-set_record.ensures.takes)

pub returns-clause-takes : goal.returns-clause-takes
returns-clause-takes g c = omega (arith, c.in_ok-push_settled.ensures.takes, c.in_ok-set_record.ensures.takes)

pub returns-then-counts-clause-takes : goal.returns-then-counts-clause-takes
returns-then-counts-clause-takes g c = omega arith

pub returns-then-counts-clause-err : goal.returns-then-counts-clause-err
returns-then-counts-clause-err g c = in_conflict (g.met.T.Table.stays_goes_on _ _ (g.met.T.Table.stays_here _))

pub returns-clause-ok : goal.returns-clause-ok
returns-clause-ok g c = written_then g.met.T.Table.goes_on_then c.in_ok-push_settled.ensures.wrote c.in_ok-set_record.ensures.wrote
