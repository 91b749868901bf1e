use Rattle.std.proofs.Common.{◌∙◌, ap, arith}
use Rattle.retrograde.specs.declared.records.Counts.{Counts}
use Rattle.settle.proofs.SettleLemmas.{settled_known}
use Rattle.table.proofs.Frames.{read_then, as_written, written_then}
use Rattle.frontier.proofs.Frames.{in_conflict}
use Rattle.settle.proofs.next.process_next.Goals as goal

pub returns-then-number-counts-clause-consistent :
    goal.returns-then-number-counts-clause-consistent
returns-then-number-counts-clause-consistent g c = λ honest table is.
    let counts = c.counts-counts.ensures ∙ g.met.T.Table.counts_are c.args.table.now honest in
    let within = settled_known (g.T.Table.stored c.args.table.now) table _ _ (c.in_ok-number.ensures.number honest) in
    omega (arith, ap (λ (k : Counts). k.known) counts, within, c.if-number-counts.true)

pub returns-in_err-number-clause-takes : goal.returns-in_err-number-clause-takes
returns-in_err-number-clause-takes g c = omega (arith, g.met.T.Table.stays_free _ _ c.in_err-number.ensures.read.stays)

pub returns-then-number-counts-clause-takes : goal.returns-then-number-counts-clause-takes
returns-then-number-counts-clause-takes g c = omega (arith, g.met.T.Table.stays_free _ _ c.in_ok-number.ensures.read.stays)

pub returns-in_err-kept-clause-takes : goal.returns-in_err-kept-clause-takes
returns-in_err-kept-clause-takes g c =
    omega (arith, g.met.T.Table.stays_free _ _ c.in_ok-number.ensures.read.stays, g.met.T.Table.stays_free _ _ c.in_err-kept.ensures.read.stays)

pub returns-in_default-clause-takes : goal.returns-in_default-clause-takes
returns-in_default-clause-takes g c =
    omega (arith, g.met.T.Table.stays_free _ _ c.in_ok-number.ensures.read.stays, g.met.T.Table.stays_free _ _ c.in_ok-kept.ensures.read.stays)

pub returns-in_err-set_record-clause-takes : goal.returns-in_err-set_record-clause-takes
returns-in_err-set_record-clause-takes g c =
    omega (
      arith,
      g.met.T.Table.stays_free _ _ c.in_ok-number.ensures.read.stays,
      g.met.T.Table.stays_free _ _ c.in_ok-kept.ensures.read.stays,
      c.in_err-set_record.ensures.takes,
    )

pub returns-clause-takes : goal.returns-clause-takes
returns-clause-takes g c =
    omega (
      arith,
      g.met.T.Table.stays_free _ _ c.in_ok-number.ensures.read.stays,
      g.met.T.Table.stays_free _ _ c.in_ok-kept.ensures.read.stays,
      c.in_ok-set_record.ensures.takes,
    )

pub returns-then-number-counts-clause-err : goal.returns-then-number-counts-clause-err
returns-then-number-counts-clause-err g c = in_conflict (g.met.T.Table.stays_goes_on _ _ c.in_ok-number.ensures.read.stays)

pub returns-in_default-clause-err : goal.returns-in_default-clause-err
returns-in_default-clause-err g c =
    in_conflict (g.met.T.Table.stays_goes_on _ _ (g.met.T.Table.stays_then _ _ _ c.in_ok-number.ensures.read.stays c.in_ok-kept.ensures.read.stays))

pub returns-clause-ok : goal.returns-clause-ok
returns-clause-ok g c =
    written_then g.met.T.Table.goes_on_then (as_written g.met.T.Table.stays_goes_on
    (read_then g.met.T.Table.stays_then c.in_ok-number.ensures.read c.in_ok-kept.ensures.read))
    c.in_ok-set_record.ensures.wrote
