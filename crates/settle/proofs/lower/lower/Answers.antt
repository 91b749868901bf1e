use Rattle.std.proofs.Common.{subst, inl, arith, ℕ, List}
use Rattle.retrograde.specs.Stored.{Stored, HasRecord}
use Rattle.table.proofs.Exits.{done_then, fault_then}
use Rattle.table.proofs.Frames.{read_then, as_written, written_then}
use Rattle.frontier.proofs.Frames.{in_conflict, given_up_since}
use Rattle.settle.proofs.lower.lower.Goals as goal

pub returns-then-kept-eq0-clause-stuck : goal.returns-then-kept-eq0-clause-stuck
returns-then-kept-eq0-clause-stuck g c = λ honest is. (
  c.in_ok-kept.kept,
  subst (λ (t : Stored (List ℕ)). HasRecord t c.args.predecessor c.in_ok-kept.kept) (c.in_ok-packed.ensures.read.same honest)
      (c.in_ok-kept.ensures.record (c.in_ok-packed.ensures.read.honest.0 honest)),
  inl c.if-kept-eq0.true,
)

pub returns-in_err-packed-clause-takes : goal.returns-in_err-packed-clause-takes
returns-in_err-packed-clause-takes g c = omega (arith, g.met.T.Table.stays_free _ _ c.in_err-packed.ensures.read.stays)

pub returns-in_err-kept-clause-takes : goal.returns-in_err-kept-clause-takes
returns-in_err-kept-clause-takes g c =
    omega (arith, g.met.T.Table.stays_free _ _ c.in_ok-packed.ensures.read.stays, g.met.T.Table.stays_free _ _ c.in_err-kept.ensures.read.stays)

pub returns-then-kept-eq0-clause-takes : goal.returns-then-kept-eq0-clause-takes
returns-then-kept-eq0-clause-takes g c =
    omega (arith, g.met.T.Table.stays_free _ _ c.in_ok-packed.ensures.read.stays, g.met.T.Table.stays_free _ _ c.in_ok-kept.ensures.read.stays)

pub returns-then-distance-eq4294967295-clause-takes : goal.returns-then-distance-eq4294967295-clause-takes
returns-then-distance-eq4294967295-clause-takes g c =
    omega (arith, g.met.T.Table.stays_free _ _ c.in_ok-packed.ensures.read.stays, g.met.T.Table.stays_free _ _ c.in_ok-kept.ensures.read.stays)

pub returns-in_err-set_record-clause-takes : goal.returns-in_err-set_record-clause-takes
returns-in_err-set_record-clause-takes g c =
    omega (
      arith,
      g.met.T.Table.stays_free _ _ c.in_ok-packed.ensures.read.stays,
      g.met.T.Table.stays_free _ _ c.in_ok-kept.ensures.read.stays,
      c.in_err-set_record.ensures.takes,
    )

pub returns-clause-takes : goal.returns-clause-takes
returns-clause-takes g c =
    omega (
      arith,
      g.met.T.Table.stays_free _ _ c.in_ok-packed.ensures.read.stays,
      g.met.T.Table.stays_free _ _ c.in_ok-kept.ensures.read.stays,
      c.in_ok-set_record.ensures.takes,
    )

pub returns-then-due-2-clause-takes : goal.returns-then-due-2-clause-takes
returns-then-due-2-clause-takes g c =
    omega (
      arith,
      g.met.T.Table.stays_free _ _ c.in_ok-packed.ensures.read.stays,
      g.met.T.Table.stays_free _ _ c.in_ok-kept.ensures.read.stays,
      c.settle.ensures.takes,
    )

pub returns-then-kept-eq0-clause-err : goal.returns-then-kept-eq0-clause-err
returns-then-kept-eq0-clause-err g c =
    in_conflict (g.met.T.Table.stays_goes_on _ _ (g.met.T.Table.stays_then _ _ _ c.in_ok-packed.ensures.read.stays c.in_ok-kept.ensures.read.stays))

pub returns-then-distance-eq4294967295-clause-err : goal.returns-then-distance-eq4294967295-clause-err
returns-then-distance-eq4294967295-clause-err g c =
    in_conflict (g.met.T.Table.stays_goes_on _ _ (g.met.T.Table.stays_then _ _ _ c.in_ok-packed.ensures.read.stays c.in_ok-kept.ensures.read.stays))

pub returns-clause-ok : goal.returns-clause-ok
returns-clause-ok g c =
    written_then g.met.T.Table.goes_on_then (as_written g.met.T.Table.stays_goes_on
    (read_then g.met.T.Table.stays_then c.in_ok-packed.ensures.read c.in_ok-kept.ensures.read))
    c.in_ok-set_record.ensures.wrote

pub returns-then-due-2-clause-ok : goal.returns-then-due-2-clause-ok
returns-then-due-2-clause-ok g c =
    done_then c.settle.result (written_then g.met.T.Table.goes_on_then (as_written g.met.T.Table.stays_goes_on
    (read_then g.met.T.Table.stays_then c.in_ok-packed.ensures.read c.in_ok-kept.ensures.read))) c.settle.ensures.ok

pub returns-then-due-2-clause-err : goal.returns-then-due-2-clause-err
returns-then-due-2-clause-err g c =
    fault_then c.settle.result (λ fault. given_up_since g.met.T.Table.goes_on_then g.met.T.Table.fails_since
    (g.met.T.Table.stays_goes_on _ _ (g.met.T.Table.stays_then _ _ _ c.in_ok-packed.ensures.read.stays c.in_ok-kept.ensures.read.stays))) c.settle.ensures.err
