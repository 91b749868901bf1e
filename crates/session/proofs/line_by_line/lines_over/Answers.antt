use Rattle.std.proofs.Common.{[], ap, sym, subst, refl, ◌∙◌}
use Rattle.std.specs.Prelude.{IsTrue}
use Rattle.session.specs.Sessions.{IsSessionOver}
use Rattle.session.proofs.InputLemmas.{consumes_nothing}
use Rattle.session.proofs.line_by_line.lines_over.Goals as goal

pub returns-in-Ok : goal.returns-in-Ok
returns-in-Ok g c = λ honest.
    let (bytes, ends, consumed, session, same) =
    c.lines_on-status.ensures.came c.in-Ok.ensures.ok.ready (subst IsTrue (sym c.in-Ok.ensures.ok.opened.from.goes_on.honest) honest) in (
      bytes,
      consumed,
      IsSessionOver.opened c.in-Ok.solver.file ends c.in-Ok.ensures.ok.opened session
          (record { disk = c.close.ensures.disk ∙ ap (λ s. s.disk) same; failures = c.close.ensures.failures ∙ ap (λ s. s.failures) same }),
    )

pub returns-in-Err : goal.returns-in-Err
returns-in-Err g c = λ honest. (
  [],
  consumes_nothing (g.R.Read.remaining c.args.input.now),
  IsSessionOver.unopened c.in-Err.refused.fault (c.in-Err.ensures.err.refused, c.in-Err.ensures.err.cause) refl c.refuse.ensures refl,
)
