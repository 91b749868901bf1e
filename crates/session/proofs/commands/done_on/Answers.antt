use Rattle.std.proofs.Common.{inl, inr}
use Rattle.solver.specs.Solvers.{state}
use Rattle.session.specs.Commands.{came_of}
use Rattle.session.proofs.Audits.{audit_done}
use Rattle.session.proofs.commands.done_on.Goals as goal

pub audited-requires-clause-open : goal.audited-requires-clause-open
audited-requires-clause-open g c = c.in-Ok-open-2.ensures.ok.opened.is_open

pub returns-in-Ok : goal.returns-in-Ok
returns-in-Ok g c =
    rw c.in-Create.is (state c.in-Ok.solver, c.in-Ok.ensures.created, record { disk = c.close.ensures.disk; failures = c.close.ensures.failures })

pub returns-in-Err : goal.returns-in-Err
returns-in-Err g c = rw c.in-Create.is (c.in-Err.ensures.refused, c.in-Err.ensures.cause)

pub returns-in-Ok-open : goal.returns-in-Ok-open
returns-in-Ok-open g c = rw c.in-Load.is (
  state c.in-Ok-open.solver,
  state c.answer-reply.new.self,
  c.in-Ok-open.ensures.ok.opened,
  record { disk = c.close-in-Ok-open.ensures.disk; failures = c.close-in-Ok-open.ensures.failures },
  c.answer-reply.ensures.turn c.in-Ok-open.ensures.ok.ready,
)

pub returns-in-Err-open : goal.returns-in-Err-open
returns-in-Err-open g c = rw c.in-Load.is (c.in-Err-open.ensures.err.refused, c.in-Err-open.ensures.err.cause)

pub returns-in-Ok-open-2 : goal.returns-in-Ok-open-2
returns-in-Ok-open-2 g c = rw c.in-Audit.is
    (audit_done _ _ _ _ _ _ _ c.in-Ok-open-2.ensures.ok.opened c.audited.ensures.asked
    (record { disk = c.close-in-Ok-open-2.ensures.disk; failures = c.close-in-Ok-open-2.ensures.failures }) (came_of c.audited.result)
    c.audited.ensures.came)

pub returns-in-Err-open-2 : goal.returns-in-Err-open-2
returns-in-Err-open-2 g c = rw c.in-Audit.is (inr (c.in-Err-open-2.ensures.err.refused, c.in-Err-open-2.ensures.err.cause))

pub returns-in-Ok-grow : goal.returns-in-Ok-grow
returns-in-Ok-grow g c = rw c.in-Grow.is (
  state c.in-Ok-open-3.solver,
  state c.grow.new.self,
  c.in-Ok-open-3.ensures.ok.opened,
  record { disk = c.close-in-Ok-grow.ensures.disk; failures = c.close-in-Ok-grow.ensures.failures },
  c.grow.ensures.growth c.in-Ok-open-3.ensures.ok.ready,
  c.in-Ok-grow.ensures.grown c.in-Ok-open-3.ensures.ok.ready,
)

pub returns-in-Err-grow : goal.returns-in-Err-grow
returns-in-Err-grow g c = rw c.in-Grow.is (inl (
  state c.in-Ok-open-3.solver,
  state c.grow.new.self,
  c.in-Ok-open-3.ensures.ok.opened,
  record { disk = c.close-in-Err-grow.ensures.disk; failures = c.close-in-Err-grow.ensures.failures },
  c.grow.ensures.growth c.in-Ok-open-3.ensures.ok.ready,
  c.in-Err-grow.ensures.err.refused c.in-Ok-open-3.ensures.ok.ready,
  c.in-Err-grow.ensures.err.cause,
))

pub returns-in-Err-open-3 : goal.returns-in-Err-open-3
returns-in-Err-open-3 g c = rw c.in-Grow.is (inr (c.in-Err-open-3.ensures.err.refused, c.in-Err-open-3.ensures.err.cause))
