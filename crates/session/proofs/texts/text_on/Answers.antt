use Rattle.std.proofs.Common.{inr}
use Rattle.session.specs.Commands.{refused}
use Rattle.session.proofs.Audits.{text_done}
use Rattle.session.proofs.texts.text_on.Goals as goal

pub returns-in-Ok : goal.returns-in-Ok
returns-in-Ok g c =
    let (came, it, why, said) = c.said_text.ensures in (
      came,
      text_done _ _ _ _ _ _ c.in-Ok.ensures.ok.opened (record { disk = c.close.ensures.disk; failures = c.close.ensures.failures }) came it,
      why,
      said,
    )

pub returns-in-Err : goal.returns-in-Err
returns-in-Err g c = (
  refused c.in-Err.refused.fault,
  inr (c.in-Err.ensures.err.refused, c.in-Err.ensures.err.cause),
  c.said_refused.ensures.refused,
  c.said_refused.ensures.told,
)
