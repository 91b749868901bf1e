use Rattle.std.proofs.Common.{Ok, refl, sym, ap}
use Rattle.session.proofs.commands.audited.Goals as goal

pub returns-in_default-clause-came : goal.returns-in_default-clause-came
returns-in_default-clause-came g c = (c.requires.open, c.in_default.ensures.none.0 refl)

pub returns-in-Err-clause-came : goal.returns-in-Err-clause-came
returns-in-Err-clause-came g c = c.in-Err.ensures.err.cause c.requires.ready

pub returns-in-Ok-clause-came : goal.returns-in-Ok-clause-came
returns-in-Ok-clause-came g c = record {
  counted = sym (c.in-Some.ensures.told c.requires.ready);
  has = c.in-Ok.ensures.verdict c.requires.ready;
  so = λ right. c.in-Ok.ensures.so c.requires.ready (ap (λ v. Ok v) right);
}
