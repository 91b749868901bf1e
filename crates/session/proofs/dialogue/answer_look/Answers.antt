use Rattle.std.proofs.Common.{refl, sym, subst}
use Rattle.std.specs.Prelude.{IsTrue}
use Rattle.session_lines.specs.Asked.{in_look}
use Rattle.session.specs.Sessions.{LineOutcome}
use Rattle.session.proofs.ToldTexts.{one_noted}
use Rattle.session.proofs.UnderWay.{outcome_of, outcome_by, done_honest}
use Rattle.session.proofs.dialogue.answer_look.Goals as goal

pub returns-in-Quit-clause-came : goal.returns-in-Quit-clause-came
returns-in-Quit-clause-came g c = λ ready. LineOutcome.quits (c.in-Quit.is, refl) refl

pub returns-in_default : goal.returns-in_default
returns-in_default g c = record {
  ready = c.put_looked.ensures.ready;
  honest = λ ready honest. subst IsTrue (sym (done_honest _ (in_look c.args.asked) _ _ (c.put_looked.ensures.done ready))) honest;
  came = λ ready.
      outcome_by (λ status text is. record { goes_on = c.in_default.not-Quit; replied = is }) (λ q. q)
      (outcome_of c.put_looked.result (c.put_looked.ensures.written ready).replied (c.put_looked.ensures.written ready).untold
      (one_noted _ _ _ _ c.put_looked.ensures.noted) c.ended_by.ensures.written c.ended_by.ensures.unwritten);
}
