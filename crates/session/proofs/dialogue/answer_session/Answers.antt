use Rattle.std.proofs.Common.{refl, sym, subst}
use Rattle.std.specs.Prelude.{IsTrue}
use Rattle.session.specs.Sessions.{LineOutcome, IsLineAnswered}
use Rattle.session.proofs.ToldTexts.{one_noted}
use Rattle.session.proofs.UnderWay.{outcome_of, outcome_by, done_honest, needs_none}
use Rattle.session.proofs.dialogue.answer_session.Goals as goal

pub returns-in-Quit-clause-came : goal.returns-in-Quit-clause-came
returns-in-Quit-clause-came g c = λ ready honest. LineOutcome.quits (c.in-Quit.is, refl, refl) refl

pub returns-in-Listing-clause-came : goal.returns-in-Listing-clause-came
returns-in-Listing-clause-came g c = λ ready honest.
    outcome_by (λ status text is. rw c.in-Listing.is (IsLineAnswered.about_listings c.in-Listing.about (c.put_listing.ensures.asked ready honest) is)) (λ q. q)
    (outcome_of c.put_listing.result (c.put_listing.ensures.replied ready honest) (c.put_listing.ensures.untold ready honest)
    (one_noted _ _ _ _ c.put_listing.ensures.noted) c.ended_by.ensures.written c.ended_by.ensures.unwritten)

pub returns-in_default : goal.returns-in_default
returns-in_default g c = record {
  ready = c.put_answer.ensures.left.ready;
  honest = λ ready honest. subst IsTrue (sym (done_honest _ c.args.asked _ _ (c.put_answer.ensures.done ready))) honest;
  came = λ ready honest.
      outcome_by (λ status text is. IsLineAnswered.plain c.args.asked
      (needs_none c.args.asked c.in_default.not-Listing c.in_default.not-Quit) is c.put_answer.ensures.left.lasts refl)
      (λ q. q)
      (outcome_of c.put_answer.result (c.put_answer.ensures.written ready).replied (c.put_answer.ensures.written ready).untold
      (one_noted _ _ _ _ c.put_answer.ensures.noted) c.ended_by-in_default.ensures.written c.ended_by-in_default.ensures.unwritten);
}
