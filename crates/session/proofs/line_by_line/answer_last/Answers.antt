use Rattle.std.proofs.Common.{refl, subst}
use Rattle.session_lines.specs.Asked.{Asks}
use Rattle.session.proofs.Requests.{last_says}
use Rattle.session.proofs.UnderWay.{outcome_by}
use Rattle.session.proofs.line_by_line.answer_last.Goals as goal

pub returns-clause-came : goal.returns-clause-came
returns-clause-came g c = λ ready honest bytes come.
    let asks = last_says c.args.dialogue.now.line bytes c.asked_last-asked.result come c.asked_last-asked.ensures.long c.asked_last-asked.ensures.line in
    outcome_by (λ status text is. (bytes, refl, c.asked_last-asked.result, asks, is)) (λ q. ((bytes, refl, subst (Asks bytes) q.0 asks), q.1))
    (c.answer.ensures.came ready honest)
