use Rattle.std.proofs.Common.{subst}
use Rattle.session_lines.specs.Asked.{Asks}
use Rattle.session.proofs.Requests.{ended_says}
use Rattle.session.proofs.UnderWay.{outcome_by}
use Rattle.session.proofs.line_by_line.answer_ended.Goals as goal

pub returns-clause-came : goal.returns-clause-came
returns-clause-came g c = λ ready honest bytes come.
    let (bare, is_bare, asks) = ended_says c.args.dialogue.now.line bytes c.asked-asked.result come c.asked-asked.ensures.long c.asked-asked.ensures.line in
    outcome_by (λ status text is. (bare, is_bare, c.asked-asked.result, asks, is)) (λ q. ((bare, is_bare, subst (Asks bare) q.0 asks), q.1))
    (c.answer.ensures.came ready honest)
