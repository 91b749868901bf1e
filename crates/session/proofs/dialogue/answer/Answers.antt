use Rattle.std.proofs.Common.{refl}
use Rattle.session.proofs.UnderWay.{outcome_by}
use Rattle.session.proofs.dialogue.answer.Goals as goal

pub returns-in-Work-clause-came : goal.returns-in-Work-clause-came
returns-in-Work-clause-came g c = λ ready honest.
    rw c.in-Work.is (outcome_by (λ status text is. is) (λ q. (q.0, rw q.1 (rw q.2 refl))) (c.answer_session.ensures.came ready honest))

pub returns-in-Look-clause-came : goal.returns-in-Look-clause-came
returns-in-Look-clause-came g c = λ ready honest.
    rw c.in-Look.is (outcome_by (λ status text is. is) (λ q. (q.0, rw q.1 refl)) (c.answer_look.ensures.came ready))
