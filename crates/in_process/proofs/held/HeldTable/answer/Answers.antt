use Rattle.std.proofs.Common.{ap}
use Rattle.in_process.proofs.InRooms.{answered_in}
use Rattle.in_process.proofs.held.HeldTable.answer.Goals as goal

pub returns-clause-answered : goal.returns-clause-answered
returns-clause-answered c =
    answered_in c.take_kept-kept.ensures.kept (ap (λ them. them.items) c.take_kept-kept.ensures.answers) c.put_kept.ensures.kept
    (ap (λ them. them.items) c.put_kept.ensures.answers) c.answered-status.ensures.answered
