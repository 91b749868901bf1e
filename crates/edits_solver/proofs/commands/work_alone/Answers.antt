use Rattle.edits_solver.proofs.Two.{done_alone}
use Rattle.edits_solver.proofs.commands.work_alone.Goals as goal

pub returns : goal.returns
returns g c = λ ready honest. done_alone (c.in_ok-done.ensures.done ready) c.work.ensures.left.ahead honest
