use Rattle.edits_solver.proofs.Two.{run_of_two}
use Rattle.edits_solver.proofs.commands.two_commands.Goals as goal

pub returns : goal.returns
returns g c = λ d e b f ready honest is_open replies. run_of_two d e b f (c.in_ok-run.ensures.run ready) honest is_open replies
