use Rattle.solver.specs.Solvers.{state}
use Rattle.session_lines.proofs.Told.{line_told}
use Rattle.session_lines.proofs.questions.play_of.Goals as goal

pub returns-clause-text : goal.returns-clause-text
returns-clause-text g c = λ ready.
    line_told _ _ _ (state c.args.solver.now) (c.in_ok-numbers.ensures.told ready) (c.in_ok-numbers.ensures.line ready)
    (rw c.deref.ensures.value at c.in_ok-numbers_line.ensures)
