use Rattle.solver.specs.Solvers.{state}
use Rattle.session_lines.proofs.Told.{moves_told}
use Rattle.session_lines.proofs.questions.moves_of.Goals as goal

pub returns-clause-text : goal.returns-clause-text
returns-clause-text g c = λ ready honest.
    moves_told _ _ c.in_ok-known.known c.in_ok-sorted.sorted.items _ (state c.args.solver.now) (state c.moves.new.self) honest
    (c.in_ok-known.ensures.moves ready) (c.in_ok-known.ensures.left.asked ready).kept (c.in_ok-needs_game.ensures.game (c.in_ok-known.ensures.left.ready ready))
    c.in_ok-sorted.ensures (rw c.deref.ensures.value at c.in_ok-known_move_lines.ensures)
