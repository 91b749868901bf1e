use Rattle.legal_moves.specs.Compiled.{compiled_game}
use Rattle.session.proofs.MovesOnInput.{blank_left_out, blank_unwritten, blank_written}
use Rattle.session.proofs.moves_by_line.put_moves_of.Goals as goal

pub returns-then-status-eq4 : goal.returns-then-status-eq4
returns-then-status-eq4 g c = λ bytes taken.
    blank_left_out (compiled_game c.args.book.now) bytes c.put_answer-status.result (c.put_answer-status.ensures bytes taken) c.if-status-eq4.true

pub returns-in-Ok : goal.returns-in-Ok
returns-in-Ok g c = λ bytes taken.
    blank_written (compiled_game c.args.book.now) bytes c.put_answer-status.result (c.put_answer-status.ensures bytes taken) c.if-status-eq4.false
    c.in-Ok.ensures.all

pub returns-in-Err : goal.returns-in-Err
returns-in-Err g c = λ bytes taken.
    blank_unwritten (compiled_game c.args.book.now) bytes c.put_answer-status.result (c.put_answer-status.ensures bytes taken) c.if-status-eq4.false
    c.in-Err.ensures.part
