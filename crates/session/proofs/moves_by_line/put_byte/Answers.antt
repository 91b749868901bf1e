use Rattle.legal_moves.specs.Compiled.{compiled_game}
use Rattle.session.proofs.MovesOnInput.{has_no_room, line_told, waits}
use Rattle.session.proofs.moves_by_line.put_byte.Goals as goal

pub returns-in-Ok : goal.returns-in-Ok
returns-in-Ok g c = λ bytes before way.
    waits (compiled_game c.args.book.now) way c.if-byte-ne10.true (c.in-Ok.ensures way.rest way.taken)

pub returns-in-Err : goal.returns-in-Err
returns-in-Err g c = λ bytes before way. has_no_room (compiled_game c.args.book.now) c.args.byte way c.write_refused.ensures

pub returns : goal.returns
returns g c = λ bytes before way.
    rw c.if-byte-ne10.false
    (line_told (compiled_game c.args.book.now) way (c.put_moves_of-status.ensures way.rest way.taken) c.clear.ensures c.ended_with.result
    c.ended_with.ensures.high c.ended_with.ensures.low)
