use Rattle.std.proofs.Common.{refl}
use Rattle.session.proofs.Requests.{come_of_none}
use Rattle.session.proofs.UnderWay.{line_answered, no_room}
use Rattle.session.proofs.line_by_line.answer_byte.Goals as goal

pub returns-in-Err-clause-came : goal.returns-in-Err-clause-came
returns-in-Err-clause-came g c = λ ready honest bytes begins before way. no_room _ _ _ _ _ _ c.args.byte way c.refuse.ensures refl

pub returns-clause-came : goal.returns-clause-came
returns-clause-came g c = λ ready honest bytes begins before way.
    rw c.if-byte-ne10.false
    (line_answered _ _ _ _ _ _ way (c.answer_ended-ended.ensures.came ready honest way.rest way.come)
    (come_of_none c.clear.new.self c.clear.ensures.empty c.clear.ensures.short))
