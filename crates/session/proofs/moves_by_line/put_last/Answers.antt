use Rattle.std.proofs.Common.{arith, refl}
use Rattle.legal_moves.specs.Compiled.{compiled_game}
use Rattle.session.proofs.MovesOnInput.{ended_behind_a_line, ended_in_a_line}
use Rattle.session.proofs.moves_by_line.put_last.Goals as goal

pub returns-then-is_empty : goal.returns-then-is_empty
returns-then-is_empty g c = λ bytes before left way at_end.
    ended_behind_a_line (compiled_game c.args.book.now) way at_end (c.is_empty.ensures.empty way.rest way.taken c.if-is_empty.true) refl

pub returns-then-status-gt1 : goal.returns-then-status-gt1
returns-then-status-gt1 g c = λ bytes before left way at_end.
    ended_in_a_line (compiled_game c.args.book.now) way at_end (c.is_empty.ensures.some way.rest way.taken c.if-is_empty.false)
    (c.put_moves_of-status.ensures way.rest way.taken) (λ high. refl) (λ low. absurd (omega (arith, low, c.if-status-gt1.true)))

pub returns-else-status-gt1 : goal.returns-else-status-gt1
returns-else-status-gt1 g c = λ bytes before left way at_end.
    ended_in_a_line (compiled_game c.args.book.now) way at_end (c.is_empty.ensures.some way.rest way.taken c.if-is_empty.false)
    (c.put_moves_of-status.ensures way.rest way.taken) (λ high. absurd (omega (arith, high, c.if-status-gt1.false))) (λ low. refl)
