use Rattle.std.proofs.Common.{subst}
use Rattle.legal_moves.specs.Compiled.{compiled_game}
use Rattle.session_lines.specs.Asked.{IsBare}
use Rattle.session.proofs.MovesOnInput.{tells_long, tells_short}
use Rattle.session.proofs.moves_by_line.put_answer.Goals as goal

pub returns-then-line : goal.returns-then-line
returns-then-line g c = λ bytes taken. tells_long (compiled_game c.args.book.now) c.args.line.now bytes taken c.if-line.true c.write_refused.ensures

pub returns : goal.returns
returns g c = λ bytes taken.
    tells_short (compiled_game c.args.book.now) c.args.line.now bytes c.without_return.result.now taken c.if-line.false
    (subst (λ bs. IsBare bs c.without_return.result.now) c.as_slice.ensures.value c.without_return.ensures) c.put_moves_at.ensures
