use Rattle.std.proofs.Common.{[], inl, refl}
use Rattle.legal_moves.specs.Compiled.{compiled_game}
use Rattle.session_lines.specs.Answers.{IsListing}
use Rattle.session_lines.proofs.Appends.{appends_nothing}
use Rattle.session_lines.proofs.AnswerLemmas.{positions_of, answer_of, on_ok, stopped_of}
use Rattle.session_lines.proofs.move_lines.write_moves.Goals as goal

pub write_answer-requires-clause-positions : goal.write_answer-requires-clause-positions
write_answer-requires-clause-positions g c =
    positions_of (compiled_game c.args.compiled.now) c.args.at.now c.in-Ok.moves c.requires.compiled.sound c.requires.at c.in-Ok.ensures.exact.words

pub returns-clause-ok : goal.returns-clause-ok
returns-clause-ok g c =
    let game = compiled_game c.args.compiled.now in
    let at = c.args.at.now in
    let listing : IsListing game at c.in-Ok.moves = record { moves_are = c.in-Ok.ensures.exact; shortest = c.in-Ok.ensures.shortest } in
    on_ok c.write_answer.result (λ w. (w.0, answer_of game at c.in-Ok.moves w.0 listing w.1, w.2)) c.write_answer.ensures.ok

pub returns-clause-stopped : goal.returns-clause-stopped
returns-clause-stopped g c =
    let game = compiled_game c.args.compiled.now in
    let at = c.args.at.now in
    let listing : IsListing game at c.in-Ok.moves = record { moves_are = c.in-Ok.ensures.exact; shortest = c.in-Ok.ensures.shortest } in
    stopped_of game at c.in-Ok.moves _ _ c.write_answer.result listing c.write_answer.ensures.stopped

pub returns-in-Err-OutOfMemory-clause-stopped : goal.returns-in-Err-OutOfMemory-clause-stopped
returns-in-Err-OutOfMemory-clause-stopped g c = ([], inl refl, appends_nothing (g.W.Write.contents c.args.out.now))
