use Rattle.std.proofs.Common.{◌+◌, ◌++◌, ◌∷◌, [], ap, append_assoc, drop, take, get_or, sym, ◌∙◌}
use Rattle.solver.specs.Solvers.{state}
use Rattle.session.specs.Seen.{seen}
use Rattle.session.specs.Sessions.{session_state}
use Rattle.session.proofs.InputLemmas.{next_and_others, take_next}
use Rattle.session.proofs.UnderWay.{still_under_way, stopped_within}
use Rattle.session.proofs.line_by_line.answer_chunk.Goals as goal

pub returns-then-is_some-clause-ready : goal.returns-then-is_some-clause-ready
returns-then-is_some-clause-ready g c = λ ready. c.answer_byte-ended.ensures.ready (c.loop-byte.invariant.0 ready)

pub returns-then-is_some-clause-honest : goal.returns-then-is_some-clause-honest
returns-then-is_some-clause-honest g c = λ ready honest.
    c.answer_byte-ended.ensures.honest (c.loop-byte.invariant.0 ready) (c.loop-byte.invariant.1 ready honest)

pub returns-then-is_some-clause-came : goal.returns-then-is_some-clause-came
returns-then-is_some-clause-came g c = λ ready honest bytes begins before way.
    let i = c.loop-byte.byte-index in
    let chunk = c.args.chunk.now in
    stopped_within g.F.GameFile.stores g.F.GameFile.state g.F.Versions.is_version g.F.Versions.are_two g.F.Versions.is_used_up g.F.GameFile.lasts
    ((bytes ++ take i chunk) ++ get_or chunk i 0 ∷ []) (drop (i + 1) chunk) (bytes ++ chunk) begins
    (session_state c.answer_byte-ended.new.solver.file c.answer_byte-ended.new.dialogue.manner) before
    (seen state g.W.Write.contents c.answer_byte-ended.new.out c.answer_byte-ended.new.moments) c.answer_byte-ended.new.dialogue.line
    c.answer_byte-ended.result (next_and_others bytes chunk i (get_or chunk i 0) (take_next chunk i 0 c.loop-byte-test.true))
    (sym c.is_some.ensures ∙ c.if-is_some.true)
    (c.answer_byte-ended.ensures.came (c.loop-byte.invariant.0 ready) (c.loop-byte.invariant.1 ready honest) (bytes ++ take i chunk) begins before
    (c.loop-byte.invariant.2 ready honest bytes begins before way))

pub loop-byte-preserved : goal.loop-byte-preserved
loop-byte-preserved g c = (
  λ ready. c.answer_byte-ended.ensures.ready (c.loop-byte.invariant.0 ready),
  λ ready honest. c.answer_byte-ended.ensures.honest (c.loop-byte.invariant.0 ready) (c.loop-byte.invariant.1 ready honest),
  λ ready honest bytes begins before way.
      let i = c.loop-byte.byte-index in
      let chunk = c.args.chunk.now in
      let next = take_next chunk i 0 c.loop-byte-test.true in
      still_under_way g.F.GameFile.stores g.F.GameFile.state g.F.Versions.is_version g.F.Versions.are_two g.F.Versions.is_used_up g.F.GameFile.lasts
      ((bytes ++ take i chunk) ++ get_or chunk i 0 ∷ []) (bytes ++ take (i + 1) chunk) begins
      (session_state c.answer_byte-ended.new.solver.file c.answer_byte-ended.new.dialogue.manner) before
      (seen state g.W.Write.contents c.answer_byte-ended.new.out c.answer_byte-ended.new.moments) c.answer_byte-ended.new.dialogue.line c.answer_byte-ended.result
      (append_assoc bytes (take i chunk) (get_or chunk i 0 ∷ []) ∙ ap (λ t. bytes ++ t) (sym next)) (sym c.is_some.ensures ∙ c.if-is_some.false)
      (c.answer_byte-ended.ensures.came (c.loop-byte.invariant.0 ready) (c.loop-byte.invariant.1 ready honest) (bytes ++ take i chunk) begins before
      (c.loop-byte.invariant.2 ready honest bytes begins before way)),
)
