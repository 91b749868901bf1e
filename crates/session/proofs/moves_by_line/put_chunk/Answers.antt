use Rattle.std.proofs.Common.{◌+◌, ◌++◌, ◌∷◌, [], ap, append_assoc, drop, take, get_or, sym, ◌∙◌}
use Rattle.legal_moves.specs.Compiled.{compiled_game}
use Rattle.session.proofs.InputLemmas.{next_and_others, take_next}
use Rattle.session.proofs.MovesOnInput.{ended_in_chunk, goes_on_in_chunk}
use Rattle.session.proofs.moves_by_line.put_chunk.Goals as goal

pub returns-then-is_some : goal.returns-then-is_some
returns-then-is_some g c = λ bytes before way.
    let i = c.loop-byte.byte-index in
    let chunk = c.args.chunk.now in
    ended_in_chunk (compiled_game c.args.book.now) ((bytes ++ take i chunk) ++ get_or chunk i 0 ∷ []) (drop (i + 1) chunk) (bytes ++ chunk) before
    (g.W.Write.contents c.put_byte-ended.new.out) c.put_byte-ended.new.line c.put_byte-ended.result
    (next_and_others bytes chunk i (get_or chunk i 0) (take_next chunk i 0 c.loop-byte-test.true)) (sym c.is_some.ensures ∙ c.if-is_some.true)
    (c.put_byte-ended.ensures (bytes ++ take i chunk) before (c.loop-byte.invariant bytes before way))

pub loop-byte-preserved : goal.loop-byte-preserved
loop-byte-preserved g c = λ bytes before way.
    let i = c.loop-byte.byte-index in
    let chunk = c.args.chunk.now in
    goes_on_in_chunk (compiled_game c.args.book.now) ((bytes ++ take i chunk) ++ get_or chunk i 0 ∷ []) (bytes ++ take (i + 1) chunk) before
    (g.W.Write.contents c.put_byte-ended.new.out) c.put_byte-ended.new.line c.put_byte-ended.result
    (append_assoc bytes (take i chunk) (get_or chunk i 0 ∷ []) ∙ ap (λ t. bytes ++ t) (sym (take_next chunk i 0 c.loop-byte-test.true)))
    (sym c.is_some.ensures ∙ c.if-is_some.false)
    (c.put_byte-ended.ensures (bytes ++ take i chunk) before (c.loop-byte.invariant bytes before way))
