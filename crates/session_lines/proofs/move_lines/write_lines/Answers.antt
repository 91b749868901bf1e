use Rattle.std.proofs.Common.{[], ◌++◌, refl, subst, arith}
use Rattle.std.proofs.lemmas.List.{take_all}
use Rattle.std.specs.Io.KnownBytes.{Appends}
use Rattle.legal_moves.specs.Compiled.{compiled_game}
use Rattle.session_lines.specs.Lines.{AreLinesOfMoves}
use Rattle.session_lines.specs.Parts.{AppendsPart}
use Rattle.session_lines.proofs.Appends.{appends_then, appends_nothing}
use Rattle.session_lines.proofs.WritingLemmas.{lines_part, one_more_line, stopped, unwritten}
use Rattle.session_lines.proofs.move_lines.write_lines.Goals as goal

pub loop-k-init : goal.loop-k-init
loop-k-init g c = ([], refl, appends_nothing (g.W.Write.contents c.args.out.now))

pub loop-k-preserved : goal.loop-k-preserved
loop-k-preserved g c =
    let before = c.loop-k.invariant in
    let line = c.in_ok-line.line.items in
    let is = c.in_ok-line.ensures in
    let bytes = c.in_ok-put_bytes.ensures in (
      before.0 ++ line,
      one_more_line (compiled_game c.args.compiled.now) c.args.moves.now c.loop-k.k before.0 line
          (omega (arith, c.loop-k-test.true, c.len-k-end.ensures)) before.1 is,
      appends_then (g.W.Write.contents c.args.out.now) (g.W.Write.contents c.loop-k.out)
          (g.W.Write.contents c.put_bytes.new.out) before.0 line before.2
          (subst (Appends (g.W.Write.contents c.loop-k.out) (g.W.Write.contents c.put_bytes.new.out)) c.deref.ensures.value bytes.all),
    )

pub returns-in_err-line-clause-stopped : goal.returns-in_err-line-clause-stopped
returns-in_err-line-clause-stopped g c =
    let before = c.loop-k.invariant in
    stopped (compiled_game c.args.compiled.now) c.args.moves.now _ _ _ c.from_residual.result c.from_residual.ensures.1
    (c.loop-k.k, before.0, before.1, before.2)

pub returns-in_err-put_bytes-clause-stopped : goal.returns-in_err-put_bytes-clause-stopped
returns-in_err-put_bytes-clause-stopped g c =
    let before = c.loop-k.invariant in
    unwritten (compiled_game c.args.compiled.now) c.args.moves.now _ _ _ c.from_residual-in_err-put_bytes.result c.from_residual-in_err-put_bytes.ensures.1
    (lines_part (compiled_game c.args.compiled.now) c.args.moves.now c.loop-k.k before.0 c.in_ok-line.line.items
    (omega (arith, c.loop-k-test.true, c.len-k-end.ensures)) c.requires.positions before.1 c.in_ok-line.ensures before.2
    (subst (AppendsPart (g.W.Write.contents c.loop-k.out) (g.W.Write.contents c.put_bytes.new.out)) c.deref.ensures.value c.in_err-put_bytes.ensures.part))

pub returns-clause-ok : goal.returns-clause-ok
returns-clause-ok g c =
    let before = c.loop-k.invariant in
    let all = take_all c.loop-k.k c.args.moves.now (omega (arith, c.loop-k-test.false, c.len-k-end.ensures)) in
    (before.0, subst (λ ms. AreLinesOfMoves (compiled_game c.args.compiled.now) ms before.0) all before.1, before.2)
