use Rattle.std.proofs.Common.{[], ◌∷◌, ◌++◌, ap, sym, ◌∙◌, subst, inl, inr, length, refl}
use Rattle.std.specs.Prelude.{codes}
use Rattle.std.specs.Io.KnownBytes.{Keeps}
use Rattle.session_lines.proofs.Appends.{appends_and_keeps}
use Rattle.legal_moves.specs.Compiled.{compiled_game}
use Rattle.session_lines.proofs.AnswerLemmas.{nothing_left}
use Rattle.session_lines.proofs.PartLemmas.{whole_kept}
use Rattle.session_lines.proofs.WritingLemmas.{unwritten}
use Rattle.session_lines.proofs.move_lines.write_answer.Goals as goal
use Rattle.session_lines.proofs.move_lines.write_answer.Goals.{then-len-eq0+in_ok-put_bytes, else-len-eq0+in_ok-write_lines}

pub returns-clause-ok : goal.returns-clause-ok
returns-clause-ok g c =
    let contents = g.W.Write.contents in
    let kept = c.in_ok-flush.ensures in
    elim c.if-len-eq0.branch [
      | then-len-eq0+in_ok-put_bytes w ↦
          let bytes = w.in_ok-put_bytes.ensures in
          let none = nothing_left c.args.moves.now (sym c.len.ensures ∙ w.if-len-eq0.true) in
          let flushed = subst (λ o. Keeps (contents o) (contents c.flush.new.self)) w.out-is kept.bytes in (
            codes "ended" ++ 10 ∷ [],
            inl (none, refl),
            appends_and_keeps (contents c.args.out.now) (contents w.put_bytes.new.out)
                (contents c.flush.new.self) _ bytes.all flushed,
          )
      | else-len-eq0+in_ok-write_lines w ↦
          let lines = w.in_ok-write_lines.ensures in
          let flushed = subst (λ o. Keeps (contents o) (contents c.flush.new.self)) w.out-is kept.bytes in (
            lines.ok.0,
            inr ((λ none. w.if-len-eq0.false (c.len.ensures ∙ ap length none)), lines.ok.1),
            appends_and_keeps (contents c.args.out.now) (contents w.write_lines.new.out) (contents c.flush.new.self) lines.ok.0 lines.ok.2 flushed,
          )
    ]

pub returns-in_err-flush-clause-stopped : goal.returns-in_err-flush-clause-stopped
returns-in_err-flush-clause-stopped g c =
    let contents = g.W.Write.contents in
    let kept = c.in_err-flush.ensures in
    unwritten (compiled_game c.args.compiled.now) c.args.moves.now _ _ _ c.from_residual-in_err-flush.result c.from_residual-in_err-flush.ensures.1
    (elim c.if-len-eq0.branch [
      | then-len-eq0+in_ok-put_bytes w ↦
          let none = nothing_left c.args.moves.now (sym c.len.ensures ∙ w.if-len-eq0.true) in
          let flushed = subst (λ o. Keeps (contents o) (contents c.flush.new.self)) w.out-is kept.bytes in (
            codes "ended" ++ 10 ∷ [],
            inl (none, refl),
            whole_kept (contents c.args.out.now) (contents w.put_bytes.new.out) (contents c.flush.new.self) _ w.in_ok-put_bytes.ensures.all flushed,
          )
      | else-len-eq0+in_ok-write_lines w ↦
          let lines = w.in_ok-write_lines.ensures in
          let flushed = subst (λ o. Keeps (contents o) (contents c.flush.new.self)) w.out-is kept.bytes in (
            lines.ok.0,
            inr ((λ none. w.if-len-eq0.false (c.len.ensures ∙ ap length none)), lines.ok.1),
            whole_kept (contents c.args.out.now) (contents w.write_lines.new.out) (contents c.flush.new.self) lines.ok.0 lines.ok.2 flushed,
          )
    ])
