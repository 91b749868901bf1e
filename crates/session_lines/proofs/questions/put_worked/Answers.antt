use Rattle.std.proofs.Common.{◌≡◌, refl, sym, subst, ap, ◌∙◌, rules}
use Rattle.solver.specs.declared.fault.SolverFault.TheVariants.{TableFull}
use Rattle.session_lines.specs.Answered.{status_of_reply}
use Rattle.solver.specs.declared.replies.Reply.TheVariants.{Refused}
use Rattle.session_lines.specs.Told.{fault_line, IsReplyLine}
use Rattle.session_lines.proofs.ReplyLines.{untold, untold_at}
use Rattle.session_lines.proofs.questions.put_worked.Goals as goal

pub returns-in-Refused-clause-done : goal.returns-in-Refused-clause-done
returns-in-Refused-clause-done g c = λ ready. (_, c.answer-reply.ensures.turn ready)

pub returns-in-Refused-clause-untold : goal.returns-in-Refused-clause-untold
returns-in-Refused-clause-untold g c = λ ready.
    untold _ _ _ c.put_fault.result (status_of_reply c.answer-reply.result) (fault_line c.in-Refused.fault) c.put_fault.ensures.part
    (record { reply = c.answer-reply.result; turn = c.answer-reply.ensures.turn ready; status_is = refl; line_is = rw c.in-Refused.is refl })

pub returns-in_err-put_refused-in-Refused-TableFull-clause-untold : goal.returns-in_err-put_refused-in-Refused-TableFull-clause-untold
returns-in_err-put_refused-in-Refused-TableFull-clause-untold g c = λ ready.
    let fault : c.in-Refused-TableFull.field-0 ≡ TableFull = rw c.in-Refused-TableFull.is at c.in-Refused-TableFull.field-0-is in
    let is : c.answer-reply.result ≡ Refused TableFull = c.in-Refused-TableFull.is ∙ ap Refused fault in
    let full : IsReplyLine c.answer-reply.result (fault_line TableFull) = subst (λ r. IsReplyLine r (fault_line TableFull)) (sym is) refl in
    untold_at _ c.from_residual.result (status_of_reply c.answer-reply.result) (fault_line TableFull)
    (record { reply = c.answer-reply.result; turn = c.answer-reply.ensures.turn ready; status_is = refl; line_is = full })
    c.in_err-put_refused-in-Refused-TableFull.ensures.part

pub returns-in_err-put_reply-in_default : goal.returns-in_err-put_reply-in_default
returns-in_err-put_reply-in_default g c = record {
  done = λ ready. (_, c.answer-reply.ensures.turn ready);
  left = record { ready = c.answer-reply.ensures.left.ready; lasts = c.answer-reply.ensures.left.lasts };
  worked = search rules;
  noted = c.note.ensures;
  untold = λ ready.
      let (line, is_line, part) = c.in_err-put_reply-in_default.ensures.part in
      untold_at _ c.from_residual-in_err-put_reply-in_default.result (status_of_reply c.answer-reply.result) line
      (record { reply = c.answer-reply.result; turn = c.answer-reply.ensures.turn ready; status_is = refl; line_is = is_line }) part;
}
