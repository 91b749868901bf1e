use Rattle.solver.specs.Solvers.{state}
use Rattle.session_lines.specs.Answered.{IsAnswerTo, QuestionCause}
use Rattle.session_lines.proofs.Plain.{is_plain, text_answers}
use Rattle.session_lines.proofs.ReplyLines.{put_by}
use Rattle.session_lines.proofs.questions.put_answer.Goals as goal

pub returns-in-Work-clause-left : goal.returns-in-Work-clause-left
returns-in-Work-clause-left g c = c.put_worked.ensures.left

pub returns-in-Work-clause-written : goal.returns-in-Work-clause-written
returns-in-Work-clause-written g c = λ ready. rw c.in-Work.is
    (record { replied = c.put_worked.ensures.worked ready; untold = c.put_worked.ensures.untold ready })

pub returns-in-Question-clause-left : goal.returns-in-Question-clause-left
returns-in-Question-clause-left g c = record { ready = c.text_of-answered.ensures.left.ready; lasts = c.text_of-answered.ensures.left.lasts }

pub returns-in-Question-clause-written : goal.returns-in-Question-clause-written
returns-in-Question-clause-written g c = λ ready.
    rw c.in-Question.is
    (put_by _ _ c.put_text.result
    (λ status line is. (
      c.text_of-answered.ensures.left.asked ready,
      text_answers (IsAnswerTo c.in-Question.question) (QuestionCause c.in-Question.question (state c.args.solver.now) (state c.text_of-answered.new.solver))
          (state c.args.solver.now) c.text_of-answered.result (c.text_of-answered.ensures.text ready) (c.text_of-answered.ensures.cause ready) status line is,
    )) c.put_text.ensures.written c.put_text.ensures.part)

pub returns-in_default-clause-written : goal.returns-in_default-clause-written
returns-in_default-clause-written g c = λ ready.
    let plain = is_plain c.args.asked c.in_default.not-Work c.in_default.not-Question in
    record { replied = c.put_plain.ensures.replied ready plain; untold = c.put_plain.ensures.untold ready plain }
