use Rattle.std.proofs.Common.{refl}
use Rattle.session_lines.proofs.ReplyLines.{replied, untold}
use Rattle.session_lines.proofs.questions.put_text.Goals as goal

pub returns-in-Ok-clause-written : goal.returns-in-Ok-clause-written
returns-in-Ok-clause-written g c =
    rw c.in-Ok.is
    (replied _ _ c.put_done.result 0 c.deref.result.now c.put_done.ensures.status c.put_done.ensures.line (refl, c.deref.ensures.value))

pub returns-in-Ok-clause-part : goal.returns-in-Ok-clause-part
returns-in-Ok-clause-part g c =
    rw c.in-Ok.is (untold _ _ _ c.put_done.result 0 c.deref.result.now c.put_done.ensures.part (refl, c.deref.ensures.value))

pub returns-in-Err-clause-written : goal.returns-in-Err-clause-written
returns-in-Err-clause-written g c =
    rw c.in-Err.is (replied _ _ c.put_fault.result _ _ c.put_fault.ensures.status c.put_fault.ensures.line (refl, refl))

pub returns-in-Err-clause-part : goal.returns-in-Err-clause-part
returns-in-Err-clause-part g c = rw c.in-Err.is (untold _ _ _ c.put_fault.result _ _ c.put_fault.ensures.part (refl, refl))
