use Rattle.std.proofs.Common.{inl, inr, refl}
use Rattle.session_lines.proofs.ReplyLines.{replied, untold}
use Rattle.session_lines.proofs.listings.put_listing.Goals as goal

pub returns-in-Ok-clause-replied : goal.returns-in-Ok-clause-replied
returns-in-Ok-clause-replied g c = λ ready honest.
    let begun = rw c.in-Ok.is at c.begin-begun.ensures.begun in
    rw c.in-Begin.is
    (replied _ _ c.put_done.result 0 _ c.put_done.ensures.status c.put_done.ensures.line
    (inl (
      refl,
      record {
        listing = begun.0;
        behind = begun.1;
        first = begun.2;
        of_table = λ kept is. (begun.3 ready honest kept is).0;
        is_table = λ kept is. (begun.3 ready honest kept is).1;
        others = c.begin-begun.ensures.all;
        apart = begun.4;
        line_is = refl;
      },
    )))

pub returns-in-Err-clause-replied : goal.returns-in-Err-clause-replied
returns-in-Err-clause-replied g c = λ ready honest.
    rw c.in-Begin.is
    (replied _ _ c.put_fault.result _ _ c.put_fault.ensures.status c.put_fault.ensures.line
    (inr (record {
      others = c.begin-begun.ensures.all;
      why = c.in-Err.fault;
      status_is = refl;
      line_is = refl;
      same = rw c.in-Err.is at c.begin-begun.ensures.refused;
      cause = rw c.in-Err.is at c.begin-begun.ensures.cause;
    })))

pub returns-then-ended-clause-replied : goal.returns-then-ended-clause-replied
returns-then-ended-clause-replied g c = λ ready honest.
    let ended = c.end-ended.ensures.ended c.if-ended.true in
    rw c.in-End.is
    (replied _ _ c.put_done-then-ended.result 0 _ c.put_done-then-ended.ensures.status c.put_done-then-ended.ensures.line
    (inr (refl, record { listing = ended.0; was = ended.1; ended = ended.2; others = ended.3; line_is = refl })))

pub returns-in-Ok-clause-untold : goal.returns-in-Ok-clause-untold
returns-in-Ok-clause-untold g c = λ ready honest.
    let begun = rw c.in-Ok.is at c.begin-begun.ensures.begun in
    rw c.in-Begin.is
    (untold _ _ _ c.put_done.result 0 _ c.put_done.ensures.part
    (inl (
      refl,
      record {
        listing = begun.0;
        behind = begun.1;
        first = begun.2;
        of_table = λ kept is. (begun.3 ready honest kept is).0;
        is_table = λ kept is. (begun.3 ready honest kept is).1;
        others = c.begin-begun.ensures.all;
        apart = begun.4;
        line_is = refl;
      },
    )))

pub returns-then-ended-clause-untold : goal.returns-then-ended-clause-untold
returns-then-ended-clause-untold g c = λ ready honest.
    let ended = c.end-ended.ensures.ended c.if-ended.true in
    rw c.in-End.is
    (untold _ _ _ c.put_done-then-ended.result 0 _ c.put_done-then-ended.ensures.part
    (inr (refl, record { listing = ended.0; was = ended.1; ended = ended.2; others = ended.3; line_is = refl })))

pub returns-in-Err-clause-untold : goal.returns-in-Err-clause-untold
returns-in-Err-clause-untold g c = λ ready honest.
    rw c.in-Begin.is
    (untold _ _ _ c.put_fault.result _ _ c.put_fault.ensures.part
    (inr (record {
      others = c.begin-begun.ensures.all;
      why = c.in-Err.fault;
      status_is = refl;
      line_is = refl;
      same = rw c.in-Err.is at c.begin-begun.ensures.refused;
      cause = rw c.in-Err.is at c.begin-begun.ensures.cause;
    })))

pub returns-in-Next-clause-untold : goal.returns-in-Next-clause-untold
returns-in-Next-clause-untold g c = λ ready honest. rw c.in-Next.is (c.put_next_of_last.ensures.untold ready honest)
