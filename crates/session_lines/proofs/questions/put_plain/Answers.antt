use Rattle.std.proofs.Common.{ap, inl, inr, refl}
use Rattle.session_lines.specs.Replies.{pages_line}
use Rattle.session_lines.proofs.Plain.{no_command}
use Rattle.session_lines.proofs.ReplyLines.{replied, untold, untold_at}
use Rattle.session_lines.proofs.questions.put_plain.Goals as goal

pub returns-in_err-status-in-Help-clause-untold : goal.returns-in_err-status-in-Help-clause-untold
returns-in_err-status-in-Help-clause-untold g c = λ ready plain.
    rw c.in-Help.is (untold_at _ c.from_residual.result 0 _ (refl, refl, refl) c.in_err-status-in-Help.ensures.part)

pub returns-in_err-put_status-in-Status-clause-untold : goal.returns-in_err-put_status-in-Status-clause-untold
returns-in_err-put_status-in-Status-clause-untold g c = λ ready plain.
    let (line, is_line, part) = c.in_err-put_status-in-Status.ensures.part in
    rw c.in-Status.is
    (untold_at _ c.from_residual-in_err-put_status-in-Status.result 0 line
    (refl, refl, record { counts = c.status.result; are = λ honest. c.status.ensures.counts ready honest; line_is = is_line }) part)

pub returns-in_err-put_pages-in-Pages-clause-untold : goal.returns-in_err-put_pages-in-Pages-clause-untold
returns-in_err-put_pages-in-Pages-clause-untold g c = λ ready plain.
    rw c.in-Pages.is
    (untold_at _ c.from_residual-in_err-put_pages-in-Pages.result 0 _ (
      refl,
      refl,
      record {
        free = c.free_pages.result;
        some = c.free_pages.ensures.used ready;
        line_is = ap (λ n. pages_line n c.free_pages.result) c.capacity.ensures;
      },
    )
    c.in_err-put_pages-in-Pages.ensures.part)

pub returns-in_ok-put_pages-in-Pages-clause-replied : goal.returns-in_ok-put_pages-in-Pages-clause-replied
returns-in_ok-put_pages-in-Pages-clause-replied g c = λ ready plain.
    rw c.in-Pages.is (
      _,
      (
        refl,
        refl,
        record {
          free = c.free_pages.result;
          some = c.free_pages.ensures.used ready;
          line_is = ap (λ n. pages_line n c.free_pages.result) c.capacity.ensures;
        },
      ),
      c.in_ok-put_pages-in-Pages.ensures.all,
    )

pub returns-in-Some-clause-untold : goal.returns-in-Some-clause-untold
returns-in-Some-clause-untold g c = λ ready plain.
    rw c.in-Game.is (untold _ _ _ c.put_done-in-Some.result 0 _ c.put_done-in-Some.ensures.part (refl, inl (refl, c.in-Some.ensures.some)))

pub returns-in-None-clause-untold : goal.returns-in-None-clause-untold
returns-in-None-clause-untold g c = λ ready plain.
    rw c.in-Game.is (untold _ _ _ c.put_fault.result _ _ c.put_fault.ensures.part (refl, inr (c.in-None.ensures.none, refl, refl)))

pub returns-in_default-clause-replied : goal.returns-in_default-clause-replied
returns-in_default-clause-replied g c = λ ready plain.
    replied _ _ c.put_done-in_default.result 0 _ c.put_done-in_default.ensures.status c.put_done-in_default.ensures.line
    (no_command _ c.args.asked _ c.in_default.not-Nothing c.in_default.not-Quit c.in_default.not-Help c.in_default.not-Status c.in_default.not-Pages c.in_default.not-Game plain)

pub returns-in_default-clause-untold : goal.returns-in_default-clause-untold
returns-in_default-clause-untold g c = λ ready plain.
    untold _ _ _ c.put_done-in_default.result 0 _ c.put_done-in_default.ensures.part
    (no_command _ c.args.asked _ c.in_default.not-Nothing c.in_default.not-Quit c.in_default.not-Help c.in_default.not-Status c.in_default.not-Pages c.in_default.not-Game plain)
