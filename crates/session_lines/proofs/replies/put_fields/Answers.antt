use Rattle.std.proofs.Common.{codes}
use Rattle.std.specs.Fmt.{decimal}
use Rattle.session_lines.proofs.PartLemmas.{on_err, on_err_by, pieces_before, pieces_behind}
use Rattle.session_lines.proofs.replies.put_fields.Goals as goal

pub returns-in_err-put_field-clause-part : goal.returns-in_err-put_field-clause-part
returns-in_err-put_field-clause-part g c = on_err _ (pieces_before (codes "known ") (decimal c.args.counts.known) _ c.in_err-put_field.ensures.part)

pub returns-in_err-put_field-2-clause-part : goal.returns-in_err-put_field-2-clause-part
returns-in_err-put_field-2-clause-part g c =
    on_err _ (pieces_behind (codes "known ") (decimal c.args.counts.known) c.in_ok-put_field.ensures.all
    (pieces_before (codes " expanded ") (decimal c.args.counts.expanded) _ c.in_err-put_field-2.ensures.part))

pub returns-in_err-put_field-3-clause-part : goal.returns-in_err-put_field-3-clause-part
returns-in_err-put_field-3-clause-part g c =
    on_err _ (pieces_behind (codes "known ") (decimal c.args.counts.known) c.in_ok-put_field.ensures.all
    (pieces_behind (codes " expanded ") (decimal c.args.counts.expanded) c.in_ok-put_field-2.ensures.all
    (pieces_before (codes " settled ") (decimal c.args.counts.settled) _ c.in_err-put_field-3.ensures.part)))

pub returns-clause-part : goal.returns-clause-part
returns-clause-part g c =
    on_err_by _
    (λ part. pieces_behind (codes "known ") (decimal c.args.counts.known) c.in_ok-put_field.ensures.all
    (pieces_behind (codes " expanded ") (decimal c.args.counts.expanded) c.in_ok-put_field-2.ensures.all
    (pieces_behind (codes " settled ") (decimal c.args.counts.settled) c.in_ok-put_field-3.ensures.all part)))
    c.put_field-4.ensures.part
