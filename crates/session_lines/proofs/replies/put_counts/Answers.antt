use Rattle.std.proofs.Common.{[], ◌∷◌, ◌++◌, codes}
use Rattle.session_lines.specs.Counted.{IsCountsLine, counts_text, finished, unfinished}
use Rattle.session_lines.proofs.CountLemmas.{counts_end}
use Rattle.session_lines.proofs.Printed.{not_done}
use Rattle.session_lines.proofs.PartLemmas.{line_all, line_part, on_err_by, part_before, part_behind}
use Rattle.session_lines.proofs.replies.put_counts.Goals as goal

pub returns-in_err-put_fields-clause-part : goal.returns-in_err-put_fields-clause-part
returns-in_err-put_fields-clause-part g c =
    line_part c.from_residual.result (IsCountsLine c.args.counts) (counts_end c.args.counts).1 (part_before _ c.in_err-put_fields.ensures.part)

pub returns-then-counts-2-clause-all : goal.returns-then-counts-2-clause-all
returns-then-counts-2-clause-all g c =
    line_all c.put_line.result (IsCountsLine c.args.counts) _ _ _ (counts_text c.args.counts) (codes " finished" ++ 10 ∷ []) c.in_ok-put_fields.ensures.all
    (finished (c.if-counts.true, c.if-counts-2.true)) c.put_line.ensures.all

pub returns-then-counts-2-clause-part : goal.returns-then-counts-2-clause-part
returns-then-counts-2-clause-part g c =
    on_err_by c.put_line.result (λ part. (
      _,
      finished (c.if-counts.true, c.if-counts-2.true),
      part_behind (counts_text c.args.counts) c.in_ok-put_fields.ensures.all part,
    )) c.put_line.ensures.part

pub returns-else-counts-clause-all : goal.returns-else-counts-clause-all
returns-else-counts-clause-all g c =
    line_all c.put_line-else-counts.result (IsCountsLine c.args.counts) _ _ _ (counts_text c.args.counts)
    (codes " open" ++ 10 ∷ []) c.in_ok-put_fields.ensures.all
    (unfinished (not_done c.args.counts c.else-counts.either)) c.put_line-else-counts.ensures.all

pub returns-else-counts-clause-part : goal.returns-else-counts-clause-part
returns-else-counts-clause-part g c =
    on_err_by c.put_line-else-counts.result
    (λ part. (_, unfinished (not_done c.args.counts c.else-counts.either), part_behind (counts_text c.args.counts) c.in_ok-put_fields.ensures.all part))
    c.put_line-else-counts.ensures.part
