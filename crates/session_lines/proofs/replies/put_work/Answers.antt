use Rattle.std.proofs.Common.{ℕ, List, [], ◌∷◌, ◌++◌, codes}
use Rattle.std.specs.Fmt.{decimal}
use Rattle.session_lines.specs.Counted.{IsCountsLine, IsWorkLine}
use Rattle.session_lines.proofs.Appends.{appends_then}
use Rattle.session_lines.proofs.CountLemmas.{counts_end, work_line}
use Rattle.session_lines.proofs.PartLemmas.{line_part, line_part_by, line_all_by, part_before, part_behind, pieces_before, pieces_behind, pieces_then}
use Rattle.session_lines.proofs.replies.put_work.Goals as goal

-- the line of units with the counts behind them
abbrev with_units : ℕ → List ℕ → List ℕ
with_units units line = codes "units " ++ (decimal units ++ 32 ∷ line)

pub returns-in_err-put_field-clause-part : goal.returns-in_err-put_field-clause-part
returns-in_err-put_field-clause-part g c =
    line_part c.from_residual.result (IsWorkLine c.args.units c.args.counts) (work_line c.args.units (counts_end c.args.counts).1)
    (pieces_before (codes "units ") (decimal c.args.units) _ c.in_err-put_field.ensures.part)

pub returns-in_err-put_bytes-clause-part : goal.returns-in_err-put_bytes-clause-part
returns-in_err-put_bytes-clause-part g c =
    line_part c.from_residual-in_err-put_bytes.result (IsWorkLine c.args.units c.args.counts) (work_line c.args.units (counts_end c.args.counts).1)
    (pieces_behind (codes "units ") (decimal c.args.units) c.in_ok-put_field.ensures.all (part_before _ c.in_err-put_bytes.ensures.part))

pub returns-clause-all : goal.returns-clause-all
returns-clause-all g c =
    line_all_by c.put_counts.result (IsCountsLine c.args.counts) (IsWorkLine c.args.units c.args.counts) _ _ _ (with_units c.args.units)
    (λ line is. work_line c.args.units is)
    (λ line wrote. pieces_then _ _ _ (codes "units ") (decimal c.args.units) (32 ∷ line) c.in_ok-put_field.ensures.all
    (appends_then _ _ _ (32 ∷ []) line c.in_ok-put_bytes.ensures.all wrote))
    c.put_counts.ensures.all

pub returns-clause-part : goal.returns-clause-part
returns-clause-part g c =
    line_part_by c.put_counts.result (IsCountsLine c.args.counts) (IsWorkLine c.args.units c.args.counts) (with_units c.args.units)
    (λ line is. work_line c.args.units is)
    (λ line part. pieces_behind (codes "units ") (decimal c.args.units) c.in_ok-put_field.ensures.all
    (part_behind (32 ∷ []) c.in_ok-put_bytes.ensures.all part))
    c.put_counts.ensures.part
