use Rattle.std.proofs.Common.{[], ◌∷◌, ◌∙◌, codes, subst}
use Rattle.std.specs.Fmt.{decimal}
use Rattle.std.specs.Io.KnownBytes.{Appends}
use Rattle.session_lines.specs.Parts.{AppendsPart}
use Rattle.session_lines.specs.Verdicts.{code_of_reason}
use Rattle.session_lines.proofs.Appends.{appends_then}
use Rattle.session_lines.proofs.PartLemmas.{on_err, on_err_by, on_ok_by, part_before, part_behind, pieces_before, pieces_behind, pieces_then}
use Rattle.session_lines.proofs.verdicts.put_wrong.Goals as goal

pub returns-in_err-put_field-clause-part : goal.returns-in_err-put_field-clause-part
returns-in_err-put_field-clause-part g c = on_err _ (pieces_before (codes "audit wrong ") (decimal c.args.number) _ c.in_err-put_field.ensures.part)

pub returns-in_err-put_bytes-clause-part : goal.returns-in_err-put_bytes-clause-part
returns-in_err-put_bytes-clause-part g c =
    on_err _ (pieces_behind (codes "audit wrong ") (decimal c.args.number) c.in_ok-put_field.ensures.all (part_before _ c.in_err-put_bytes.ensures.part))

pub returns-in_err-put_bytes-2-clause-part : goal.returns-in_err-put_bytes-2-clause-part
returns-in_err-put_bytes-2-clause-part g c =
    on_err _ (pieces_behind (codes "audit wrong ") (decimal c.args.number) c.in_ok-put_field.ensures.all (part_behind (32 ∷ []) c.in_ok-put_bytes.ensures.all
    (part_before (10 ∷ []) (subst (AppendsPart (g.W.Write.contents c.put_bytes.new.out) (g.W.Write.contents c.put_bytes-2.new.out))
    (c.as_bytes.ensures.value ∙ c.code_of.ensures)
    c.in_err-put_bytes-2.ensures.part))))

pub returns-clause-all : goal.returns-clause-all
returns-clause-all g c =
    on_ok_by c.put_line.result
    (λ done. pieces_then _ _ _ (codes "audit wrong ") (decimal c.args.number) _ c.in_ok-put_field.ensures.all
    (appends_then _ _ _ (32 ∷ []) _ c.in_ok-put_bytes.ensures.all
    (appends_then _ _ _ (code_of_reason c.args.reason) (10 ∷ [])
    (subst (Appends (g.W.Write.contents c.put_bytes.new.out) (g.W.Write.contents c.put_bytes-2.new.out))
    (c.as_bytes.ensures.value ∙ c.code_of.ensures) c.in_ok-put_bytes-2.ensures.all)
    done)))
    c.put_line.ensures.all

pub returns-clause-part : goal.returns-clause-part
returns-clause-part g c =
    on_err_by c.put_line.result
    (λ part. pieces_behind (codes "audit wrong ") (decimal c.args.number) c.in_ok-put_field.ensures.all
    (part_behind (32 ∷ []) c.in_ok-put_bytes.ensures.all
    (part_behind (code_of_reason c.args.reason)
    (subst (Appends (g.W.Write.contents c.put_bytes.new.out) (g.W.Write.contents c.put_bytes-2.new.out))
    (c.as_bytes.ensures.value ∙ c.code_of.ensures) c.in_ok-put_bytes-2.ensures.all)
    part)))
    c.put_line.ensures.part
