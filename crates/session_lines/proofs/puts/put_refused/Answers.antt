use Rattle.std.proofs.Common.{◌∙◌, codes, subst}
use Rattle.std.specs.Io.KnownBytes.{Appends}
use Rattle.session_lines.specs.Parts.{AppendsPart}
use Rattle.solver.specs.Faults.{code_of}
use Rattle.session_lines.specs.Told.{behind_code}
use Rattle.session_lines.proofs.PartLemmas.{on_err, on_err_by, part_before, part_behind}
use Rattle.session_lines.proofs.puts.put_refused.Goals as goal

pub returns-in_err-put_bytes-clause-part : goal.returns-in_err-put_bytes-clause-part
returns-in_err-put_bytes-clause-part g c = on_err _ (part_before _ c.in_err-put_bytes.ensures.part)

pub returns-in_err-put_bytes-2-clause-part : goal.returns-in_err-put_bytes-2-clause-part
returns-in_err-put_bytes-2-clause-part g c =
    on_err _ (part_behind (codes "refused ") c.in_ok-put_bytes.ensures.all
    (part_before _ (subst (AppendsPart (g.W.Write.contents c.put_bytes.new.out) (g.W.Write.contents c.put_bytes-2.new.out))
    (c.as_bytes.ensures.value ∙ c.code.ensures)
    c.in_err-put_bytes-2.ensures.part)))

pub returns-in_err-put_position-clause-part : goal.returns-in_err-put_position-clause-part
returns-in_err-put_position-clause-part g c =
    on_err _ (part_behind (codes "refused ") c.in_ok-put_bytes.ensures.all
    (part_behind (code_of c.args.fault)
    (subst (Appends (g.W.Write.contents c.put_bytes.new.out) (g.W.Write.contents c.put_bytes-2.new.out)) (c.as_bytes.ensures.value ∙ c.code.ensures)
    c.in_ok-put_bytes-2.ensures.all)
    (part_before _ c.in_err-put_position.ensures.part)))

pub returns-clause-part : goal.returns-clause-part
returns-clause-part g c =
    on_err_by _
    (λ part. part_behind (codes "refused ") c.in_ok-put_bytes.ensures.all
    (part_behind (code_of c.args.fault)
    (subst (Appends (g.W.Write.contents c.put_bytes.new.out) (g.W.Write.contents c.put_bytes-2.new.out)) (c.as_bytes.ensures.value ∙ c.code.ensures)
    c.in_ok-put_bytes-2.ensures.all)
    (part_behind (behind_code c.args.fault) c.in_ok-put_position.ensures.all part)))
    c.put_line.ensures.part
