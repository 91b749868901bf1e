use Rattle.std.specs.Fmt.{decimal}
use Rattle.session_lines.proofs.PartLemmas.{on_err, on_err_by, part_before, part_behind}
use Rattle.session_lines.proofs.replies.put_field.Goals as goal

pub returns-in_err-put_bytes-clause-part : goal.returns-in_err-put_bytes-clause-part
returns-in_err-put_bytes-clause-part g c = on_err _ (part_before (decimal c.args.number) c.in_err-put_bytes.ensures.part)

pub returns-clause-part : goal.returns-clause-part
returns-clause-part g c = on_err_by _ (part_behind c.args.name.now c.in_ok-put_bytes.ensures.all) c.put_decimal.ensures.part
