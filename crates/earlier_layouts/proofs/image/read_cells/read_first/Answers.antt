use Rattle.std.proofs.Common.{rules}
use Rattle.earlier_layouts.proofs.image.read_cells.read_first.Goals as goal

pub returns-in_err-read_first_record-clause-damaged : goal.returns-in_err-read_first_record-clause-damaged
returns-in_err-read_first_record-clause-damaged c = λ is x of. c.in_err-read_first_record.ensures.damaged (search rules) x of
