use Rattle.table.proofs.Exits.{passed_on}
use Rattle.frontier.proofs.Frames.{is_failed}
use Rattle.frontier.proofs.note.note.Goals as goal

pub returns-in_err-noted-clause-err : goal.returns-in_err-noted-clause-err
returns-in_err-noted-clause-err g c = passed_on _ c.from_residual.result _ c.from_residual.ensures (is_failed c.in_err-noted.ensures.fault)
