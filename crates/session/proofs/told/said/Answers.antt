use Rattle.std.proofs.Common.{refl}
use Rattle.session.specs.Commands.{told, untold}
use Rattle.session.proofs.told.said.Goals as goal

pub returns-in-Ok-clause-told : goal.returns-in-Ok-clause-told
returns-in-Ok-clause-told g c =
    let (line, is_line, printed) = c.in-Ok.ensures.all in told line is_line printed c.status_of_told-status.ensures

pub returns-in-Err-clause-told : goal.returns-in-Err-clause-told
returns-in-Err-clause-told g c = let (line, is_line, part) = c.in-Err.ensures.part in untold line is_line part refl
