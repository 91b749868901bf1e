use Rattle.std.proofs.Common.{refl}
use Rattle.session_lines.specs.Parts.{IsTextWritten}
use Rattle.session_lines.proofs.actions.put_actions.Goals as goal

pub returns-in-Ok : goal.returns-in-Ok
returns-in-Ok g c = IsTextWritten.whole c.args.lines.now (refl, refl) c.in-Ok.ensures.all

pub returns-in-Err : goal.returns-in-Err
returns-in-Err g c = IsTextWritten.part 0 c.args.lines.now (refl, refl) c.in-Err.ensures.part refl
