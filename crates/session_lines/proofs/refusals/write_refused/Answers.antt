use Rattle.std.proofs.Common.{refl}
use Rattle.solver.specs.Faults.{status_of}
use Rattle.session_lines.specs.Parts.{IsTextWritten}
use Rattle.session_lines.specs.Told.{fault_line}
use Rattle.session_lines.proofs.refusals.write_refused.Goals as goal

pub returns-in-Ok : goal.returns-in-Ok
returns-in-Ok g c = IsTextWritten.whole (fault_line c.args.fault) (c.status.ensures, refl) c.in-Ok.ensures.all

pub returns-in-Err : goal.returns-in-Err
returns-in-Err g c = IsTextWritten.part (status_of c.args.fault) (fault_line c.args.fault) (refl, refl) c.in-Err.ensures.part refl
