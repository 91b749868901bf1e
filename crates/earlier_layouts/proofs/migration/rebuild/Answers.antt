use Rattle.std.proofs.Common.{sym, subst}
use Rattle.std.proofs.lemmas.Result.{IfErr-at_err}
use Rattle.earlier_layouts.specs.Calls.{state_of}
use Rattle.earlier_layouts.specs.InFile.{file_in}
use Rattle.earlier_layouts.specs.MoveCauses.{MoveCause}
use Rattle.earlier_layouts.proofs.migration.rebuild.Goals as goal

pub returns-in-Err-clause-cause : goal.returns-in-Err-clause-cause
returns-in-Err-clause-cause g c =
    subst (λ n. MoveCause (state_of (file_in c.args.file)) n c.in-Err.fault) (sym c.into_disk-disk.ensures.failures)
    (IfErr-at_err _ c.in-Err.is c.move_table-store.ensures.cause)
