use Rattle.in_process.specs.Calls.{IsCalled}
use Rattle.in_process.proofs.table_bytes.rbg_create.Goals as goal

pub returns : goal.returns
returns c = IsCalled.called _
    (record { contents = c.in-Ok.ensures.contents; synced = c.in-Ok.ensures.synced; honest = c.in-Ok.ensures.honest }) c.commanded.ensures
