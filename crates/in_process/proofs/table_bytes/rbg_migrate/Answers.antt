use Rattle.in_process.specs.Calls.{IsCalled}
use Rattle.in_process.proofs.Answered.{answered}
use Rattle.in_process.proofs.table_bytes.rbg_migrate.Goals as goal

pub returns : goal.returns
returns c =
    let did = c.migrate_on-disk.ensures.done in
    IsCalled.called _ (record { contents = c.in-Ok.ensures.contents; synced = c.in-Ok.ensures.synced; honest = c.in-Ok.ensures.honest })
    (answered _ _ did.0 _ c.new-line.ensures.items c.deref.ensures.value c.bytes.ensures c.in-Ok.ensures.unfailed did.1 did.3
    c.give_table.ensures.no_memory c.give_table.ensures.given c.give_table.ensures.done c.give_table.ensures.too_long)
