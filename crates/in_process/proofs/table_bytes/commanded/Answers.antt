use Rattle.in_process.proofs.Answered.{answered}
use Rattle.in_process.proofs.table_bytes.commanded.Goals as goal

pub returns : goal.returns
returns c =
    let did = c.command_on-disk.ensures.done in
    answered _ _ did.0 _ c.new-line.ensures.items c.deref.ensures.value c.bytes.ensures c.requires did.1 did.3 c.give_table.ensures.no_memory
    c.give_table.ensures.given c.give_table.ensures.done c.give_table.ensures.too_long
