use Rattle.earlier_layouts.specs.Calls.{state_of}
use Rattle.earlier_layouts.specs.InFile.{file_in}
use Rattle.recover.proofs.FirstLayout.{no_game_first, opened_first, unread_first}
use Rattle.recover.proofs.first.opened_first.Goals as goal

pub returns-in-Ok-clause-opened : goal.returns-in-Ok-clause-opened
returns-in-Ok-clause-opened g c =
    opened_first _ _ (file_in c.in-Ok.file) c.in-Ok.ensures.whole c.in-Ok.ensures.ok c.checked.result (λ t. state_of (file_in t))
    c.checked.ensures.of_a_game c.checked.ensures.same

pub returns-in-Ok-clause-unopened : goal.returns-in-Ok-clause-unopened
returns-in-Ok-clause-unopened g c =
    no_game_first _ _ (file_in c.in-Ok.file) c.in-Ok.ensures.whole c.in-Ok.ensures.ok c.checked.result (λ back. g.D.SectorDisk.disk back.disk)
    (λ back. g.D.SectorDisk.failures back.disk) (λ back. back.fault) c.checked.ensures.disk c.checked.ensures.failures c.checked.ensures.cause

pub returns-in-Err-clause-unopened : goal.returns-in-Err-clause-unopened
returns-in-Err-clause-unopened g c = unread_first _ _ _ _ _ _ c.into.ensures c.in-Err.ensures.refused c.in-Err.ensures.cause
