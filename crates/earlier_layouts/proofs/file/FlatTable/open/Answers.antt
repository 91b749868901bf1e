use Rattle.std.proofs.Common.{◌∙◌, sym, ap}
use Rattle.page_store.specs.InStore.{store_in}
use Rattle.earlier_layouts.specs.Slot.{commits_in}
use Rattle.earlier_layouts.proofs.OpenedFile.{opened, not_opened, open_cause}
use Rattle.earlier_layouts.proofs.file.FlatTable.open.Goals as goal

pub invariant_of-result : goal.invariant_of-result
invariant_of-result g c =
    let read = c.in-Ok-read_all.ensures in
    record { counted = read.commits ∙ ap commits_in (sym read.on.root) }

pub returns-in-Ok-read_all-clause-ok : goal.returns-in-Ok-read_all-clause-ok
returns-in-Ok-read_all-clause-ok g c =
    let read = c.in-Ok-read_all.ensures in
    opened _ _ _ _ c.in-Ok.ensures.ok read.on
    c.in-Ok-read_all.opened.game (read.backed c.in-Ok.ensures.ok.closed c.in-Ok.ensures.ok.marks)

pub returns-in-Err-read_all-clause-refused : goal.returns-in-Err-read_all-clause-refused
returns-in-Err-read_all-clause-refused g c =
    let read = c.in-Err-read_all.ensures in
    not_opened _ _ _ (store_in c.read_all.new.store) c.in-Ok.ensures.ok read.on
    _ _ c.into_disk.ensures.disk c.into_disk.ensures.failures

pub returns-in-Err-read_all-clause-cause : goal.returns-in-Err-read_all-clause-cause
returns-in-Err-read_all-clause-cause g c =
    let read = c.in-Err-read_all.ensures in
    let cause = open_cause _ _ _ (store_in c.read_all.new.store) c.in-Ok.ensures.ok read.on
    _ read.cause in
    rw (c.into_disk.ensures.failures, c.into-in-Err-read_all.ensures) cause
