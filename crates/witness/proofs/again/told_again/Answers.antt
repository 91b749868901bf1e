use Rattle.std.proofs.Common.{subst}
use Rattle.sector_disk.specs.Disk.{Disk}
use Rattle.witness.proofs.Telltwice.{told_twice}
use Rattle.witness.proofs.again.told_again.Goals as goal

pub returns-in_ok-told-in-Ok-open : goal.returns-in_ok-told-in-Ok-open
returns-in_ok-told-in-Ok-open g c = λ honest good.
    let (answered, used) = c.in_ok-first-in-Ok.ensures in
    let opened = subst (λ (d : Disk). g.S.SavedTable.calls.opened d c.in-Ok-open.again) c.close-left.ensures.disk c.in-Ok-open.ensures.opened in
    told_twice g.S.SavedTable.calls c.the_table_of_a_sitting.ensures c.the_headline_in_brief.ensures (g.S.Device.SectorDisk.disk c.args.disk)
    c.in-Ok.table c.told_once-told.new.table c.in-Ok-open.again answered c.in_ok-first-in-Ok.first c.in_ok-told-in-Ok-open.field-0 honest
    c.in-Ok.ensures.created used opened c.in_ok-told-in-Ok-open.ensures.told good
