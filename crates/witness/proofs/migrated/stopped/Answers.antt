use Rattle.std.proofs.Common.{sym, subst}
use Rattle.std.specs.Prelude.{IfOk}
use Rattle.recover.specs.lemmas.Layouts.{our_layouts}
use Rattle.sector_disk.specs.Disk.{MayLeave, counting}
use Rattle.sector_disk.specs.InMemory.{disk_in}
use Rattle.sector_disk.specs.declared.memory.MemDisk.{MemDisk}
use Rattle.witness.specs.lemmas.Migrations.{IsInMigrations}
use Rattle.witness.proofs.Migrations.{behind_begun, counted_so, found_all}
use Rattle.witness.proofs.migrated.stopped.Goals as goal

pub begin_migration-left-requires : goal.begin_migration-left-requires
begin_migration-left-requires c = our_layouts

pub returns : goal.returns
returns c =
    let failed = c.new-fuse.result.failed_writes in
    let before : IsInMigrations (counting (disk_in c.new-fuse.result.inner) failed) =
    subst (λ (m : MemDisk). IsInMigrations (counting (disk_in m) failed)) (sym c.new-fuse.ensures.inner)
    (counted_so (disk_in c.args.disk) failed c.requires) in
    found_all c.after_stop.result _ (behind_begun _ _ _ _ before c.begin_migration-left.ensures)
    (subst (λ (m : MemDisk). IfOk c.after_stop.result (λ found. MayLeave (disk_in m).now (disk_in found).now.contents)) c.into_inner.ensures
    c.after_stop.ensures.image)
    c.after_stop.ensures.synced c.after_stop.ensures.honest
