use Rattle.std.proofs.Common.{ℕ, sym, subst}
use Rattle.sector_disk.specs.Disk.{Disk, Grew}
use Rattle.solver.specs.Solvers.{state}
use Rattle.witness.specs.Sittings.{IsWantOfRoom}
use Rattle.witness.specs.lemmas.Migrations.{IsLeftFinished}
use Rattle.witness.proofs.Migrations.{created_so, left_so}
use Rattle.witness.proofs.Told.{not_made}
use Rattle.witness.proofs.WantOfRoom.{want_since}
use Rattle.witness.proofs.migrated.make_finished.Goals as goal

pub finish-finished-requires-clause-table : goal.finish-finished-requires-clause-table
finish-finished-requires-clause-table g c = created_so g.F.GameFile.stores _ _ _ c.requires c.in-Ok.ensures.created

pub returns-in-Ok-finished-clause-made : goal.returns-in-Ok-finished-clause-made
returns-in-Ok-finished-clause-made g c =
    subst (λ (d : Disk). IsLeftFinished g.F.GameFile.stores d) (sym c.close-disk.ensures.disk)
    (left_so g.F.GameFile.stores (state c.finish-finished.new.solver) c.in-Ok-finished.ensures.table c.in-Ok-finished.ensures.left)

pub returns-in-Err-finished-clause-fault : goal.returns-in-Err-finished-clause-fault
returns-in-Err-finished-clause-fault g c =
    let first = g.F.Device.SectorDisk.failures c.args.disk in
    let want = want_since first _ (state c.finish-finished.new.solver).failures c.in-Err-finished.fault c.in-Ok.ensures.created.from.failures
    c.in-Err-finished.ensures.fault in
    subst (λ (n : ℕ). IsWantOfRoom (Grew first n) c.in-Err-finished.fault) (sym c.close-disk.ensures.failures) want

pub returns-in-Err-clause-fault : goal.returns-in-Err-clause-fault
returns-in-Err-clause-fault g c = not_made g.F.GameFile.stores _ _ _ c.in-Err.refused.fault c.requires c.in-Err.ensures.cause
