use Rattle.std.proofs.Common.{ℕ, sym, ◌∙◌, subst}
use Rattle.sector_disk.specs.Disk.{Disk}
use Rattle.solver.specs.Solvers.{state}
use Rattle.recover.specs.Migrations.{EitherLayout, IsCurrent}
use Rattle.recover.proofs.Migrations.{is_current, not_synced, still_there}
use Rattle.recover.proofs.SyncedReads.{on_ok, read_first, read_on}
use Rattle.recover.proofs.Refusals.{none_by, today_unopened}
use Rattle.recover.proofs.migration.migrate.Goals as goal

pub returns-in-Ok-clause-current : goal.returns-in-Ok-clause-current
returns-in-Ok-clause-current g c = λ is.
    let synced = sym c.is_err.ensures.value ∙ c.if-is_err.false in
    let read = read_first (g.D.SectorDisk.disk c.args.disk) (g.D.SectorDisk.disk c.sync.new.self) (g.D.SectorDisk.failures c.args.disk)
    (g.D.SectorDisk.failures c.sync.new.self) c.sync.ensures.time c.sync.ensures.cause.later c.sync.ensures.same
    (λ honest. on_ok c.sync.result synced (c.sync.ensures.all honest)) in
    let Earlier = EitherLayout g.First.EarlierFile.stores g.Second.EarlierFile.stores in
    let was = state c.in-Ok.solver in
    let it = is_current Earlier g.Today.GameFile.stores _ _ _ _ was read c.in-Ok.ensures.ok.opened in
    subst (λ (d : Disk). IsCurrent Earlier g.Today.GameFile.stores (g.D.SectorDisk.disk c.args.disk) (g.D.SectorDisk.failures c.args.disk) d
    (g.D.SectorDisk.failures c.close.result)) (sym c.close.ensures.disk)
    (subst (λ (n : ℕ). IsCurrent Earlier g.Today.GameFile.stores (g.D.SectorDisk.disk c.args.disk) (g.D.SectorDisk.failures c.args.disk)
    was.disk n) (sym c.close.ensures.failures) it)

pub returns-then-is_err-clause-refused : goal.returns-then-is_err-clause-refused
returns-then-is_err-clause-refused g c =
    not_synced (EitherLayout g.First.EarlierFile.stores g.Second.EarlierFile.stores) g.Today.GameFile.stores (g.D.SectorDisk.disk c.args.disk)
    (g.D.SectorDisk.disk c.sync.new.self) _ _ _ c.sync.ensures.time c.sync.ensures.cause.later c.sync.ensures.same

pub returns-then-not-is_older-clause-refused : goal.returns-then-not-is_older-clause-refused
returns-then-not-is_older-clause-refused g c =
    let synced = sym c.is_err.ensures.value ∙ c.if-is_err.false in
    let read = read_first (g.D.SectorDisk.disk c.args.disk) (g.D.SectorDisk.disk c.sync.new.self) (g.D.SectorDisk.failures c.args.disk)
    (g.D.SectorDisk.failures c.sync.new.self) c.sync.ensures.time c.sync.ensures.cause.later c.sync.ensures.same
    (λ honest. on_ok c.sync.result synced (c.sync.ensures.all honest)) in
    still_there (EitherLayout g.First.EarlierFile.stores g.Second.EarlierFile.stores) g.Today.GameFile.stores _ _ _ _ _ _ c.in-Err.refused.fault
    read c.in-Err.ensures.err.refused

pub returns-then-not-is_older-clause-cause : goal.returns-then-not-is_older-clause-cause
returns-then-not-is_older-clause-cause g c =
    let synced = sym c.is_err.ensures.value ∙ c.if-is_err.false in
    let read = read_first (g.D.SectorDisk.disk c.args.disk) (g.D.SectorDisk.disk c.sync.new.self) (g.D.SectorDisk.failures c.args.disk)
    (g.D.SectorDisk.failures c.sync.new.self) c.sync.ensures.time c.sync.ensures.cause.later c.sync.ensures.same
    (λ honest. on_ok c.sync.result synced (c.sync.ensures.all honest)) in
    today_unopened g.First.EarlierFile.stores g.Second.EarlierFile.stores g.Today.GameFile.stores c.requires _ _ _ _ read _ c.in-Err.refused.fault
    (λ same. let yes = c.is_older.ensures.1 same in let no = c.if-not-is_older.true in cc) c.in-Err.ensures.err.cause c.in-Err.ensures.err.older

pub returns-in-Ok-migrate_earlier-clause-migrated : goal.returns-in-Ok-migrate_earlier-clause-migrated
returns-in-Ok-migrate_earlier-clause-migrated g c = λ is.
    let synced = sym c.is_err.ensures.value ∙ c.if-is_err.false in
    let read = read_first (g.D.SectorDisk.disk c.args.disk) (g.D.SectorDisk.disk c.sync.new.self) (g.D.SectorDisk.failures c.args.disk)
    (g.D.SectorDisk.failures c.sync.new.self) c.sync.ensures.time c.sync.ensures.cause.later c.sync.ensures.same
    (λ honest. on_ok c.sync.result synced (c.sync.ensures.all honest)) in
    c.in-Ok-migrate_earlier.ensures.migrated _ _
    (read_on _ _ _ _ _ _ read c.in-Err.ensures.err.refused.from c.in-Err.ensures.err.refused.leaves)

pub returns-in-Err-migrate_earlier-clause-refused : goal.returns-in-Err-migrate_earlier-clause-refused
returns-in-Err-migrate_earlier-clause-refused g c =
    let synced = sym c.is_err.ensures.value ∙ c.if-is_err.false in
    let read = read_first (g.D.SectorDisk.disk c.args.disk) (g.D.SectorDisk.disk c.sync.new.self) (g.D.SectorDisk.failures c.args.disk)
    (g.D.SectorDisk.failures c.sync.new.self) c.sync.ensures.time c.sync.ensures.cause.later c.sync.ensures.same
    (λ honest. on_ok c.sync.result synced (c.sync.ensures.all honest)) in
    c.in-Err-migrate_earlier.ensures.refused _ _
    (read_on _ _ _ _ _ _ read c.in-Err.ensures.err.refused.from c.in-Err.ensures.err.refused.leaves)

pub returns-in-Err-migrate_earlier-clause-cause : goal.returns-in-Err-migrate_earlier-clause-cause
returns-in-Err-migrate_earlier-clause-cause g c =
    let synced = sym c.is_err.ensures.value ∙ c.if-is_err.false in
    let read = read_first (g.D.SectorDisk.disk c.args.disk) (g.D.SectorDisk.disk c.sync.new.self) (g.D.SectorDisk.failures c.args.disk)
    (g.D.SectorDisk.failures c.sync.new.self) c.sync.ensures.time c.sync.ensures.cause.later c.sync.ensures.same
    (λ honest. on_ok c.sync.result synced (c.sync.ensures.all honest)) in
    c.in-Err-migrate_earlier.ensures.cause _ _
    (read_on _ _ _ _ _ _ read c.in-Err.ensures.err.refused.from c.in-Err.ensures.err.refused.leaves)
    (none_by g.Today.GameFile.stores _ _ _ _ _ c.in-Err.refused.fault (c.is_older.ensures.0 c.if-not-is_older.false) read c.in-Err.ensures.err.cause)
