use Rattle.solver.proofs.Opened.{opened_with, opened_on, opened_back, both_refused, not_opened_for, no_game_opened, no_game_older, open_cause, open_older}
use Rattle.solver.proofs.commands.FileSolver.open_with_cache.Goals as goal

pub returns-in-Ok-clause-ok : goal.returns-in-Ok-clause-ok
returns-in-Ok-clause-ok g c =
    let made = c.with_game.ensures in
    let whole = c.in-Ok.ensures.whole in
    opened_on _ _ c.with_game.result (made.ready whole)
    (opened_with _ _ _ _ c.with_game.result _ _ g.met.F.GameFile.stores_one c.in-Ok.ensures.ok (made.of_a_game whole) (made.asked whole) (made.ready whole)
    (λ s ready honest is_open. g.met.F.GameFile.whole_leaves s.file ready.0 honest is_open))

pub returns-in-Ok-clause-err : goal.returns-in-Ok-clause-err
returns-in-Ok-clause-err g c =
    both_refused c.with_game.result _ _ _
    (λ back handed cause. not_opened_for g.F.GameFile.stores g.F.GameFile.is_older g.met.F.GameFile.stores_begins _ _ _ _ back.fault
    (opened_back _ _ _ _ _ _ c.in-Ok.ensures.ok handed)
    (no_game_opened _ _ _ _ _ back.fault g.met.F.GameFile.stores_one g.met.F.GameFile.stores_begins c.in-Ok.ensures.ok cause)
    (no_game_older _ _ _ _ g.F.GameFile.is_older g.met.F.GameFile.older_stores_none _ back.fault c.in-Ok.ensures.ok cause))
    (c.with_game.ensures.back c.in-Ok.ensures.whole) (c.with_game.ensures.cause c.in-Ok.ensures.whole)

pub returns-in-Err-clause-err : goal.returns-in-Err-clause-err
returns-in-Err-clause-err g c =
    let stores = g.F.GameFile.stores in
    let disk = g.F.Device.SectorDisk.disk c.args.disk in
    let failures = g.F.Device.SectorDisk.failures c.args.disk in
    rw c.into.ensures
    (not_opened_for stores g.F.GameFile.is_older g.met.F.GameFile.stores_begins disk failures _ _ _ c.in-Err.ensures.refused
    (open_cause stores g.F.GameFile.is_older g.met.F.GameFile.older_stores_none disk failures _ _ c.in-Err.ensures.cause)
    (open_older stores g.F.GameFile.is_older disk failures _ _ c.in-Err.ensures.cause))
