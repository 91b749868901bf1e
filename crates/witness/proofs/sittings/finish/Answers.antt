use Rattle.solver.specs.Solvers.{state}
use Rattle.witness.proofs.Told.{work_done, work_refused}
use Rattle.witness.proofs.WantOfRoom.{want_since}
use Rattle.witness.proofs.sittings.finish.Goals as goal

pub returns-in-Ok-clause-table : goal.returns-in-Ok-clause-table
returns-in-Ok-clause-table g c =
    let loaded = c.in_ok-load.ensures.table in
    let ready = c.in_ok-load.ensures.ready in
    work_done g.F.GameFile.stores _ _ _ c.in-Ok.field-0.units c.in-Ok.field-0.counts c.units.ensures loaded c.work.ensures.left.ahead
    (c.in-Ok.ensures.done ready)
    (c.work.ensures.left.sound ready loaded.honest loaded.sound)

pub returns-in-Ok-clause-left : goal.returns-in-Ok-clause-left
returns-in-Ok-clause-left g c = (c.in-Ok.ensures.done c.in_ok-load.ensures.ready).stops.now c.in_ok-load.ensures.table.honest

pub returns-in-Err-clause-fault : goal.returns-in-Err-clause-fault
returns-in-Err-clause-fault g c =
    want_since (state c.args.solver.now).failures (state c.load.new.solver).failures (state c.work.new.self).failures c.in-Err.fault c.in_ok-load.ensures.later
    (work_refused g.F.GameFile.stores _ _ _ c.in-Err.fault c.units.ensures c.in_ok-load.ensures.table (c.in-Err.ensures.err.refused c.in_ok-load.ensures.ready))
