use Rattle.std.proofs.lemmas.Result.{IfErr-weaker}
use Rattle.solver.proofs.Opened.{created_with, created_back, no_game_created, create_cause}
use Rattle.solver.proofs.commands.FileSolver.create.Goals as goal

pub returns-in-Ok-clause-created : goal.returns-in-Ok-clause-created
returns-in-Ok-clause-created g c =
    created_with _ _ _ _ c.with_game.result _ _ c.in-Ok.ensures.ok
    (c.with_game.ensures.asked c.in-Ok.ensures.whole) (c.with_game.ensures.ready c.in-Ok.ensures.whole)
    (λ s ready honest is_open. g.met.F.GameFile.whole_leaves s.file ready.0 honest is_open)

pub returns-in-Ok-clause-refused : goal.returns-in-Ok-clause-refused
returns-in-Ok-clause-refused g c =
    IfErr-weaker c.with_game.result _ _ (λ back it. created_back _ _ _ _ _ _ c.in-Ok.ensures.ok it) (c.with_game.ensures.back c.in-Ok.ensures.whole)

pub returns-in-Ok-clause-cause : goal.returns-in-Ok-clause-cause
returns-in-Ok-clause-cause g c =
    IfErr-weaker c.with_game.result _ _ (λ back cause. no_game_created _ _ _ _ _ back.fault c.in-Ok.ensures.ok cause)
    (c.with_game.ensures.cause c.in-Ok.ensures.whole)

pub returns-in-Err-clause-cause : goal.returns-in-Err-clause-cause
returns-in-Err-clause-cause g c =
    rw c.into.ensures (create_cause (g.F.Device.SectorDisk.disk c.args.disk) (g.F.Device.SectorDisk.failures c.args.disk) _ _ c.in-Err.ensures.cause)
