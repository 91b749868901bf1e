use Rattle.std.proofs.lemmas.Result.{IfErr-weaker}
use Rattle.solver.specs.Solvers.{state}
use Rattle.witness.proofs.WantOfRoom.{want_since}
use Rattle.witness.proofs.sittings.answer.Goals as goal

pub returns-clause-fault : goal.returns-clause-fault
returns-clause-fault g c =
    IfErr-weaker c.value_of_finished.result _ _
    (λ why want. want_since (state c.args.solver.now).failures (state c.finish.new.solver).failures (state c.value_of_finished.new.solver).failures why
    c.in_ok-finish.ensures.later want)
    c.value_of_finished.ensures.fault
