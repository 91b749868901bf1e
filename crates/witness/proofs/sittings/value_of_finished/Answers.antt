use Rattle.std.proofs.lemmas.Result.{IfOk-weaker, IfErr-weaker}
use Rattle.solver.specs.Solvers.{state}
use Rattle.witness.proofs.Told.{value_is, value_refused}
use Rattle.witness.proofs.sittings.value_of_finished.Goals as goal

pub returns-clause-value : goal.returns-clause-value
returns-clause-value g c =
    IfOk-weaker c.value.result _ _ (λ value tells. value_is g.F.GameFile.stores _ value c.requires.table tells) (c.value.ensures.value c.requires.ready)

pub returns-clause-fault : goal.returns-clause-fault
returns-clause-fault g c =
    IfErr-weaker c.value.result _ _ (λ why cause. value_refused g.F.GameFile.stores _ (state c.value.new.self) why c.requires.table cause)
    (c.value.ensures.err.cause c.requires.ready)
