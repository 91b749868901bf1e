use Rattle.solver.proofs.Loads.{same_source}
use Rattle.solver.proofs.commands.FileSolver.list_end.Goals as goal

pub returns-clause-same : goal.returns-clause-same
returns-clause-same g c = record {
  ready = λ ready.
      let told = c.give_back.ensures in
      (told.whole ready.0, same_source _ _ _ (told.text ready.0) (told.packing ready.0) (told.goal ready.0) ready.1);
  state = λ ready honest. c.give_back.ensures.state honest ready.0;
}
