use Rattle.std.proofs.Common.{refl}
use Rattle.solver.proofs.Loads.{same_source}
use Rattle.solver.proofs.commands.FileSolver.list_begin.Goals as goal

pub returns-in-Some-clause-same : goal.returns-in-Some-clause-same
returns-in-Some-clause-same g c = record {
  ready = λ ready.
      let told = c.in-Some.ensures in
      (told.whole ready.0, same_source _ _ _ (told.text ready.0) (told.packing ready.0) (told.goal ready.0) ready.1);
  state = λ ready honest. c.in-Some.ensures.state honest ready.0;
}

pub returns-in-Some-clause-ok : goal.returns-in-Some-clause-ok
returns-in-Some-clause-ok g c = record {
  begun = λ ready honest kept is. c.in-Some.ensures.kept honest ready.0 kept is;
  first = refl;
  others = λ other table it. c.in-Some.ensures.others other table it;
}

pub returns-in-Some-clause-table : goal.returns-in-Some-clause-table
returns-in-Some-clause-table g c = λ ready honest kept is. (g.met.F.GameFile.whole_stored c.args.self.now.file kept ready.0 honest is).2

pub returns-in-None-clause-table : goal.returns-in-None-clause-table
returns-in-None-clause-table g c = λ ready honest kept is. (g.met.F.GameFile.whole_stored c.args.self.now.file kept ready.0 honest is).2

pub returns-in_err-needs_game-clause-table : goal.returns-in_err-needs_game-clause-table
returns-in_err-needs_game-clause-table g c = λ ready honest kept is. (g.met.F.GameFile.whole_stored c.args.self.now.file kept ready.0 honest is).2
