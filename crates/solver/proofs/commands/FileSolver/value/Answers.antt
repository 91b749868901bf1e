use Rattle.solver.specs.Queries.{HasValueAt}
use Rattle.solver.proofs.Questions.{number_cause, value_found, tells}
use Rattle.solver.proofs.Frames.{only_asked, untold_first, untold_later}
use Rattle.solver.proofs.Exits.{passed_on, gives_none}
use Rattle.solver.proofs.commands.FileSolver.value.Goals as goal

pub value-requires : goal.value-requires
value-requires g c = c.in_ok-game_at.ensures.there

pub returns : goal.returns
returns g c = record {
  value = λ ready honest.
      let file = c.args.self.now.file in
      tells (g.F.GameFile.state file).kept (HasValueAt c.args.number c.in_ok-value.field-0) c.in_ok-game_at.ensures.ok.some
      (λ k is.
      let stored = g.met.F.GameFile.whole_stored file k ready.0 honest is in
      value_found k _ stored.1 stored.2 _ (g.met.F.Table.counts_are file stored.0) c.args.number c.in_ok-value.field-0
      c.in_ok-game_at.ensures.there (λ fits. c.in_ok-value.ensures.value stored.0 fits));
  left = only_asked g.met.F.GameFile.whole_stays g.met.F.GameFile.goes_on_lasts g.met.F.Table.stays_goes_on c.args.self.now _ c.value.ensures.read.stays;
  err = untold_later c.in_ok-game_at.ensures.ok (λ ready. tt);
}

pub returns-in_err-game_at : goal.returns-in_err-game_at
returns-in_err-game_at g c = record {
  value = λ ready. gives_none c.from_residual.result _ _ c.from_residual.ensures;
  left = only_asked g.met.F.GameFile.whole_stays g.met.F.GameFile.goes_on_lasts g.met.F.Table.stays_goes_on c.args.self.now _ (g.met.F.Table.stays_here _);
  err = untold_first c.from_residual.ensures c.in_err-game_at.ensures.first (λ ready. c.in_err-game_at.ensures.cause ready.0 ready.1);
}

pub returns-in_err-value : goal.returns-in_err-value
returns-in_err-value g c = record {
  value = λ ready. gives_none c.from_residual-in_err-value.result _ _ c.from_residual-in_err-value.ensures;
  left = only_asked g.met.F.GameFile.whole_stays g.met.F.GameFile.goes_on_lasts g.met.F.Table.stays_goes_on c.args.self.now _ c.value.ensures.read.stays;
  err = untold_later c.in_ok-game_at.ensures.ok
      (λ ready. passed_on _ c.from_residual-in_err-value.result _ c.from_residual-in_err-value.ensures
      (number_cause (g.F.GameFile.state c.args.self.now.file)
      (g.F.GameFile.state c.value.new.table) c.args.number c.in_err-value.field-0.0 c.in_err-value.ensures.room
      (g.met.F.GameFile.fails_for _ _ _ ready.0 c.in_err-value.ensures.fault)));
}
