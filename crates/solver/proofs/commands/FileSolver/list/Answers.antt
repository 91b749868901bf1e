use Rattle.solver.specs.Queries.{HasRows}
use Rattle.solver.specs.Units.{units_in}
use Rattle.solver.proofs.Questions.{number_cause, rows_found, tells}
use Rattle.solver.proofs.Frames.{only_asked, untold_first, untold_later}
use Rattle.solver.proofs.Exits.{passed_on, gives_none}
use Rattle.solver.proofs.commands.FileSolver.list.Goals as goal

pub list-requires : goal.list-requires
list-requires g c = record { from = c.in_ok-game_at.ensures.there; some = c.count.ensures.some; few = c.count.ensures.few }

pub returns : goal.returns
returns g c = record {
  rows = λ ready honest.
      let file = c.args.self.now.file in
      tells (g.F.GameFile.state file).kept (HasRows c.args.from (units_in c.args.count) c.in_ok-list.field-0.items) c.in_ok-game_at.ensures.ok.some
      (λ k is.
      let stored = g.met.F.GameFile.whole_stored file k ready.0 honest is in
      rows_found k _ stored.1 stored.2 _ (g.met.F.Table.counts_are file stored.0) c.args.from (units_in c.args.count) c.in_ok-list.field-0.items
      c.in_ok-game_at.ensures.there (λ fits. rw c.count.ensures.is at c.in_ok-list.ensures.rows stored.0 fits));
  left = only_asked g.met.F.GameFile.whole_stays g.met.F.GameFile.goes_on_lasts g.met.F.Table.stays_goes_on c.args.self.now _ c.list.ensures.read.stays;
  err = untold_later c.in_ok-game_at.ensures.ok (λ ready. tt);
}

pub returns-in_err-game_at : goal.returns-in_err-game_at
returns-in_err-game_at g c = record {
  rows = λ ready. gives_none c.from_residual.result _ _ c.from_residual.ensures;
  left = only_asked g.met.F.GameFile.whole_stays g.met.F.GameFile.goes_on_lasts g.met.F.Table.stays_goes_on c.args.self.now _ (g.met.F.Table.stays_here _);
  err = untold_first c.from_residual.ensures c.in_err-game_at.ensures.first (λ ready. c.in_err-game_at.ensures.cause ready.0 ready.1);
}

pub returns-in_err-list : goal.returns-in_err-list
returns-in_err-list g c = record {
  rows = λ ready. gives_none c.from_residual-in_err-list.result _ _ c.from_residual-in_err-list.ensures;
  left = only_asked g.met.F.GameFile.whole_stays g.met.F.GameFile.goes_on_lasts g.met.F.Table.stays_goes_on c.args.self.now _ c.list.ensures.read.stays;
  err = untold_later c.in_ok-game_at.ensures.ok
      (λ ready. passed_on _ c.from_residual-in_err-list.result _ c.from_residual-in_err-list.ensures
      (number_cause (g.F.GameFile.state c.args.self.now.file)
      (g.F.GameFile.state c.list.new.table) c.args.from c.in_err-list.field-0.0 c.in_err-list.ensures.room
      (g.met.F.GameFile.fails_for _ _ _ ready.0 c.in_err-list.ensures.fault)));
}
