use Rattle.std.proofs.Common.{length, refl, rules}
use Rattle.rbg_game.specs.Goals.{points_of}
use Rattle.position_pack.specs.declared.kind.PackingKind.TheVariants.{Bits}
use Rattle.legal_moves.specs.Compiled.{compiled_game, compiled_goal, packing_kind}
use Rattle.solver.proofs.Frames.{left_here, left_kept, not_loaded_first, not_loaded_later}
use Rattle.solver.proofs.Loads.{loaded_done, loaded_refused, loaded_sound, source_of_text, start_by, long_by}
use Rattle.solver.proofs.Exits.{passed_on, gives_none}
use Rattle.solver.proofs.Refusals.{nothing_done}
use Rattle.solver.proofs.commands.FileSolver.load.Goals as goal

pub load-requires : goal.load-requires
load-requires g c = c.in_ok-source.ensures.short

pub same-source : goal.same-source
same-source g c = search rules

pub returns-clause-done : goal.returns-clause-done
returns-clause-done g c = λ ready.
    let none = c.in_ok-needs_no_game.ensures.ok.none in
    loaded_done _ _ _ (points_of c.args.goal) _ c.in_ok-source.ensures.reads
    (start_by (packing_kind c.in_ok-source.source) Bits (compiled_goal c.in_ok-source.source) (points_of c.args.goal)
    (compiled_game c.in_ok-source.source) c.start.result.items c.in_ok-source.ensures.packing c.in_ok-source.ensures.goal c.start.ensures.start) _ _ none
    (λ honest is_open. g.met.F.GameFile.whole_leaves c.load.new.self (c.load.ensures.whole ready.0) honest is_open)
    c.load.ensures.ahead.goes_on (c.in_ok-load.ensures.ok ready.0 none)

pub returns-clause-left : goal.returns-clause-left
returns-clause-left g c = record {
  ready = λ ready.
      let put = c.in_ok-load.ensures.ok ready.0 c.in_ok-needs_no_game.ensures.ok.none in
      (c.load.ensures.whole ready.0, source_of_text c.in_ok-source.source _ _ _ _ put.text put.packing put.goal c.in_ok-source.ensures.reads c.in_ok-source.ensures.packing c.in_ok-source.ensures.goal);
  lasts = c.load.ensures.lasts;
  ahead = c.load.ensures.ahead;
  sound = λ ready honest sound.
      let none = c.in_ok-needs_no_game.ensures.ok.none in
      loaded_sound _ _ _ (points_of c.args.goal) _ c.in_ok-source.ensures.reads (start_by (packing_kind c.in_ok-source.source) Bits (compiled_goal c.in_ok-source.source) (points_of c.args.goal) (compiled_game c.in_ok-source.source) c.start.result.items c.in_ok-source.ensures.packing c.in_ok-source.ensures.goal c.start.ensures.start) _ _ none honest (c.in_ok-load.ensures.ok ready.0 none);
}

pub returns-clause-err : goal.returns-clause-err
returns-clause-err g c = not_loaded_later c.in_ok-needs_no_game.ensures.ok (λ ready. tt)

pub returns-in_err-needs_no_game : goal.returns-in_err-needs_no_game
returns-in_err-needs_no_game g c = record {
  done = λ ready. gives_none c.from_residual.result _ _ c.from_residual.ensures;
  left =
      let file = c.args.self.now.file in
      let on = g.met.F.Table.stays_goes_on file file (g.met.F.Table.stays_here file) in
      left_here c.args.self.now (g.met.F.GameFile.goes_on_lasts file file on) (g.met.F.GameFile.goes_ahead file file on);
  err = not_loaded_first c.from_residual.ensures c.in_err-needs_no_game.ensures.first
      (λ ready. nothing_done _ _ _ _ (λ honest is_open. g.met.F.GameFile.whole_leaves c.args.self.now.file ready.0 honest is_open)
      (record { does = λ honest. refl; reason = c.in_err-needs_no_game.ensures.cause c.args.text.now }));
}

pub returns-in_err-source : goal.returns-in_err-source
returns-in_err-source g c = record {
  done = λ ready. gives_none c.from_residual-in_err-source.result _ _ c.from_residual-in_err-source.ensures;
  left =
      let file = c.args.self.now.file in
      let on = g.met.F.Table.stays_goes_on file file (g.met.F.Table.stays_here file) in
      left_here c.args.self.now (g.met.F.GameFile.goes_on_lasts file file on) (g.met.F.GameFile.goes_ahead file file on);
  err = not_loaded_later c.in_ok-needs_no_game.ensures.ok
      (λ ready. passed_on _ c.from_residual-in_err-source.result _ c.from_residual-in_err-source.ensures
      (nothing_done _ _ _ _ (λ honest is_open. g.met.F.GameFile.whole_leaves c.args.self.now.file ready.0 honest is_open)
      (record { does = λ honest. refl; reason = c.in_err-source.ensures.fault })));
}

pub returns-in_err-load : goal.returns-in_err-load
returns-in_err-load g c = record {
  done = λ ready. gives_none c.from_residual-in_err-load.result _ _ c.from_residual-in_err-load.ensures;
  left = left_kept c.args.self.now c.load.new.self c.load.ensures.lasts c.load.ensures.ahead
      (λ ready.
      let left = c.in_err-load.ensures.err ready.0 c.in_ok-needs_no_game.ensures.ok.none in
      (c.load.ensures.whole ready.0, (left.text, left.packing, left.goal, left.kept)));
  err = not_loaded_later c.in_ok-needs_no_game.ensures.ok
      (λ ready.
      let none = c.in_ok-needs_no_game.ensures.ok.none in
      let is_open = c.in_ok-needs_no_game.ensures.ok.is_open in
      let refused = c.in_err-load.ensures in
      passed_on _ c.from_residual-in_err-load.result _ c.from_residual-in_err-load.ensures
      (loaded_refused _ _ _ (points_of c.args.goal) _ c.in_ok-source.ensures.reads (start_by (packing_kind c.in_ok-source.source) Bits (compiled_goal c.in_ok-source.source) (points_of c.args.goal) (compiled_game c.in_ok-source.source) c.start.result.items c.in_ok-source.ensures.packing c.in_ok-source.ensures.goal c.start.ensures.start) _ _ none _ (long_by (packing_kind c.in_ok-source.source) Bits (compiled_game c.in_ok-source.source) (length c.start.result.items) c.in_ok-source.ensures.packing c.start.ensures.long)
      (refused.err ready.0 none) (refused.cause ready.0 none is_open) refused.still));
}
