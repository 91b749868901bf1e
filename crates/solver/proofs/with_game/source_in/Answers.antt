use Rattle.std.proofs.Common.{◌∙◌, rules, sym}
use Rattle.rbg_game.specs.Goals.{points_of}
use Rattle.solver.proofs.Loads.{source_of_text}
use Rattle.solver.proofs.ReadyGame.{kept_with, of_a_game, of_no_game, no_game_cause}
use Rattle.solver.proofs.Exits.{passed_on, gives_none}
use Rattle.solver.proofs.with_game.source_in.Goals as goal

pub returns-in_default : goal.returns-in_default
returns-in_default g c = record {
  read = λ whole. g.met.F.GameFile.whole_stays _ _ whole (g.met.F.Table.stays_here _);
  source = search rules;
  of_a_game = search rules;
  cause = λ whole. tt;
}

pub returns-in_default-packing : goal.returns-in_default-packing
returns-in_default-packing g c = record {
  read = λ whole. g.met.F.GameFile.whole_stays _ _ whole (g.met.F.Table.stays_here _);
  source = search rules;
  of_a_game = search rules;
  cause = λ whole. tt;
}

pub returns-in-Err-OutOfMemory : goal.returns-in-Err-OutOfMemory
returns-in-Err-OutOfMemory g c = record {
  read = λ whole. g.met.F.GameFile.whole_stays _ _ whole (g.met.F.Table.stays_here _);
  source = λ whole. tt;
  of_a_game = λ whole honest. tt;
  cause = λ whole. tt;
}

pub returns-in-Err : goal.returns-in-Err
returns-in-Err g c = record {
  read = λ whole. g.met.F.GameFile.whole_stays _ _ whole (g.met.F.Table.stays_here _);
  source = λ whole. tt;
  of_a_game = λ whole honest. tt;
  cause = search rules;
}

pub returns-in_err-are_positions : goal.returns-in_err-are_positions
returns-in_err-are_positions g c = record {
  read = λ whole. g.met.F.GameFile.whole_stays _ _ whole c.are_positions.ensures.read.stays;
  source = λ whole. gives_none c.from_residual.result _ _ c.from_residual.ensures;
  of_a_game = λ whole honest. gives_none c.from_residual.result _ _ c.from_residual.ensures;
  cause = λ whole.
      let file = c.args.file.now in
      passed_on _ c.from_residual.result _ c.from_residual.ensures
      (no_game_cause (g.F.GameFile.state file) (g.F.GameFile.state c.are_positions.new.table) _ c.in_err-are_positions.ensures.room
      (g.met.F.GameFile.fails_for file c.are_positions.new.table _ whole c.in_err-are_positions.ensures.fault));
}

pub returns-then-not-branch : goal.returns-then-not-branch
returns-then-not-branch g c = record {
  read = λ whole. g.met.F.GameFile.whole_stays _ _ whole c.are_positions.ensures.read.stays;
  source = λ whole. tt;
  of_a_game = λ whole honest. tt;
  cause = λ whole honest.
      let file = c.args.file.now in
      let (k, is) = kept_with (g.F.GameFile.state file).kept c.in-Some.text.now c.in-Some.ensures.some in
      let stored = g.met.F.GameFile.whole_stored file k whole honest is in
      of_no_game c.in-Some.text.now c.in-Some-packing.kind c.in-Ok.source c.in-Ok.ensures.reads c.in-Ok.ensures.packing
      (g.F.Table.stored file) c.in_ok-are_positions.field-0
      (c.in_ok-are_positions.ensures.are stored.0)
      (g.F.GameFile.state file).kept c.in-Some.ensures.some c.in-Some-packing.ensures.some (λ k is. (g.met.F.GameFile.whole_stored file k whole honest is).1)
      c.in-Ok.ensures.one c.if-not-branch.true;
}

pub returns : goal.returns
returns g c = record {
  read = λ whole. g.met.F.GameFile.whole_stays _ _ whole c.are_positions.ensures.read.stays;
  source = λ whole.
      let file = c.args.file.now in
      let asked = g.met.F.GameFile.whole_stays c.args.file.now c.are_positions.new.table whole c.are_positions.ensures.read.stays in
      source_of_text c.in-Ok.source (g.F.GameFile.state c.are_positions.new.table).kept c.in-Some.text.now c.in-Some-packing.kind (points_of c.goal-goal.result)
      (asked.1.text ∙ c.in-Some.ensures.some) (asked.1.packing ∙ c.in-Some-packing.ensures.some)
      (asked.1.goal ∙ sym c.goal-goal.ensures) c.in-Ok.ensures.reads c.in-Ok.ensures.packing c.in-Ok.ensures.goal;
  of_a_game = λ whole honest.
      let file = c.args.file.now in
      let (k, is) = kept_with (g.F.GameFile.state file).kept c.in-Some.text.now c.in-Some.ensures.some in
      let stored = g.met.F.GameFile.whole_stored file k whole honest is in
      of_a_game c.in-Some.text.now c.in-Some-packing.kind c.in-Ok.source c.in-Ok.ensures.reads c.in-Ok.ensures.packing
      (g.F.Table.stored file) c.in_ok-are_positions.field-0
      (c.in_ok-are_positions.ensures.are stored.0)
      (g.F.GameFile.state file).kept c.in-Some.ensures.some c.in-Some-packing.ensures.some
      (λ k is. (g.met.F.GameFile.whole_stored file k whole honest is).1) c.if-not-branch.false;
  cause = λ whole. tt;
}
