use Rattle.std.proofs.Common.{◌≡◌, ◌-◌, ◌≤◌, true, length, Some, slice_get, refl, sym, ap, ◌∙◌, subst, arith}
use Rattle.std.proofs.lemmas.Result.{on_ok_weaker}
use Rattle.rbg_game.specs.Meaning.{game_of, action_of}
use Rattle.rbg_game.proofs.MeaningLemmas.{action_of-Switch}
use Rattle.rbg_game.specs.Positions.{IsStateOf}
use Rattle.legal_moves.specs.Effects.{Effect, EffectAt}
use Rattle.legal_moves.specs.lemmas.Boards.{at_turn, board_at, boards_in}
use Rattle.legal_moves.specs.lemmas.Configurations.{expression_at}
use Rattle.legal_moves.specs.lemmas.Progress.{state_at}
use Rattle.legal_moves.specs.lemmas.Seen.{state_seen}
use Rattle.legal_moves.specs.lemmas.Stands.{configurations_of}
use Rattle.legal_moves.specs.lemmas.VertexSearch.{at_vertex}
use Rattle.legal_moves.specs.declared.search.found.Stand.{Stand}
use Rattle.legal_moves.proofs.automata.ReadyLemmas.{read_at, count_steps, act_plain, act_valid, ask_pattern, switches_is, modifies_is, OnTrue-at}
use Rattle.legal_moves.proofs.searches.AttemptLemmas.{state_there, attempted, filled}
use Rattle.legal_moves.proofs.searches.BoardLemmas.{many_boards}
use Rattle.legal_moves.proofs.searches.WriteLemmas.{effect_of_switch}
use Rattle.legal_moves.proofs.search.searcher.Searcher.write.Goals as goal

pub step-step-requires-clause-upto : goal.step-step-requires-clause-upto
step-step-requires-clause-upto c =
    let game = game_of c.args.self.now.game.now in
    let tables = c.args.self.now.tables.now in
    let index = c.args.index in
    let e = expression_at game index in
    let T = c.index-self-index.result in
    let at_T = read_at tables index T c.requires.ready.within c.index-self-index.is in
    let count = count_steps game tables index c.requires.ready T at_T in
    subst (λ x. c.args.number ≤ length x.steps.items) c.index-self-index.is (omega (arith, count, c.requires.upto))

pub step-step-requires-clause-from : goal.step-step-requires-clause-from
step-step-requires-clause-from c = c.requires.from

pub unreachable-requires : goal.unreachable-requires
unreachable-requires c =
    let game = game_of c.args.self.now.game.now in
    let tables = c.args.self.now.tables.now in
    let index = c.args.index in
    let e = expression_at game index in
    let T = c.index-self-index.result in
    let at_T = read_at tables index T c.requires.ready.within c.index-self-index.is in
    let at_step = subst (λ x. slice_get x.steps.items (c.args.number - 1) ≡ Some c.step-step.result.now) (sym c.index-self-index.is) c.step-step.ensures in
    ask_pattern game tables index c.requires.ready T at_T c.args.number c.requires.from c.step-step.result.now at_step c.in-Ask.field-0 c.in-Ask.field-1 c.in-Ask.is c.requires.writes

pub index-requires : goal.index-requires
index-requires c = omega (arith, c.args.found.now.stands.ok.0, c.requires.at)

-- ---- a switch

pub add-requires-clause-board : goal.add-requires-clause-board
add-requires-clause-board c =
    let old = c.args.found.now in
    let bs = boards_in old.boards in
    let s = c.index.result.now in
    let at_s = read_at old.stands.items c.args.at s c.requires.at c.index.ensures in
    let on = c.requires.kept.within c.args.at s at_s in
    on

pub add-requires-clause-kept : goal.add-requires-clause-kept
add-requires-clause-kept c = c.requires.kept

pub returns-in-Switch-clause-kept : goal.returns-in-Switch-clause-kept
returns-in-Switch-clause-kept c = c.add.ensures.kept

pub returns-in-Switch-clause-tried : goal.returns-in-Switch-clause-tried
returns-in-Switch-clause-tried c =
    let game = game_of c.args.self.now.game.now in
    let tables = c.args.self.now.tables.now in
    let index = c.args.index in
    let e = expression_at game index in
    let T = c.index-self-index.result in
    let at_T = read_at tables index T c.requires.ready.within c.index-self-index.is in
    let at_step = subst (λ x. slice_get x.steps.items (c.args.number - 1) ≡ Some c.step-step.result.now) (sym c.index-self-index.is) c.step-step.ensures in
    let old = c.args.found.now in
    let bs = boards_in old.boards in
    let s = c.index.result.now in
    let at_s = read_at old.stands.items c.args.at s c.requires.at c.index.ensures in
    let on = c.requires.kept.within c.args.at s at_s in
    let there = ap (λ T. at_vertex T c.args.vertex) (state_there bs old.stands.items c.args.at s at_s) in
    let S = at_turn (board_at bs s.board) s.mover c.args.vertex in
    let role = c.in-Switch.role in
    let U = record S { mover = role } in
    let valid = act_valid game tables index c.requires.ready T at_T c.args.number c.requires.from c.step-step.result.now at_step c.in-Act.action c.in-Act.is S U true (effect_of_switch game (action_of c.in-Act.action) role S (ap action_of c.in-Switch.is ∙ action_of-Switch role)) in
    let reached = subst (λ S. EffectAt game e 1 c.args.number S U) (sym there) valid in
    let t : Stand = record {
      board = s.board;
      mover = role;
      vertex = c.args.vertex;
      place = c.args.number;
      parent = c.args.at;
      shows = c.is_modifier.result;
      ends = c.is_switch.result;
    } in
    let is : at_turn (board_at bs s.board) role c.args.vertex ≡ U = refl in
    let shows = c.is_modifier.ensures ∙ modifies_is game tables index c.requires.ready T at_T c.args.number c.requires.from c.step-step.result.now at_step in
    let ends = c.is_switch.ensures ∙ switches_is game tables index c.requires.ready T at_T c.args.number c.requires.from c.step-step.result.now at_step in
    on_ok_weaker c.add.result (λ added. attempted game e c.args.number c.args.at old old t (at_vertex (state_at (configurations_of old) c.args.at) c.args.vertex) U refl c.requires.kept on is reached refl refl shows ends c.add.new.self c.add.ensures.boards added) c.add.ensures.added

pub returns-in-Switch-clause-wide : goal.returns-in-Switch-clause-wide
returns-in-Switch-clause-wide c =
    let game = game_of c.args.self.now.game.now in
    let tables = c.args.self.now.tables.now in
    let index = c.args.index in
    let e = expression_at game index in
    let T = c.index-self-index.result in
    let at_T = read_at tables index T c.requires.ready.within c.index-self-index.is in
    let at_step = subst (λ x. slice_get x.steps.items (c.args.number - 1) ≡ Some c.step-step.result.now) (sym c.index-self-index.is) c.step-step.ensures in
    let old = c.args.found.now in
    let bs = boards_in old.boards in
    let s = c.index.result.now in
    let at_s = read_at old.stands.items c.args.at s c.requires.at c.index.ensures in
    let on = c.requires.kept.within c.args.at s at_s in
    let there = ap (λ T. at_vertex T c.args.vertex) (state_there bs old.stands.items c.args.at s at_s) in
    let S = at_turn (board_at bs s.board) s.mover c.args.vertex in
    let role = c.in-Switch.role in
    let U = record S { mover = role } in
    let valid = act_valid game tables index c.requires.ready T at_T c.args.number c.requires.from c.step-step.result.now at_step c.in-Act.action c.in-Act.is S U true (effect_of_switch game (action_of c.in-Act.action) role S (ap action_of c.in-Switch.is ∙ action_of-Switch role)) in
    let reached = subst (λ S. EffectAt game e 1 c.args.number S U) (sym there) valid in
    let t : Stand = record {
      board = s.board;
      mover = role;
      vertex = c.args.vertex;
      place = c.args.number;
      parent = c.args.at;
      shows = c.is_modifier.result;
      ends = c.is_switch.result;
    } in
    let is : at_turn (board_at bs s.board) role c.args.vertex ≡ U = refl in
    let shows = c.is_modifier.ensures ∙ modifies_is game tables index c.requires.ready T at_T c.args.number c.requires.from c.step-step.result.now at_step in
    let ends = c.is_switch.ensures ∙ switches_is game tables index c.requires.ready T at_T c.args.number c.requires.from c.step-step.result.now at_step in
    λ wide. let too_many = c.add.ensures.wide wide in
    filled game e c.args.number c.args.at old old t (at_vertex (state_at (configurations_of old) c.args.at) c.args.vertex) U refl c.requires.kept on is reached refl refl shows ends too_many.0 too_many.1

-- ---- an action that writes what is there

pub leaves-requires-clause-state : goal.leaves-requires-clause-state
leaves-requires-clause-state c =
    let game = game_of c.args.self.now.game.now in
    let old = c.args.found.now in
    let bs = boards_in old.boards in
    let s = c.index.result.now in
    let at_s = read_at old.stands.items c.args.at s c.requires.at c.index.ensures in
    let state_is = ap (λ T. at_vertex T c.args.vertex) (state_there bs old.stands.items c.args.at s at_s) ∙ sym c.seen.ensures in
    subst (IsStateOf game) state_is c.requires.state

pub leaves-requires-clause-plain : goal.leaves-requires-clause-plain
leaves-requires-clause-plain c =
    let game = game_of c.args.self.now.game.now in
    let tables = c.args.self.now.tables.now in
    let index = c.args.index in
    let e = expression_at game index in
    let T = c.index-self-index.result in
    let at_T = read_at tables index T c.requires.ready.within c.index-self-index.is in
    let at_step = subst (λ x. slice_get x.steps.items (c.args.number - 1) ≡ Some c.step-step.result.now) (sym c.index-self-index.is) c.step-step.ensures in
    let old = c.args.found.now in
    let bs = boards_in old.boards in
    let s = c.index.result.now in
    let at_s = read_at old.stands.items c.args.at s c.requires.at c.index.ensures in
    let S = state_seen c.seen.result in
    let state_is = ap (λ T. at_vertex T c.args.vertex) (state_there bs old.stands.items c.args.at s at_s) ∙ sym c.seen.ensures in
    act_plain game tables index c.requires.ready T at_T c.args.number c.requires.from c.step-step.result.now at_step c.in-Act.action c.in-Act.is S (subst (IsStateOf game) state_is c.requires.state)

pub seen-requires-clause-board : goal.seen-requires-clause-board
seen-requires-clause-board c =
    let old = c.args.found.now in
    let bs = boards_in old.boards in
    let s = c.index.result.now in
    let at_s = read_at old.stands.items c.args.at s c.requires.at c.index.ensures in
    omega (arith, many_boards old.boards, c.requires.kept.within c.args.at s at_s)

pub seen-requires-clause-whole : goal.seen-requires-clause-whole
seen-requires-clause-whole c = c.requires.kept.whole

pub add-requires-then-leaves-clause-board : goal.add-requires-then-leaves-clause-board
add-requires-then-leaves-clause-board c =
    let old = c.args.found.now in
    let s = c.index.result.now in
    c.requires.kept.within c.args.at s (read_at old.stands.items c.args.at s c.requires.at c.index.ensures)

pub add-requires-then-leaves-clause-kept : goal.add-requires-then-leaves-clause-kept
add-requires-then-leaves-clause-kept c = c.requires.kept

pub returns-then-leaves-clause-kept : goal.returns-then-leaves-clause-kept
returns-then-leaves-clause-kept c = c.add-then-leaves.ensures.kept

pub returns-then-leaves-clause-tried : goal.returns-then-leaves-clause-tried
returns-then-leaves-clause-tried c =
    let game = game_of c.args.self.now.game.now in
    let tables = c.args.self.now.tables.now in
    let index = c.args.index in
    let e = expression_at game index in
    let T = c.index-self-index.result in
    let at_T = read_at tables index T c.requires.ready.within c.index-self-index.is in
    let at_step = subst (λ x. slice_get x.steps.items (c.args.number - 1) ≡ Some c.step-step.result.now) (sym c.index-self-index.is) c.step-step.ensures in
    let old = c.args.found.now in
    let bs = boards_in old.boards in
    let s = c.index.result.now in
    let at_s = read_at old.stands.items c.args.at s c.requires.at c.index.ensures in
    let on = c.requires.kept.within c.args.at s at_s in
    let there = ap (λ T. at_vertex T c.args.vertex) (state_there bs old.stands.items c.args.at s at_s) in
    let S = at_turn (board_at bs s.board) s.mover c.args.vertex in
    let stays : Effect game (action_of c.in-Act.action) S S = subst (λ U. Effect game (action_of c.in-Act.action) U U) c.seen.ensures
    (OnTrue-at c.leaves.result _ c.if-leaves.true c.leaves.ensures) in
    let valid = act_valid game tables index c.requires.ready T at_T c.args.number c.requires.from c.step-step.result.now at_step c.in-Act.action c.in-Act.is S S true stays in
    let reached = subst (λ U. EffectAt game e 1 c.args.number U S) (sym there) valid in
    let t : Stand = record {
      board = s.board;
      mover = s.mover;
      vertex = c.args.vertex;
      place = c.args.number;
      parent = c.args.at;
      shows = c.is_modifier-then-leaves.result;
      ends = c.is_switch-then-leaves.result;
    } in
    let shows = c.is_modifier-then-leaves.ensures
    ∙ modifies_is game tables index c.requires.ready T at_T c.args.number c.requires.from c.step-step.result.now at_step in
    let ends = c.is_switch-then-leaves.ensures
    ∙ switches_is game tables index c.requires.ready T at_T c.args.number c.requires.from c.step-step.result.now at_step in
    on_ok_weaker c.add-then-leaves.result (λ added. attempted game e c.args.number c.args.at old old t (at_vertex (state_at (configurations_of old) c.args.at) c.args.vertex) S refl c.requires.kept on refl reached refl refl shows ends c.add-then-leaves.new.self c.add-then-leaves.ensures.boards added) c.add-then-leaves.ensures.added

pub returns-then-leaves-clause-wide : goal.returns-then-leaves-clause-wide
returns-then-leaves-clause-wide c =
    let game = game_of c.args.self.now.game.now in
    let tables = c.args.self.now.tables.now in
    let index = c.args.index in
    let e = expression_at game index in
    let T = c.index-self-index.result in
    let at_T = read_at tables index T c.requires.ready.within c.index-self-index.is in
    let at_step = subst (λ x. slice_get x.steps.items (c.args.number - 1) ≡ Some c.step-step.result.now) (sym c.index-self-index.is) c.step-step.ensures in
    let old = c.args.found.now in
    let bs = boards_in old.boards in
    let s = c.index.result.now in
    let at_s = read_at old.stands.items c.args.at s c.requires.at c.index.ensures in
    let on = c.requires.kept.within c.args.at s at_s in
    let there = ap (λ T. at_vertex T c.args.vertex) (state_there bs old.stands.items c.args.at s at_s) in
    let S = at_turn (board_at bs s.board) s.mover c.args.vertex in
    let stays : Effect game (action_of c.in-Act.action) S S = subst (λ U. Effect game (action_of c.in-Act.action) U U) c.seen.ensures
    (OnTrue-at c.leaves.result _ c.if-leaves.true c.leaves.ensures) in
    let valid = act_valid game tables index c.requires.ready T at_T c.args.number c.requires.from c.step-step.result.now at_step c.in-Act.action c.in-Act.is S S true stays in
    let reached = subst (λ U. EffectAt game e 1 c.args.number U S) (sym there) valid in
    let t : Stand = record {
      board = s.board;
      mover = s.mover;
      vertex = c.args.vertex;
      place = c.args.number;
      parent = c.args.at;
      shows = c.is_modifier-then-leaves.result;
      ends = c.is_switch-then-leaves.result;
    } in
    let shows = c.is_modifier-then-leaves.ensures
    ∙ modifies_is game tables index c.requires.ready T at_T c.args.number c.requires.from c.step-step.result.now at_step in
    let ends = c.is_switch-then-leaves.ensures
    ∙ switches_is game tables index c.requires.ready T at_T c.args.number c.requires.from c.step-step.result.now at_step in
    λ wide. let too_many = c.add-then-leaves.ensures.wide wide in
    filled game e c.args.number c.args.at old old t (at_vertex (state_at (configurations_of old) c.args.at) c.args.vertex) S refl c.requires.kept on refl reached refl refl shows ends too_many.0 too_many.1
