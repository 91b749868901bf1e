use Rattle.std.proofs.Common.{◌≡◌, ◌-◌, ◌≤◌, inl, length, Some, slice_get, refl, sym, ap, ◌∙◌, subst, arith}
use Rattle.std.proofs.lemmas.Result.{on_ok_weaker}
use Rattle.rbg_game.specs.Meaning.{game_of}
use Rattle.rbg_game.specs.Positions.{IsStateOf}
use Rattle.rbg_game.specs.declared.position.SemiState.{SemiState}
use Rattle.legal_moves.specs.Effects.{EffectAt}
use Rattle.legal_moves.specs.lemmas.Boards.{boards_in}
use Rattle.legal_moves.specs.lemmas.Configurations.{expression_at}
use Rattle.legal_moves.specs.lemmas.Progress.{state_at}
use Rattle.legal_moves.specs.lemmas.Stands.{configurations_of}
use Rattle.legal_moves.specs.lemmas.VertexSearch.{at_vertex}
use Rattle.legal_moves.specs.declared.search.found.Stand.{Stand}
use Rattle.legal_moves.proofs.automata.ReadyLemmas.{read_at, count_steps, act_plain, act_valid, act_refused, ask_pattern, switches_is, modifies_is, OnTrue-at, OnFalse-at}
use Rattle.legal_moves.proofs.Exits.{refused, no_error}
use Rattle.legal_moves.proofs.searches.AttemptLemmas.{state_there, attempted, filled}
use Rattle.legal_moves.proofs.searches.BoardLemmas.{many_boards}
use Rattle.legal_moves.proofs.searches.WriteLemmas.{fits_on}
use Rattle.legal_moves.proofs.Faults.{for_want}
use Rattle.legal_moves.proofs.search.searcher.Searcher.write_anew.Goals as goal

pub step-step-requires-clause-upto : goal.step-step-requires-clause-upto
step-step-requires-clause-upto c =
    let game = game_of c.args.self.now.game.now in
    let tables = c.args.self.now.tables.now in
    let index = c.args.index in
    let e = expression_at game index in
    let T = c.index-self-index.result in
    let at_T = read_at tables index T c.requires.ready.within c.index-self-index.is in
    let count = count_steps game tables index c.requires.ready T at_T in
    subst (λ x. c.args.number ≤ length x.steps.items) c.index-self-index.is (omega (arith, count, c.requires.upto))

pub step-step-requires-clause-from : goal.step-step-requires-clause-from
step-step-requires-clause-from c = c.requires.from

pub unreachable-requires : goal.unreachable-requires
unreachable-requires c =
    let game = game_of c.args.self.now.game.now in
    let tables = c.args.self.now.tables.now in
    let index = c.args.index in
    let e = expression_at game index in
    let T = c.index-self-index.result in
    let at_T = read_at tables index T c.requires.ready.within c.index-self-index.is in
    let at_step = subst (λ x. slice_get x.steps.items (c.args.number - 1) ≡ Some c.step-step.result.now) (sym c.index-self-index.is) c.step-step.ensures in
    ask_pattern game tables index c.requires.ready T at_T c.args.number c.requires.from c.step-step.result.now at_step c.in-Ask.field-0 c.in-Ask.field-1 c.in-Ask.is c.requires.writes

pub index-requires : goal.index-requires
index-requires c = omega (arith, c.args.found.now.stands.ok.0, c.requires.at)

pub act-requires-clause-state : goal.act-requires-clause-state
act-requires-clause-state c =
    let game = game_of c.args.self.now.game.now in
    let old = c.args.found.now in
    let bs = boards_in old.boards in
    let s = c.index.result.now in
    let at_s = read_at old.stands.items c.args.at s c.requires.at c.index.ensures in
    let S = c.put.new.state in
    let state_is = ap (λ T. at_vertex T c.args.vertex) (state_there bs old.stands.items c.args.at s at_s) ∙ sym c.put.ensures in
    subst (IsStateOf game) state_is c.requires.state

pub act-requires-clause-plain : goal.act-requires-clause-plain
act-requires-clause-plain c =
    let game = game_of c.args.self.now.game.now in
    let tables = c.args.self.now.tables.now in
    let index = c.args.index in
    let e = expression_at game index in
    let T = c.index-self-index.result in
    let at_T = read_at tables index T c.requires.ready.within c.index-self-index.is in
    let at_step = subst (λ x. slice_get x.steps.items (c.args.number - 1) ≡ Some c.step-step.result.now) (sym c.index-self-index.is) c.step-step.ensures in
    let old = c.args.found.now in
    let bs = boards_in old.boards in
    let s = c.index.result.now in
    let at_s = read_at old.stands.items c.args.at s c.requires.at c.index.ensures in
    let S = c.put.new.state in
    let state_is = ap (λ T. at_vertex T c.args.vertex) (state_there bs old.stands.items c.args.at s at_s) ∙ sym c.put.ensures in
    act_plain game tables index c.requires.ready T at_T c.args.number c.requires.from c.step-step.result.now at_step c.in-Act.action c.in-Act.is S (subst (IsStateOf game) state_is c.requires.state)

pub returns-then-not-act-clause-tried : goal.returns-then-not-act-clause-tried
returns-then-not-act-clause-tried c =
    let game = game_of c.args.self.now.game.now in
    let tables = c.args.self.now.tables.now in
    let index = c.args.index in
    let e = expression_at game index in
    let T = c.index-self-index.result in
    let at_T = read_at tables index T c.requires.ready.within c.index-self-index.is in
    let at_step = subst (λ x. slice_get x.steps.items (c.args.number - 1) ≡ Some c.step-step.result.now) (sym c.index-self-index.is) c.step-step.ensures in
    let old = c.args.found.now in
    let bs = boards_in old.boards in
    let s = c.index.result.now in
    let at_s = read_at old.stands.items c.args.at s c.requires.at c.index.ensures in
    let S = c.put.new.state in
    let state_is = ap (λ T. at_vertex T c.args.vertex) (state_there bs old.stands.items c.args.at s at_s) ∙ sym c.put.ensures in
    let never = OnFalse-at c.act.result _ c.if-not-act.true (act_refused game tables index c.requires.ready T at_T c.args.number c.requires.from c.step-step.result.now at_step c.in-Act.action c.in-Act.is S c.act.result c.act.ensures.refused) in
    inl (refl, subst (λ S. (U : SemiState) → ¬ EffectAt game e 1 c.args.number S U) (sym state_is) never)

pub returns-then-not-act-clause-kept : goal.returns-then-not-act-clause-kept
returns-then-not-act-clause-kept c = c.requires.kept

pub returns-then-not-act-clause-wide : goal.returns-then-not-act-clause-wide
returns-then-not-act-clause-wide c = no_error

pub number_of-requires-clause-kept : goal.number_of-requires-clause-kept
number_of-requires-clause-kept c = c.requires.kept

pub number_of-requires-clause-large : goal.number_of-requires-clause-large
number_of-requires-clause-large c =
    let game = game_of c.args.self.now.game.now in
    let tables = c.args.self.now.tables.now in
    let index = c.args.index in
    let e = expression_at game index in
    let T = c.index-self-index.result in
    let at_T = read_at tables index T c.requires.ready.within c.index-self-index.is in
    let at_step = subst (λ x. slice_get x.steps.items (c.args.number - 1) ≡ Some c.step-step.result.now) (sym c.index-self-index.is) c.step-step.ensures in
    let old = c.args.found.now in
    let bs = boards_in old.boards in
    let s = c.index.result.now in
    let at_s = read_at old.stands.items c.args.at s c.requires.at c.index.ensures in
    let on = c.requires.kept.within c.args.at s at_s in
    let S = c.put.new.state in
    let state_is = ap (λ T. at_vertex T c.args.vertex) (state_there bs old.stands.items c.args.at s at_s) ∙ sym c.put.ensures in
    let U = c.act.new.state in
    let valid = OnTrue-at c.act.result _ c.if-not-act.false (act_valid game tables index c.requires.ready T at_T c.args.number c.requires.from c.step-step.result.now at_step c.in-Act.action c.in-Act.is S U c.act.result c.act.ensures.valid) in
    let reached = subst (λ S. EffectAt game e 1 c.args.number S U) (sym state_is) valid in
    fits_on game e c.args.number old.boards s.board (at_vertex (state_at (configurations_of old) c.args.at) c.args.vertex) U s.mover c.args.vertex c.requires.kept.whole
    (omega (arith, many_boards old.boards, on))
    (ap (λ T. at_vertex T c.args.vertex) (state_there bs old.stands.items c.args.at s at_s)) c.requires.ready.sound c.requires.ready.expression_is c.requires.state reached

pub add-requires-clause-board : goal.add-requires-clause-board
add-requires-clause-board c = c.in_ok-board.ensures.number.0

pub add-requires-clause-kept : goal.add-requires-clause-kept
add-requires-clause-kept c = c.in_ok-board.ensures.kept

pub returns-clause-tried : goal.returns-clause-tried
returns-clause-tried c =
    let game = game_of c.args.self.now.game.now in
    let tables = c.args.self.now.tables.now in
    let index = c.args.index in
    let e = expression_at game index in
    let T = c.index-self-index.result in
    let at_T = read_at tables index T c.requires.ready.within c.index-self-index.is in
    let at_step = subst (λ x. slice_get x.steps.items (c.args.number - 1) ≡ Some c.step-step.result.now) (sym c.index-self-index.is) c.step-step.ensures in
    let old = c.args.found.now in
    let bs = boards_in old.boards in
    let s = c.index.result.now in
    let at_s = read_at old.stands.items c.args.at s c.requires.at c.index.ensures in
    let S = c.put.new.state in
    let state_is = ap (λ T. at_vertex T c.args.vertex) (state_there bs old.stands.items c.args.at s at_s) ∙ sym c.put.ensures in
    let U = c.act.new.state in
    let valid = OnTrue-at c.act.result _ c.if-not-act.false (act_valid game tables index c.requires.ready T at_T c.args.number c.requires.from c.step-step.result.now at_step c.in-Act.action c.in-Act.is S U c.act.result c.act.ensures.valid) in
    let reached = subst (λ S. EffectAt game e 1 c.args.number S U) (sym state_is) valid in
    let t : Stand = record {
      board = c.in_ok-board.board;
      mover = U.mover;
      vertex = U.vertex;
      place = c.args.number;
      parent = c.args.at;
      shows = c.is_modifier.result;
      ends = c.is_switch.result;
    } in
    let shows = c.is_modifier.ensures ∙ modifies_is game tables index c.requires.ready T at_T c.args.number c.requires.from c.step-step.result.now at_step in
    let ends = c.is_switch.ensures ∙ switches_is game tables index c.requires.ready T at_T c.args.number c.requires.from c.step-step.result.now at_step in
    let mid = c.number_of.new.self in
    let kept = c.in_ok-board.ensures.kept in
    let same = c.in_ok-board.ensures.same in
    on_ok_weaker c.add.result (λ added. attempted game e c.args.number c.args.at old mid t (at_vertex (state_at (configurations_of old) c.args.at) c.args.vertex) U same kept c.in_ok-board.ensures.number.0 c.in_ok-board.ensures.number.1 reached refl refl shows ends c.add.new.self c.add.ensures.boards added) c.add.ensures.added

pub returns-clause-wide : goal.returns-clause-wide
returns-clause-wide c =
    let game = game_of c.args.self.now.game.now in
    let tables = c.args.self.now.tables.now in
    let index = c.args.index in
    let e = expression_at game index in
    let T = c.index-self-index.result in
    let at_T = read_at tables index T c.requires.ready.within c.index-self-index.is in
    let at_step = subst (λ x. slice_get x.steps.items (c.args.number - 1) ≡ Some c.step-step.result.now) (sym c.index-self-index.is) c.step-step.ensures in
    let old = c.args.found.now in
    let bs = boards_in old.boards in
    let s = c.index.result.now in
    let at_s = read_at old.stands.items c.args.at s c.requires.at c.index.ensures in
    let S = c.put.new.state in
    let state_is = ap (λ T. at_vertex T c.args.vertex) (state_there bs old.stands.items c.args.at s at_s) ∙ sym c.put.ensures in
    let U = c.act.new.state in
    let valid = OnTrue-at c.act.result _ c.if-not-act.false (act_valid game tables index c.requires.ready T at_T c.args.number c.requires.from c.step-step.result.now at_step c.in-Act.action c.in-Act.is S U c.act.result c.act.ensures.valid) in
    let reached = subst (λ S. EffectAt game e 1 c.args.number S U) (sym state_is) valid in
    let t : Stand = record {
      board = c.in_ok-board.board;
      mover = U.mover;
      vertex = U.vertex;
      place = c.args.number;
      parent = c.args.at;
      shows = c.is_modifier.result;
      ends = c.is_switch.result;
    } in
    let shows = c.is_modifier.ensures ∙ modifies_is game tables index c.requires.ready T at_T c.args.number c.requires.from c.step-step.result.now at_step in
    let ends = c.is_switch.ensures ∙ switches_is game tables index c.requires.ready T at_T c.args.number c.requires.from c.step-step.result.now at_step in
    let mid = c.number_of.new.self in
    let kept = c.in_ok-board.ensures.kept in
    let same = c.in_ok-board.ensures.same in
    λ wide. let too_many = c.add.ensures.wide wide in
    filled game e c.args.number c.args.at old mid t (at_vertex (state_at (configurations_of old) c.args.at) c.args.vertex) U same kept c.in_ok-board.ensures.number.0 c.in_ok-board.ensures.number.1 reached refl refl shows ends too_many.0 too_many.1

pub returns-clause-kept : goal.returns-clause-kept
returns-clause-kept c = c.add.ensures.kept

pub returns-in_err-board-clause-kept : goal.returns-in_err-board-clause-kept
returns-in_err-board-clause-kept c = refused _ c.from_residual.result _ c.from_residual.ensures.1

pub returns-in_err-board-clause-tried : goal.returns-in_err-board-clause-tried
returns-in_err-board-clause-tried c = refused _ c.from_residual.result _ c.from_residual.ensures.1

pub returns-in_err-board-clause-wide : goal.returns-in_err-board-clause-wide
returns-in_err-board-clause-wide c = for_want c.from_residual.result c.from_residual.ensures.1

pub put-requires-clause-board : goal.put-requires-clause-board
put-requires-clause-board c =
    let old = c.args.found.now in
    let bs = boards_in old.boards in
    let s = c.index.result.now in
    let at_s = read_at old.stands.items c.args.at s c.requires.at c.index.ensures in
    omega (arith, many_boards old.boards, c.requires.kept.within c.args.at s at_s)

pub put-requires-clause-whole : goal.put-requires-clause-whole
put-requires-clause-whole c = c.requires.kept.whole
