use Rattle.std.specs.Prelude.{Contains}
use Rattle.std.proofs.Common.{◌≡◌, ◌-◌, ◌≤◌, true, false, length, Some, slice_get, slice_index, sym, ◌∙◌, subst, arith}
use Rattle.rbg_game.specs.Meaning.{game_of, action_of}
use Rattle.legal_moves.specs.lemmas.Configurations.{expression_at}
use Rattle.legal_moves.specs.lemmas.VertexSearch.{at_vertex, TellsAt}
use Rattle.legal_moves.specs.lemmas.Narrow.{looks_alone, step_looks}
use Rattle.legal_moves.specs.declared.effect.Glance.TheVariants.{Fails}
use Rattle.legal_moves.specs.declared.automaton.table.Step.{Step}
use Rattle.legal_moves.proofs.automata.ReadyLemmas.{read_at, count_steps, act_plain, act_tells, OnFalse-at}
use Rattle.legal_moves.proofs.automata.SetLemmas.{step_is, never_on}
use Rattle.legal_moves.proofs.automata.StepLemmas.{all_at}
use Rattle.legal_moves.proofs.search.searcher.Searcher.leads_to.Goals as goal

pub step-step-requires-clause-upto : goal.step-step-requires-clause-upto
step-step-requires-clause-upto c =
    let game = game_of c.args.self.now.game.now in
    let tables = c.args.self.now.tables.now in
    let index = c.args.index in
    let e = expression_at game index in
    let T = c.index-self-index.result in
    let at_T = read_at tables index T c.requires.ready.within c.index-self-index.is in
    let count = count_steps game tables index c.requires.ready T at_T in
    subst (λ x. c.args.number ≤ length x.steps.items) c.index-self-index.is (omega (arith, count, c.requires.upto))

pub at_a_glance-requires-clause-plain : goal.at_a_glance-requires-clause-plain
at_a_glance-requires-clause-plain c =
    let game = game_of c.args.self.now.game.now in
    let tables = c.args.self.now.tables.now in
    let index = c.args.index in
    let e = expression_at game index in
    let T = c.index-self-index.result in
    let at_T = read_at tables index T c.requires.ready.within c.index-self-index.is in
    let at_step = subst (λ x. slice_get x.steps.items (c.args.number - 1) ≡ Some c.step-step.result.now) (sym c.index-self-index.is) c.step-step.ensures in
    act_plain game tables index c.requires.ready T at_T c.args.number c.requires.from c.step-step.result.now at_step c.in-Act.action c.in-Act.is (at_vertex c.args.state.now c.args.vertex) c.requires.state

pub unreachable-requires : goal.unreachable-requires
unreachable-requires c =
    let game = game_of c.args.self.now.game.now in
    let tables = c.args.self.now.tables.now in
    let index = c.args.index in
    let e = expression_at game index in
    let T = c.index-self-index.result in
    let at_T = read_at tables index T c.requires.ready.within c.index-self-index.is in
    let at_step = subst (λ x. slice_get x.steps.items (c.args.number - 1) ≡ Some c.step-step.result.now) (sym c.index-self-index.is) c.step-step.ensures in
    let looks = all_at (λ (s : Step). step_looks s ≡ true) T.steps.items (c.args.number - 1) c.step-step.result.now (c.requires.narrow T at_T).1 at_step in
    let alone : looks_alone (action_of c.in-Act.action) ≡ true = subst (λ s. step_looks s ≡ true) c.in-Act.is looks in
    let never : true ≡ false = sym alone ∙ c.in-Writes.ensures.1 in
    cc

pub unreachable-requires-in-Ask : goal.unreachable-requires-in-Ask
unreachable-requires-in-Ask c =
    let game = game_of c.args.self.now.game.now in
    let tables = c.args.self.now.tables.now in
    let index = c.args.index in
    let e = expression_at game index in
    let T = c.index-self-index.result in
    let at_T = read_at tables index T c.requires.ready.within c.index-self-index.is in
    let at_step = subst (λ x. slice_get x.steps.items (c.args.number - 1) ≡ Some c.step-step.result.now) (sym c.index-self-index.is) c.step-step.ensures in
    let looks = all_at (λ (s : Step). step_looks s ≡ true) T.steps.items (c.args.number - 1) c.step-step.result.now (c.requires.narrow T at_T).1 at_step in
    let never : false ≡ true = subst (λ s. step_looks s ≡ true) c.in-Ask.is looks in
    cc

pub returns-in-At-clause-some : goal.returns-in-At-clause-some
returns-in-At-clause-some c =
    let game = game_of c.args.self.now.game.now in
    let tables = c.args.self.now.tables.now in
    let index = c.args.index in
    let e = expression_at game index in
    let T = c.index-self-index.result in
    let at_T = read_at tables index T c.requires.ready.within c.index-self-index.is in
    let at_step = subst (λ x. slice_get x.steps.items (c.args.number - 1) ≡ Some c.step-step.result.now) (sym c.index-self-index.is) c.step-step.ensures in
    let tells = act_tells game tables index c.requires.ready T at_T c.args.number c.requires.from c.step-step.result.now at_step c.in-Act.action c.in-Act.is (at_vertex c.args.state.now c.args.vertex) c.at_a_glance.result c.at_a_glance.ensures in
    (subst (TellsAt game e c.args.number (at_vertex c.args.state.now c.args.vertex)) c.in-At.is tells).0

pub returns-in-Fails-clause-none : goal.returns-in-Fails-clause-none
returns-in-Fails-clause-none c =
    let game = game_of c.args.self.now.game.now in
    let tables = c.args.self.now.tables.now in
    let index = c.args.index in
    let e = expression_at game index in
    let T = c.index-self-index.result in
    let at_T = read_at tables index T c.requires.ready.within c.index-self-index.is in
    let at_step = subst (λ x. slice_get x.steps.items (c.args.number - 1) ≡ Some c.step-step.result.now) (sym c.index-self-index.is) c.step-step.ensures in
    let tells = act_tells game tables index c.requires.ready T at_T c.args.number c.requires.from c.step-step.result.now at_step c.in-Act.action c.in-Act.is (at_vertex c.args.state.now c.args.vertex) c.at_a_glance.result c.at_a_glance.ensures in
    subst (TellsAt game e c.args.number (at_vertex c.args.state.now c.args.vertex)) c.in-Fails.is tells

pub may_pass-requires-clause-upto : goal.may_pass-requires-clause-upto
may_pass-requires-clause-upto c =
    let game = game_of c.args.self.now.game.now in
    let tables = c.args.self.now.tables.now in
    let index = c.args.index in
    let T = c.index-self-index.result in
    let at_T = read_at tables index T c.requires.ready.within c.index-self-index.is in
    let count = count_steps game tables index c.requires.ready T at_T in
    subst (λ x. c.args.number ≤ length x.steps.items) c.index-self-index.is (omega (arith, count, c.requires.upto))

pub returns-then-not-may_pass-clause-none : goal.returns-then-not-may_pass-clause-none
returns-then-not-may_pass-clause-none c =
    let game = game_of c.args.self.now.game.now in
    let tables = c.args.self.now.tables.now in
    let index = c.args.index in
    let T = c.index-self-index.result in
    let S = at_vertex c.args.state.now c.args.vertex in
    let step = c.step-step.result.now in
    let at_T = read_at tables index T c.requires.ready.within c.index-self-index.is in
    let at_step = subst (λ x. slice_get x.steps.items (c.args.number - 1) ≡ Some step) (sym c.index-self-index.is) c.step-step.ensures in
    let refuses = OnFalse-at c.may_pass.result _ c.if-not-may_pass.true c.may_pass.ensures step c.step-step.ensures in
    let xs = refuses.0 in
    let none = subst (λ ps. ¬ Contains xs (slice_index ps c.args.vertex)) c.deref.ensures.0
    (subst (λ v. ¬ Contains xs (slice_index c.deref.result.now v)) c.from.ensures refuses.2) in
    let is = step_is step xs refuses.1 in
    act_tells game tables index c.requires.ready T at_T c.args.number c.requires.from step at_step is.0 is.1 S Fails
    (never_on game (action_of is.0) xs S is.2 none)
