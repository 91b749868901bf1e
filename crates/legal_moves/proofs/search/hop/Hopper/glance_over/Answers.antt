use Rattle.std.specs.Prelude.{Contains}
use Rattle.std.proofs.Common.{◌≡◌, ◌-◌, ◌≤◌, ℕ, List, IfOk, length, Some, slice_get, slice_index, sym, ap, ◌∙◌, subst, arith}
use Rattle.rbg_game.specs.Meaning.{game_of, action_of}
use Rattle.rbg_game.specs.Positions.{IsStateOf}
use Rattle.legal_moves.specs.lemmas.Boards.{boards_in}
use Rattle.legal_moves.specs.lemmas.Configurations.{expression_at}
use Rattle.legal_moves.specs.lemmas.Progress.{state_at}
use Rattle.legal_moves.specs.lemmas.Seen.{state_seen}
use Rattle.legal_moves.specs.lemmas.Stands.{configurations_of}
use Rattle.legal_moves.specs.lemmas.VertexSearch.{at_vertex, GlanceTells, TellsAt}
use Rattle.legal_moves.proofs.automata.ReadyLemmas.{read_at, count_steps, act_plain, act_tells, act_narrow, OnFalse-at}
use Rattle.legal_moves.proofs.automata.SetLemmas.{step_is, never_on}
use Rattle.legal_moves.specs.declared.effect.Glance.TheVariants.{Fails}
use Rattle.rbg_game.specs.declared.position.SemiState.{SemiState}
use Rattle.legal_moves.proofs.searches.AttemptLemmas.{state_there}
use Rattle.legal_moves.proofs.searches.BoardLemmas.{many_boards}
use Rattle.legal_moves.proofs.search.hop.Hopper.glance_over.Goals as goal

pub step-step-requires-clause-upto : goal.step-step-requires-clause-upto
step-step-requires-clause-upto c =
    let game = game_of c.args.self.now.searcher.game.now in
    let tables = c.args.self.now.searcher.tables.now in
    let index = c.args.index in
    let T = c.index-self-index.result in
    let at_T = read_at tables index T c.requires.ready.within c.index-self-index.is in
    let count = count_steps game tables index c.requires.ready T at_T in
    subst (λ x. c.args.jump.number ≤ length x.steps.items) c.index-self-index.is (omega (arith, count, c.requires.upto))

pub seen-seen-requires-clause-board : goal.seen-seen-requires-clause-board
seen-seen-requires-clause-board c =
    let stands = c.args.found.now.stands.items in
    let s = c.index.result.now in
    omega (
      arith,
      many_boards c.args.found.now.boards,
      c.requires.kept.within c.args.at s (read_at stands c.args.at s c.requires.at c.index.ensures),
    )

pub glance_where_seen-requires-clause-state : goal.glance_where_seen-requires-clause-state
glance_where_seen-requires-clause-state c =
    let game = game_of c.args.self.now.searcher.game.now in
    let stands = c.args.found.now.stands.items in
    let s = c.index.result.now in
    let there = state_there (boards_in c.args.found.now.boards) stands c.args.at s (read_at stands c.args.at s c.requires.at c.index.ensures) in
    let state_is : state_seen c.seen-seen.result ≡ at_vertex (state_at (configurations_of c.args.found.now) c.args.at) c.args.jump.vertex =
    c.seen-seen.ensures ∙ ap (λ A. at_vertex A c.args.jump.vertex) (sym there) in
    subst (IsStateOf game) (sym state_is) c.requires.state

pub glance_where_seen-requires-clause-plain : goal.glance_where_seen-requires-clause-plain
glance_where_seen-requires-clause-plain c =
    let game = game_of c.args.self.now.searcher.game.now in
    let tables = c.args.self.now.searcher.tables.now in
    let index = c.args.index in
    let T = c.index-self-index.result in
    let at_T = read_at tables index T c.requires.ready.within c.index-self-index.is in
    let at_step = subst (λ x. slice_get x.steps.items (c.args.jump.number - 1) ≡ Some c.step-step.result.now) (sym c.index-self-index.is) c.step-step.ensures in
    let stands = c.args.found.now.stands.items in
    let s = c.index.result.now in
    let there = state_there (boards_in c.args.found.now.boards) stands c.args.at s (read_at stands c.args.at s c.requires.at c.index.ensures) in
    let state_is : state_seen c.seen-seen.result ≡ at_vertex (state_at (configurations_of c.args.found.now) c.args.at) c.args.jump.vertex =
    c.seen-seen.ensures ∙ ap (λ A. at_vertex A c.args.jump.vertex) (sym there) in
    act_plain game tables index c.requires.ready T at_T c.args.jump.number c.requires.from c.step-step.result.now at_step c.in-Act.action c.in-Act.is
    (state_seen c.seen-seen.result) (subst (IsStateOf game) (sym state_is) c.requires.state)

pub returns-in-Act-clause-tells : goal.returns-in-Act-clause-tells
returns-in-Act-clause-tells c =
    let game = game_of c.args.self.now.searcher.game.now in
    let tables = c.args.self.now.searcher.tables.now in
    let index = c.args.index in
    let T = c.index-self-index.result in
    let at_T = read_at tables index T c.requires.ready.within c.index-self-index.is in
    let at_step = subst (λ x. slice_get x.steps.items (c.args.jump.number - 1) ≡ Some c.step-step.result.now) (sym c.index-self-index.is) c.step-step.ensures in
    let stands = c.args.found.now.stands.items in
    let s = c.index.result.now in
    let there = state_there (boards_in c.args.found.now.boards) stands c.args.at s (read_at stands c.args.at s c.requires.at c.index.ensures) in
    let state_is : state_seen c.seen-seen.result ≡ at_vertex (state_at (configurations_of c.args.found.now) c.args.at) c.args.jump.vertex =
    c.seen-seen.ensures ∙ ap (λ A. at_vertex A c.args.jump.vertex) (sym there) in
    act_tells game tables index c.requires.ready T at_T c.args.jump.number c.requires.from c.step-step.result.now at_step c.in-Act.action c.in-Act.is
    (at_vertex (state_at (configurations_of c.args.found.now) c.args.at) c.args.jump.vertex) c.glance_where_seen.result
    (subst (λ S. GlanceTells game (action_of c.in-Act.action) S c.glance_where_seen.result) state_is c.glance_where_seen.ensures)

pub returns-in-Act-clause-narrow : goal.returns-in-Act-clause-narrow
returns-in-Act-clause-narrow c =
    let game = game_of c.args.self.now.searcher.game.now in
    let tables = c.args.self.now.searcher.tables.now in
    let index = c.args.index in
    let T = c.index-self-index.result in
    let at_T = read_at tables index T c.requires.ready.within c.index-self-index.is in
    let at_step = subst (λ x. slice_get x.steps.items (c.args.jump.number - 1) ≡ Some c.step-step.result.now) (sym c.index-self-index.is) c.step-step.ensures in
    λ ok. act_narrow game tables index c.requires.ready T at_T c.args.jump.number c.requires.from c.step-step.result.now at_step c.in-Act.action c.in-Act.is
    (at_vertex (state_at (configurations_of c.args.found.now) c.args.at) c.args.jump.vertex)

pub returns-in-Ask-clause-tells : goal.returns-in-Ask-clause-tells
returns-in-Ask-clause-tells c =
    let game = game_of c.args.self.now.searcher.game.now in
    subst (λ S. IfOk c.glance_at.result (TellsAt game (expression_at game c.args.index) c.args.jump.number (at_vertex S c.args.jump.vertex)))
    c.show.ensures.state c.glance_at.ensures.tells

pub may_pass-requires-clause-upto : goal.may_pass-requires-clause-upto
may_pass-requires-clause-upto c =
    let game = game_of c.args.self.now.searcher.game.now in
    let tables = c.args.self.now.searcher.tables.now in
    let index = c.args.index in
    let T = c.index-self-index.result in
    let at_T = read_at tables index T c.requires.ready.within c.index-self-index.is in
    let count = count_steps game tables index c.requires.ready T at_T in
    subst (λ x. c.args.jump.number ≤ length x.steps.items) c.index-self-index.is (omega (arith, count, c.requires.upto))

pub returns-then-not-may_pass-clause-tells : goal.returns-then-not-may_pass-clause-tells
returns-then-not-may_pass-clause-tells c =
    let game = game_of c.args.self.now.searcher.game.now in
    let tables = c.args.self.now.searcher.tables.now in
    let index = c.args.index in
    let k = c.args.jump.number in
    let v = c.args.jump.vertex in
    let T = c.index-self-index.result in
    let S : SemiState = at_vertex (state_at (configurations_of c.args.found.now) c.args.at) v in
    let step = c.step-step.result.now in
    let at_T = read_at tables index T c.requires.ready.within c.index-self-index.is in
    let at_step = subst (λ x. slice_get x.steps.items (k - 1) ≡ Some step) (sym c.index-self-index.is) c.step-step.ensures in
    let stands = c.args.found.now.stands.items in
    let s = c.index.result.now in
    let there = state_there (boards_in c.args.found.now.boards) stands c.args.at s (read_at stands c.args.at s c.requires.at c.index.ensures) in
    let state_is : state_seen c.seen-seen.result ≡ S = c.seen-seen.ensures ∙ ap (λ A. at_vertex A v) (sym there) in
    let refuses = OnFalse-at c.may_pass.result _ c.if-not-may_pass.true c.may_pass.ensures step c.step-step.ensures in
    let xs = refuses.0 in
    let none = subst (λ (ps : List ℕ). ¬ Contains xs (slice_index ps v)) (ap (λ (A : SemiState). A.pieces.items) state_is)
    (subst (λ (n : ℕ). ¬ Contains xs (slice_index c.seen-seen.result.pieces.now n)) c.from.ensures refuses.2) in
    let is = step_is step xs refuses.1 in
    act_tells game tables index c.requires.ready T at_T k c.requires.from step at_step is.0 is.1 S Fails
    (never_on game (action_of is.0) xs S is.2 none)

pub returns-then-not-may_pass-clause-narrow : goal.returns-then-not-may_pass-clause-narrow
returns-then-not-may_pass-clause-narrow c =
    let game = game_of c.args.self.now.searcher.game.now in
    let tables = c.args.self.now.searcher.tables.now in
    let index = c.args.index in
    let k = c.args.jump.number in
    let T = c.index-self-index.result in
    let step = c.step-step.result.now in
    let at_T = read_at tables index T c.requires.ready.within c.index-self-index.is in
    let at_step = subst (λ x. slice_get x.steps.items (k - 1) ≡ Some step) (sym c.index-self-index.is) c.step-step.ensures in
    let refuses = OnFalse-at c.may_pass.result _ c.if-not-may_pass.true c.may_pass.ensures step c.step-step.ensures in
    let is = step_is step refuses.0 refuses.1 in
    λ ok. act_narrow game tables index c.requires.ready T at_T k c.requires.from step at_step is.0 is.1
    (at_vertex (state_at (configurations_of c.args.found.now) c.args.at) c.args.jump.vertex)
