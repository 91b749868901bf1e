use Rattle.std.proofs.Common.{OnOk, true, slice_index, slice_index_or, inl, ◌≡◌, ◌==◌, ℕ, inr, false, ◌+◌, ◌-◌, ◌<◌, ◌≤◌, length, vec_len, Some, Err, get_or, slice_get, [], ◌∷◌, refl, sym, ap, ◌∙◌, subst, arith, length-append}
use Rattle.rbg_game.specs.Positions.{IsStateOf}
use Rattle.rbg_game.specs.Rules.{count}
use Rattle.rbg_game.specs.Meaning.{game_of, action_of}
use Rattle.legal_moves.specs.Effects.{EffectAt}
use Rattle.legal_moves.specs.lemmas.Boards.{boards_in}
use Rattle.legal_moves.specs.lemmas.Configurations.{expression_at, IsFollowed, IsSearch}
use Rattle.legal_moves.specs.lemmas.Progress.{began, state_at, IsGoing, IsTriedFrom, IsFullFrom}
use Rattle.legal_moves.specs.lemmas.Stands.{stood, configurations_of}
use Rattle.legal_moves.specs.lemmas.VertexSearch.{at_vertex, GlanceTells, looked, seen_from, AreMarked, TellsAt}
use Rattle.std.specs.Option.{IfSome}
use Rattle.legal_moves.specs.declared.search.looks.Look.{Look}
use Rattle.std.proofs.lemmas.List.{length-map}
use Rattle.std.proofs.lemmas.Option.{slice_get-get_or}
use Rattle.std.proofs.lemmas.Result.{on_ok_weaker}
use Rattle.legal_moves.specs.NumberLists.{list_at}
use Rattle.legal_moves.proofs.ListingLemmas.{past, past_more}
use Rattle.std.specs.Bool.{MatchBool}
use Rattle.std.specs.List.{list_any}
use Rattle.legal_moves.specs.Searches.{place_at}
use Rattle.legal_moves.specs.lemmas.Searches.{IsLegal}
use Rattle.legal_moves.specs.lemmas.Seen.{state_seen}
use Rattle.legal_moves.proofs.searches.BoardLemmas.{many_boards}
use Rattle.legal_moves.proofs.searches.WidthLemmas.{narrow_by_search}
use Rattle.legal_moves.proofs.searches.HoldsLemmas.{none_switches, legal_by_nullable, legal_by_any, legal_by_last}
use Rattle.legal_moves.proofs.GetLemmas.{slice_get-within}
use Rattle.legal_moves.proofs.searches.FoundLemmas.{count_whole, IsFollowed-end, IsFollowed-upto}
use Rattle.legal_moves.proofs.searches.ExpandLemmas.{ends_at, place_first, place_last, listed_next, skipped, past_not, number_from, number_upto, going_next, more_invalid, asked, turned, full, tried, tried_wide}
use Rattle.legal_moves.proofs.searches.StandLemmas.{stood_at, any_stand}
use Rattle.legal_moves.proofs.Exits.{refused, not_ok, no_error}
use Rattle.legal_moves.proofs.searches.AttemptLemmas.{state_there, own_vertex, state_of, began_is, attempted, filled, still_shown}
use Rattle.legal_moves.specs.declared.search.found.Stand.{Stand}
use Rattle.legal_moves.proofs.searches.LookLemmas.{seen_at, stays_there, taken_look, new_position, any_look, place_zero, going_begun, not_begun, look_leads}
use Rattle.legal_moves.specs.Tables.{inner_of}
use Rattle.legal_moves.specs.lemmas.Answers.{IsAnswerAt}
use Rattle.legal_moves.specs.Searches.{IsWideFrom}
use Rattle.legal_moves.proofs.searches.AnswerLemmas.{same_expression, answer_along}
use Rattle.legal_moves.proofs.automata.ReadyLemmas.{OnTrue-at, read_at, is_table, count_steps, act_plain, act_tells, act_narrow, ask_before, ask_lacks, ask_ready, ask_narrow, ask_wide, ask_some, ask_none, ask_look, beq_true, beq_same}
use Rattle.legal_moves.proofs.Faults.{passed, for_want}
use Rattle.legal_moves.proofs.automata.MarkLemmas.{any_agree}
use Rattle.legal_moves.proofs.searches.NarrowLemmas.{table_is_narrow}
use Rattle.legal_moves.specs.lemmas.Narrow.{AreFewLooks}
use Rattle.legal_moves.proofs.search.searcher.Searcher.+search.Goals as goal
use Rattle.legal_moves.proofs.search.searcher.Searcher.+search.Goals.{look_on-in-Fails, look_on-in-At+in_ok-add-in-At, expand-then-last-eq0, expand-else-last-eq0, look-then-table, look-else-table, is_legal_by_search-then-ends, is_legal_by_search-else-ends}

pub glance_at-step-requires-clause-upto : goal.glance_at-step-requires-clause-upto
glance_at-step-requires-clause-upto t c =
    let game = game_of c.args.self.now.game.now in
    let tables = c.args.self.now.tables.now in
    let index = c.args.index in
    let e = expression_at game index in
    let T = c.index-self-index.result in
    let at_T = read_at tables index T c.requires.ready.within c.index-self-index.is in
    let count = count_steps game tables index c.requires.ready T at_T in
    subst (λ x. c.args.number ≤ length x.steps.items) c.index-self-index.is (omega (arith, count, c.requires.upto))

pub glance_at-at_a_glance-requires-clause-plain : goal.glance_at-at_a_glance-requires-clause-plain
glance_at-at_a_glance-requires-clause-plain t c =
    let game = game_of c.args.self.now.game.now in
    let tables = c.args.self.now.tables.now in
    let index = c.args.index in
    let e = expression_at game index in
    let T = c.index-self-index.result in
    let at_T = read_at tables index T c.requires.ready.within c.index-self-index.is in
    let at_step = subst (λ x. slice_get x.steps.items (c.args.number - 1) ≡ Some c.step.result.now) (sym c.index-self-index.is) c.step.ensures in
    act_plain game tables index c.requires.ready T at_T c.args.number c.requires.from c.step.result.now at_step c.in-Act.action c.in-Act.is
    (at_vertex c.args.state.now c.args.vertex) c.requires.state

pub glance_at-holds-requires : goal.glance_at-holds-requires
glance_at-holds-requires t c =
    let game = game_of c.args.self.now.game.now in
    let tables = c.args.self.now.tables.now in
    let index = c.args.index in
    let e = expression_at game index in
    let T = c.index-self-index.result in
    let at_T = read_at tables index T c.requires.ready.within c.index-self-index.is in
    let at_step = subst (λ x. slice_get x.steps.items (c.args.number - 1) ≡ Some c.step.result.now) (sym c.index-self-index.is) c.step.ensures in
    let before : c.in-Ask.inner < index = ask_before game tables index c.requires.ready T at_T c.args.number c.requires.from c.step.result.now at_step c.in-Ask.positive c.in-Ask.inner c.in-Ask.is in
    let es = inner_of game.rules in
    let pattern : c.in-Ask.inner < length c.args.self.now.same.now = omega
    (arith, before, c.requires.ready.within, c.requires.ready.tables_are.as_many, length-append es (game.rules ∷ []), c.requires.same.as_many) in
    (omega (arith, before), (ask_ready game tables index c.requires.ready T at_T c.args.number c.requires.from c.step.result.now at_step c.in-Ask.positive c.in-Ask.inner c.in-Ask.is, (c.requires.same, (c.requires.jumps, (c.requires.state, (ask_lacks game tables index c.requires.ready T at_T c.args.number c.requires.from c.step.result.now at_step c.in-Ask.positive c.in-Ask.inner c.in-Ask.is, (pattern, c.requires.known)))))))

pub glance_at-returns-in_err-holds-in-Ask-clause-wide : goal.glance_at-returns-in_err-holds-in-Ask-clause-wide
glance_at-returns-in_err-holds-in-Ask-clause-wide t c =
    let game = game_of c.args.self.now.game.now in
    let tables = c.args.self.now.tables.now in
    let index = c.args.index in
    let e = expression_at game index in
    let T = c.index-self-index.result in
    let at_T = read_at tables index T c.requires.ready.within c.index-self-index.is in
    let at_step = subst (λ x. slice_get x.steps.items (c.args.number - 1) ≡ Some c.step.result.now) (sym c.index-self-index.is) c.step.ensures in
    λ wide. let fault = passed c.from_residual.result c.in_err-holds-in-Ask.field-0.0 c.from_residual.ensures.1 wide in
    ask_wide game tables index c.requires.ready T at_T c.args.number c.requires.from c.step.result.now at_step c.in-Ask.positive c.in-Ask.inner c.in-Ask.is (at_vertex c.args.state.now c.args.vertex) (c.in_err-holds-in-Ask.ensures.wide (ap Err fault))

pub glance_at-returns-in-Act-clause-tells : goal.glance_at-returns-in-Act-clause-tells
glance_at-returns-in-Act-clause-tells t c =
    let game = game_of c.args.self.now.game.now in
    let tables = c.args.self.now.tables.now in
    let index = c.args.index in
    let e = expression_at game index in
    let T = c.index-self-index.result in
    let at_T = read_at tables index T c.requires.ready.within c.index-self-index.is in
    let at_step = subst (λ x. slice_get x.steps.items (c.args.number - 1) ≡ Some c.step.result.now) (sym c.index-self-index.is) c.step.ensures in
    act_tells game tables index c.requires.ready T at_T c.args.number c.requires.from c.step.result.now at_step c.in-Act.action c.in-Act.is
    (at_vertex c.args.state.now c.args.vertex) c.at_a_glance.result c.at_a_glance.ensures

pub glance_at-returns-in-Act-clause-narrow : goal.glance_at-returns-in-Act-clause-narrow
glance_at-returns-in-Act-clause-narrow t c =
    let game = game_of c.args.self.now.game.now in
    let tables = c.args.self.now.tables.now in
    let index = c.args.index in
    let e = expression_at game index in
    let T = c.index-self-index.result in
    let at_T = read_at tables index T c.requires.ready.within c.index-self-index.is in
    let at_step = subst (λ x. slice_get x.steps.items (c.args.number - 1) ≡ Some c.step.result.now) (sym c.index-self-index.is) c.step.ensures in
    λ ok. act_narrow game tables index c.requires.ready T at_T c.args.number c.requires.from c.step.result.now at_step c.in-Act.action c.in-Act.is (at_vertex c.args.state.now c.args.vertex)

pub glance_at-returns-then-holds-positive-clause-tells : goal.glance_at-returns-then-holds-positive-clause-tells
glance_at-returns-then-holds-positive-clause-tells t c =
    let game = game_of c.args.self.now.game.now in
    let tables = c.args.self.now.tables.now in
    let index = c.args.index in
    let e = expression_at game index in
    let T = c.index-self-index.result in
    let at_T = read_at tables index T c.requires.ready.within c.index-self-index.is in
    let at_step = subst (λ x. slice_get x.steps.items (c.args.number - 1) ≡ Some c.step.result.now) (sym c.index-self-index.is) c.step.ensures in
    (ask_some game tables index c.requires.ready T at_T c.args.number c.requires.from c.step.result.now at_step c.in-Ask.positive c.in-Ask.inner c.in-Ask.is (at_vertex c.args.state.now c.args.vertex) c.in_ok-holds-in-Ask.holds c.in_ok-holds-in-Ask.ensures.answer (beq_true c.in_ok-holds-in-Ask.holds c.in-Ask.positive c.if-holds-positive.true), ask_look game tables index c.requires.ready T at_T c.args.number c.requires.from c.step.result.now at_step c.in-Ask.positive c.in-Ask.inner c.in-Ask.is)

pub glance_at-returns-then-holds-positive-clause-narrow : goal.glance_at-returns-then-holds-positive-clause-narrow
glance_at-returns-then-holds-positive-clause-narrow t c =
    let game = game_of c.args.self.now.game.now in
    let tables = c.args.self.now.tables.now in
    let index = c.args.index in
    let e = expression_at game index in
    let T = c.index-self-index.result in
    let at_T = read_at tables index T c.requires.ready.within c.index-self-index.is in
    let at_step = subst (λ x. slice_get x.steps.items (c.args.number - 1) ≡ Some c.step.result.now) (sym c.index-self-index.is) c.step.ensures in
    λ ok. ask_narrow game tables index c.requires.ready T at_T c.args.number c.requires.from c.step.result.now at_step c.in-Ask.positive c.in-Ask.inner c.in-Ask.is (at_vertex c.args.state.now c.args.vertex) (c.in_ok-holds-in-Ask.ensures.narrow refl)

pub glance_at-returns-else-holds-positive-clause-tells : goal.glance_at-returns-else-holds-positive-clause-tells
glance_at-returns-else-holds-positive-clause-tells t c =
    let game = game_of c.args.self.now.game.now in
    let tables = c.args.self.now.tables.now in
    let index = c.args.index in
    let e = expression_at game index in
    let T = c.index-self-index.result in
    let at_T = read_at tables index T c.requires.ready.within c.index-self-index.is in
    let at_step = subst (λ x. slice_get x.steps.items (c.args.number - 1) ≡ Some c.step.result.now) (sym c.index-self-index.is) c.step.ensures in
    ask_none game tables index c.requires.ready T at_T c.args.number c.requires.from c.step.result.now at_step c.in-Ask.positive c.in-Ask.inner c.in-Ask.is (at_vertex c.args.state.now c.args.vertex) c.in_ok-holds-in-Ask.holds c.in_ok-holds-in-Ask.ensures.answer (λ same. let bad = beq_same c.in_ok-holds-in-Ask.holds c.in-Ask.positive same in cc (bad, c.if-holds-positive.false))

pub glance_at-returns-else-holds-positive-clause-narrow : goal.glance_at-returns-else-holds-positive-clause-narrow
glance_at-returns-else-holds-positive-clause-narrow t c =
    let game = game_of c.args.self.now.game.now in
    let tables = c.args.self.now.tables.now in
    let index = c.args.index in
    let e = expression_at game index in
    let T = c.index-self-index.result in
    let at_T = read_at tables index T c.requires.ready.within c.index-self-index.is in
    let at_step = subst (λ x. slice_get x.steps.items (c.args.number - 1) ≡ Some c.step.result.now) (sym c.index-self-index.is) c.step.ensures in
    λ ok. ask_narrow game tables index c.requires.ready T at_T c.args.number c.requires.from c.step.result.now at_step c.in-Ask.positive c.in-Ask.inner c.in-Ask.is (at_vertex c.args.state.now c.args.vertex) (c.in_ok-holds-in-Ask.ensures.narrow refl)

pub is_legal-returns-clause-answer : goal.is_legal-returns-clause-answer
is_legal-returns-clause-answer t c =
    let game = game_of c.args.self.now.game.now in
    let e = expression_at game c.args.index in
    let S = at_vertex c.args.state.now c.args.vertex in
    subst (λ o. IfSome o (λ b. MatchBool b (IsLegal game e S) (¬ IsLegal game e S))) c.in-Some-2.is c.in_ok-legal.ensures.answer

pub is_legal-returns-clause-narrow : goal.is_legal-returns-clause-narrow
is_legal-returns-clause-narrow t c =
    let game = game_of c.args.self.now.game.now in
    let e = expression_at game c.args.index in
    let S = at_vertex c.args.state.now c.args.vertex in
    λ ok. subst (λ o. IfSome o (λ b. ¬ IsWideFrom game e 0 S)) c.in-Some-2.is c.in_ok-legal.ensures.narrow

pub is_legal_by_search-returns-clause-answer : goal.is_legal_by_search-returns-clause-answer
is_legal_by_search-returns-clause-answer t c =
    let game = game_of c.args.self.now.game.now in
    let tables = c.args.self.now.tables.now in
    let index = c.args.index in
    let e = expression_at game index in
    let T = c.index-self-index.result in
    let at_T = read_at tables index T c.requires.ready.within c.index-self-index.is in
    let cs = configurations_of c.in_ok-found.found in
    let search = subst (λ S. IsSearch game e 0 (at_vertex S c.args.vertex) cs) c.copied_state-state.ensures c.in_ok-found.ensures.found in
    let S = at_vertex c.args.state.now c.args.vertex in
    let table_is = ap (λ x. x.ends.nullable) c.index-self-index.is in
    elim c.if-ends.branch [
      | is_legal_by_search-then-ends w ↦
          let null = table_is ∙ w.if-ends.true in
          subst (λ b. MatchBool b (IsLegal game e S) (¬ IsLegal game e S)) (sym (w.legal-is ∙ w.if-ends.true))
          (legal_by_nullable game tables index c.requires.ready T at_T c.requires.lacks S cs search null)
      | is_legal_by_search-else-ends w ↦
          let configurations = w.deref.ensures.value in
          let last = w.deref-else-ends.ensures.value ∙ ap (λ x. x.ends.last.items) (sym c.index-self-index.is) in
          let any = w.any_stands_last-legal.ensures ∙ ap (λ xs. list_any (λ x. list_any (λ k. k == x.place) xs) w.deref.result.now) last
          ∙ ap (λ xs. list_any (λ x. list_any (λ k. k == x.place) T.ends.last.items) xs) configurations
          ∙ sym (any_stand (boards_in c.in_ok-found.found.boards) c.in_ok-found.found.stands.items T.ends.last.items) in
          subst (λ b. MatchBool b (IsLegal game e S) (¬ IsLegal game e S)) (sym w.legal-is)
          (legal_by_any game tables index c.requires.ready T at_T c.requires.lacks S cs search w.any_stands_last-legal.result any (table_is ∙ w.if-ends.false))
    ]

pub is_legal_by_search-returns-clause-narrow : goal.is_legal_by_search-returns-clause-narrow
is_legal_by_search-returns-clause-narrow t c =
    let game = game_of c.args.self.now.game.now in
    let tables = c.args.self.now.tables.now in
    let index = c.args.index in
    let e = expression_at game index in
    let T = c.index-self-index.result in
    let at_T = read_at tables index T c.requires.ready.within c.index-self-index.is in
    let cs = configurations_of c.in_ok-found.found in
    let search = subst (λ S. IsSearch game e 0 (at_vertex S c.args.vertex) cs) c.copied_state-state.ensures c.in_ok-found.ensures.found in
    let S = at_vertex c.args.state.now c.args.vertex in
    let table_is = ap (λ x. x.ends.nullable) c.index-self-index.is in
    λ ok. narrow_by_search game e 0 S cs search

pub look-begun-requires-clause-few : goal.look-begun-requires-clause-few
look-begun-requires-clause-few t c =
    let game = game_of c.args.self.now.game.now in
    let tables = c.args.self.now.tables.now in
    let index = c.args.index in
    let e = expression_at game index in
    let T = c.index-self-index.result in
    let at_T = read_at tables index T c.requires.ready.within c.index-self-index.is in
    let steps = count_steps game tables index c.requires.ready T at_T in
    let long = ap (λ x. vec_len x.steps) (sym c.index-self-index.is) in
    let same = T.steps.ok in
    omega (arith, steps, long, same, c.len-numbers.ensures, count_whole e, c.requires.ready.small)

pub look-loop-at-init : goal.look-loop-at-init
look-loop-at-init t c =
    let game = game_of c.args.self.now.game.now in
    let tables = c.args.self.now.tables.now in
    let index = c.args.index in
    let e = expression_at game index in
    let T = c.index-self-index.result in
    let at_T = read_at tables index T c.requires.ready.within c.index-self-index.is in
    let steps = count_steps game tables index c.requires.ready T at_T in
    let long = ap (λ x. vec_len x.steps) (sym c.index-self-index.is) in
    let numbers : c.len-numbers.result + 1 ≡ count e + 1 = (let same = T.steps.ok in omega (arith, steps, long, same, c.len-numbers.ensures)) in
    let S = at_vertex c.args.state.now c.args.vertex in
    record {
      marked = subst (λ n. AreMarked n c.in_ok-looks.looks) numbers c.in_ok-looks.ensures.marked;
      going = subst (λ ls. IsGoing game e 0 S (seen_from c.args.state.now ls) 0) (sym c.in_ok-looks.ensures.opening) (going_begun game e 0 S c.requires.state);
    }

pub look_on-glance_at-requires : goal.look_on-glance_at-requires
look_on-glance_at-requires t c =
    let game = game_of c.args.self.now.game.now in
    let tables = c.args.self.now.tables.now in
    let index = c.args.index in
    let e = expression_at game index in
    let at = c.args.at in
    let state = c.args.state.now in
    let ls = c.args.looks.now.looks.items in
    let S = began (seen_from state ls) in
    let l = c.index.result.now in
    let at_l = read_at ls at l c.requires.at c.index.ensures in
    let b = looked state l in
    let plain = none_switches e c.requires.lacks l.place in
    let looks = c.loop-number.looks.looks.items in
    let now = seen_from state looks in
    let now_b = seen_at state looks at l (c.loop-number.invariant.before ∙ at_l) in
    let T = c.index-self-index.result in
    let at_T = read_at tables index T c.requires.ready.within c.index-self-index.is in
    let ks = c.followers-followers.result.now in
    let i = c.loop-number.number-index in
    let p = place_at 0 l.place in
    let ks_is = subst (λ x. ks ≡ list_at x.follows.items l.place) (sym c.index-self-index.is) c.followers-followers.ensures in
    let from_is = place_zero l.place in
    let k = slice_index ks i in
    let at_k = slice_get-get_or ks i 0 c.loop-number-test.true in
    let next = listed_next game tables index c.requires.ready T at_T ks l.place p ks_is from_is i k at_k in
    let here = IsFollowed-upto game e 0 S now at (past ks i) k b now_b c.loop-number.invariant.here
    (λ m from_past less. skipped game tables index c.requires.ready T at_T ks l.place p ks_is from_is i k m at_k from_past less) in (
      omega arith,
      (
        c.requires.ready,
        (
          c.requires.same,
          (
            c.requires.jumps,
            (c.loop-number.invariant.going.found_are.states_are at b now_b, (number_from e p k next, (number_upto e p k next, c.loop-number.invariant.known))),
          ),
        ),
      ),
    )

pub look_on-returns-in_err-glance_at-clause-wide : goal.look_on-returns-in_err-glance_at-clause-wide
look_on-returns-in_err-glance_at-clause-wide t c =
    let game = game_of c.args.self.now.game.now in
    let tables = c.args.self.now.tables.now in
    let index = c.args.index in
    let e = expression_at game index in
    let at = c.args.at in
    let state = c.args.state.now in
    let ls = c.args.looks.now.looks.items in
    let S = began (seen_from state ls) in
    let l = c.index.result.now in
    let at_l = read_at ls at l c.requires.at c.index.ensures in
    let b = looked state l in
    let plain = none_switches e c.requires.lacks l.place in
    let looks = c.loop-number.looks.looks.items in
    let now = seen_from state looks in
    let now_b = seen_at state looks at l (c.loop-number.invariant.before ∙ at_l) in
    let T = c.index-self-index.result in
    let at_T = read_at tables index T c.requires.ready.within c.index-self-index.is in
    let ks = c.followers-followers.result.now in
    let i = c.loop-number.number-index in
    let p = place_at 0 l.place in
    let ks_is = subst (λ x. ks ≡ list_at x.follows.items l.place) (sym c.index-self-index.is) c.followers-followers.ensures in
    let from_is = place_zero l.place in
    let k = slice_index ks i in
    let at_k = slice_get-get_or ks i 0 c.loop-number-test.true in
    let next = listed_next game tables index c.requires.ready T at_T ks l.place p ks_is from_is i k at_k in
    let here = IsFollowed-upto game e 0 S now at (past ks i) k b now_b c.loop-number.invariant.here
    (λ m from_past less. skipped game tables index c.requires.ready T at_T ks l.place p ks_is from_is i k m at_k from_past less) in
    λ wide. let fault = passed c.from_residual.result c.in_err-glance_at.field-0.0 c.from_residual.ensures.1 wide in
    asked game tables index c.requires.ready 0 S now at k b c.loop-number.invariant.going here now_b plain next (c.in_err-glance_at.ensures.wide (ap Err fault))

pub look_on-add-requires-clause-few : goal.look_on-add-requires-clause-few
look_on-add-requires-clause-few t c =
    let game = game_of c.args.self.now.game.now in
    let tables = c.args.self.now.tables.now in
    let index = c.args.index in
    let e = expression_at game index in
    omega (arith, c.loop-number.invariant.marked.numbers_are, count_whole e, c.requires.ready.small)

pub look_on-add-requires-clause-within : goal.look_on-add-requires-clause-within
look_on-add-requires-clause-within t c =
    let game = game_of c.args.self.now.game.now in
    let tables = c.args.self.now.tables.now in
    let index = c.args.index in
    let e = expression_at game index in
    let at = c.args.at in
    let state = c.args.state.now in
    let ls = c.args.looks.now.looks.items in
    let S = began (seen_from state ls) in
    let l = c.index.result.now in
    let at_l = read_at ls at l c.requires.at c.index.ensures in
    let b = looked state l in
    let plain = none_switches e c.requires.lacks l.place in
    let looks = c.loop-number.looks.looks.items in
    let now = seen_from state looks in
    let now_b = seen_at state looks at l (c.loop-number.invariant.before ∙ at_l) in
    let T = c.index-self-index.result in
    let at_T = read_at tables index T c.requires.ready.within c.index-self-index.is in
    let ks = c.followers-followers.result.now in
    let i = c.loop-number.number-index in
    let p = place_at 0 l.place in
    let ks_is = subst (λ x. ks ≡ list_at x.follows.items l.place) (sym c.index-self-index.is) c.followers-followers.ensures in
    let from_is = place_zero l.place in
    let k = slice_index ks i in
    let at_k = slice_get-get_or ks i 0 c.loop-number-test.true in
    let next = listed_next game tables index c.requires.ready T at_T ks l.place p ks_is from_is i k at_k in
    let here = IsFollowed-upto game e 0 S now at (past ks i) k b now_b c.loop-number.invariant.here
    (λ m from_past less. skipped game tables index c.requires.ready T at_T ks l.place p ks_is from_is i k m at_k from_past less) in
    let upto = number_upto e p k next in
    omega (arith, c.loop-number.invariant.marked.numbers_are, upto)

pub look_on-returns-in_err-add-in-At-clause-wide : goal.look_on-returns-in_err-add-in-At-clause-wide
look_on-returns-in_err-add-in-At-clause-wide t c =
    let game = game_of c.args.self.now.game.now in
    let tables = c.args.self.now.tables.now in
    let index = c.args.index in
    let e = expression_at game index in
    let at = c.args.at in
    let state = c.args.state.now in
    let ls = c.args.looks.now.looks.items in
    let S = began (seen_from state ls) in
    let l = c.index.result.now in
    let at_l = read_at ls at l c.requires.at c.index.ensures in
    let b = looked state l in
    let plain = none_switches e c.requires.lacks l.place in
    let looks = c.loop-number.looks.looks.items in
    let now = seen_from state looks in
    let now_b = seen_at state looks at l (c.loop-number.invariant.before ∙ at_l) in
    let T = c.index-self-index.result in
    let at_T = read_at tables index T c.requires.ready.within c.index-self-index.is in
    let ks = c.followers-followers.result.now in
    let i = c.loop-number.number-index in
    let p = place_at 0 l.place in
    let ks_is = subst (λ x. ks ≡ list_at x.follows.items l.place) (sym c.index-self-index.is) c.followers-followers.ensures in
    let from_is = place_zero l.place in
    let k = slice_index ks i in
    let at_k = slice_get-get_or ks i 0 c.loop-number-test.true in
    let next = listed_next game tables index c.requires.ready T at_T ks l.place p ks_is from_is i k at_k in
    let here = IsFollowed-upto game e 0 S now at (past ks i) k b now_b c.loop-number.invariant.here
    (λ m from_past less. skipped game tables index c.requires.ready T at_T ks l.place p ks_is from_is i k m at_k from_past less) in
    let more : Look = record { vertex = c.in-At.vertex; place = k; parent = at } in
    let tells = subst (λ g. TellsAt game e k (at_vertex state l.vertex) g) c.in-At.is c.in_ok-glance_at.ensures.tells in
    let leads = look_leads game e k state l.vertex c.in-At.vertex at tells in
    λ wide. let fault = passed c.from_residual-in_err-add-in-At.result c.in_err-add-in-At.field-0.0 c.from_residual-in_err-add-in-At.ensures.1 wide in
    let too_many = c.in_err-add-in-At.ensures.wide (ap Err fault) in
    full game tables index c.requires.ready 0 S now at k b c.loop-number.invariant.going here now_b plain
    (looked state more) next leads refl (omega (arith, too_many.0, length-map looks (looked state))) (new_position state looks more too_many.1)

pub look_on-loop-number-preserved : goal.look_on-loop-number-preserved
look_on-loop-number-preserved t c =
    let game = game_of c.args.self.now.game.now in
    let tables = c.args.self.now.tables.now in
    let index = c.args.index in
    let e = expression_at game index in
    let at = c.args.at in
    let state = c.args.state.now in
    let ls = c.args.looks.now.looks.items in
    let S = began (seen_from state ls) in
    let l = c.index.result.now in
    let at_l = read_at ls at l c.requires.at c.index.ensures in
    let b = looked state l in
    let plain = none_switches e c.requires.lacks l.place in
    let looks = c.loop-number.looks.looks.items in
    let now = seen_from state looks in
    let now_b = seen_at state looks at l (c.loop-number.invariant.before ∙ at_l) in
    let T = c.index-self-index.result in
    let at_T = read_at tables index T c.requires.ready.within c.index-self-index.is in
    let ks = c.followers-followers.result.now in
    let i = c.loop-number.number-index in
    let p = place_at 0 l.place in
    let ks_is = subst (λ x. ks ≡ list_at x.follows.items l.place) (sym c.index-self-index.is) c.followers-followers.ensures in
    let from_is = place_zero l.place in
    let k = slice_index ks i in
    let at_k = slice_get-get_or ks i 0 c.loop-number-test.true in
    let next = listed_next game tables index c.requires.ready T at_T ks l.place p ks_is from_is i k at_k in
    let here = IsFollowed-upto game e 0 S now at (past ks i) k b now_b c.loop-number.invariant.here
    (λ m from_past less. skipped game tables index c.requires.ready T at_T ks l.place p ks_is from_is i k m at_k from_past less) in
    let more_is = past_more ks i k at_k in
    elim c.match-branch-2.branch [
      | look_on-in-Fails w ↦
          let none = subst (λ g. TellsAt game e k (at_vertex state l.vertex) g) w.in-Fails.is c.in_ok-glance_at.ensures.tells in
          let more = more_invalid game tables index c.requires.ready 0 S now at k b c.loop-number.invariant.going here now_b plain none
          (c.in_ok-glance_at.ensures.narrow refl) in
          record {
            marked = subst (λ F. AreMarked (count e + 1) F) (sym w.looks-is) (c.loop-number.invariant.marked);
            going = subst (λ F. IsGoing game e 0 S (seen_from state F.looks.items) at) (sym w.looks-is) c.loop-number.invariant.going;
            known = c.in_ok-glance_at.ensures.known;
            here = subst (λ F. IsFollowed game e 0 (seen_from state F.looks.items) at (past ks (i + 1))) (sym w.looks-is)
                (subst (λ n. IsFollowed game e 0 now at n) more_is more);
            before = subst (λ F. slice_get F.looks.items at ≡ slice_get ls at) (sym w.looks-is) c.loop-number.invariant.before;
          }
      | look_on-in-At+in_ok-add-in-At w ↦
          let more : Look = record { vertex = w.in-At.vertex; place = k; parent = at } in
          let tells = subst (λ g. TellsAt game e k (at_vertex state l.vertex) g) w.in-At.is c.in_ok-glance_at.ensures.tells in
          let leads = look_leads game e k state l.vertex w.in-At.vertex at tells in
          let looks' = w.add.new.self.looks.items in
          let turn = turned game tables index c.requires.ready 0 S now at k b c.loop-number.invariant.going here now_b plain
          (looked state more) next leads refl (seen_from state looks') (c.in_ok-glance_at.ensures.narrow refl)
          (taken_look state looks looks' more w.in_ok-add-in-At.ensures.added) in
          record {
            marked = subst (λ F. AreMarked (count e + 1) F) (sym w.looks-is)
                (subst (λ n. AreMarked n w.add.new.self) c.loop-number.invariant.marked.numbers_are w.in_ok-add-in-At.ensures.marked);
            going = subst (λ F. IsGoing game e 0 S (seen_from state F.looks.items) at) (sym w.looks-is) turn.goes;
            known = c.in_ok-glance_at.ensures.known;
            here = subst (λ F. IsFollowed game e 0 (seen_from state F.looks.items) at (past ks (i + 1))) (sym w.looks-is)
                (subst (λ n. IsFollowed game e 0 (seen_from state looks') at n) more_is turn.expands);
            before = subst (λ F. slice_get F.looks.items at ≡ slice_get ls at) (sym w.looks-is)
                (stays_there looks looks' more at l (c.loop-number.invariant.before ∙ at_l) w.in_ok-add-in-At.ensures.added ∙ sym at_l);
          }
    ]

pub look_on-returns-clause-going : goal.look_on-returns-clause-going
look_on-returns-clause-going t c =
    let game = game_of c.args.self.now.game.now in
    let tables = c.args.self.now.tables.now in
    let index = c.args.index in
    let e = expression_at game index in
    let at = c.args.at in
    let state = c.args.state.now in
    let ls = c.args.looks.now.looks.items in
    let S = began (seen_from state ls) in
    let l = c.index.result.now in
    let at_l = read_at ls at l c.requires.at c.index.ensures in
    let b = looked state l in
    let plain = none_switches e c.requires.lacks l.place in
    let looks = c.loop-number.looks.looks.items in
    let now = seen_from state looks in
    let now_b = seen_at state looks at l (c.loop-number.invariant.before ∙ at_l) in
    let T = c.index-self-index.result in
    let at_T = read_at tables index T c.requires.ready.within c.index-self-index.is in
    let ks = c.followers-followers.result.now in
    let i = c.loop-number.number-index in
    let p = place_at 0 l.place in
    let ks_is = subst (λ x. ks ≡ list_at x.follows.items l.place) (sym c.index-self-index.is) c.followers-followers.ensures in
    let from_is = place_zero l.place in
    let all = λ (n : ℕ). IsFollowed-upto game e 0 S now at (past ks i) n b now_b c.loop-number.invariant.here
    (λ m from_past less. past_not game tables index c.requires.ready T at_T ks l.place p ks_is from_is i m
    (omega (arith, c.loop-number.auto.number-index-end, c.loop-number-test.false)) from_past) in
    going_next game e 0 S now at c.loop-number.invariant.going (slice_get-within now at b now_b) all

pub attempt-returns-in-At-clause-tried : goal.attempt-returns-in-At-clause-tried
attempt-returns-in-At-clause-tried t c =
    let game = game_of c.args.self.now.game.now in
    let e = expression_at game c.args.index in
    let old = c.args.found.now in
    let stands = old.stands.items in
    let boards = boards_in old.boards in
    let s = c.index.result.now in
    let at_s = read_at stands c.args.at s c.requires.at c.index.ensures in
    let on = c.requires.kept.within c.args.at s at_s in
    let told = subst (TellsAt game e c.args.number (state_at (configurations_of c.args.found.now) c.args.at)) c.in-At.is c.in_ok-glance_from.ensures.tells in
    let t : Stand = record {
      board = s.board;
      mover = s.mover;
      vertex = c.in-At.vertex;
      place = c.args.number;
      parent = c.args.at;
      shows = false;
      ends = false;
    } in
    let U = at_vertex (state_at (configurations_of c.args.found.now) c.args.at) c.in-At.vertex in
    let is = ap (λ A. at_vertex A c.in-At.vertex) (sym (state_there boards stands c.args.at s at_s)) in
    let reached = told.0 in
    on_ok_weaker c.add.result (λ added. attempted game e c.args.number c.args.at old old t (state_at (configurations_of old) c.args.at) U refl c.requires.kept on is reached refl refl
    (sym told.1.1) (sym told.1.0) c.add.new.self c.add.ensures.boards added) c.add.ensures.added

pub attempt-returns-in-At-clause-shown : goal.attempt-returns-in-At-clause-shown
attempt-returns-in-At-clause-shown t c =
    let game = game_of c.args.self.now.game.now in
    let e = expression_at game c.args.index in
    on_ok_weaker c.add.result (λ tried. still_shown _ _ _ c.in_ok-glance_from.ensures.shown game e c.args.number c.args.at tried)
    (attempt-returns-in-At-clause-tried t c)

pub attempt-returns-in-At-clause-narrow : goal.attempt-returns-in-At-clause-narrow
attempt-returns-in-At-clause-narrow t c =
    let game = game_of c.args.self.now.game.now in
    let e = expression_at game c.args.index in
    λ ok. c.in_ok-glance_from.ensures.narrow refl

pub attempt-returns-in-At-clause-wide : goal.attempt-returns-in-At-clause-wide
attempt-returns-in-At-clause-wide t c =
    let game = game_of c.args.self.now.game.now in
    let e = expression_at game c.args.index in
    let old = c.args.found.now in
    let stands = old.stands.items in
    let boards = boards_in old.boards in
    let s = c.index.result.now in
    let at_s = read_at stands c.args.at s c.requires.at c.index.ensures in
    let on = c.requires.kept.within c.args.at s at_s in
    let told = subst (TellsAt game e c.args.number (state_at (configurations_of c.args.found.now) c.args.at)) c.in-At.is c.in_ok-glance_from.ensures.tells in
    let t : Stand = record {
      board = s.board;
      mover = s.mover;
      vertex = c.in-At.vertex;
      place = c.args.number;
      parent = c.args.at;
      shows = false;
      ends = false;
    } in
    let U = at_vertex (state_at (configurations_of c.args.found.now) c.args.at) c.in-At.vertex in
    let is = ap (λ A. at_vertex A c.in-At.vertex) (sym (state_there boards stands c.args.at s at_s)) in
    let reached = told.0 in
    λ wide. let too_many = c.add.ensures.wide wide in
    inr (filled game e c.args.number c.args.at old old t (state_at (configurations_of old) c.args.at) U refl c.requires.kept on is reached refl refl (sym told.1.1) (sym told.1.0) too_many.0 too_many.1)

pub expand-returns-then-ends-clause-going : goal.expand-returns-then-ends-clause-going
expand-returns-then-ends-clause-going t c =
    let game = game_of c.args.self.now.game.now in
    let tables = c.args.self.now.tables.now in
    let index = c.args.index in
    let e = expression_at game index in
    let place = c.args.place in
    let at = c.args.at in
    let boards = boards_in c.args.found.now.boards in
    let stands = c.args.found.now.stands.items in
    let cs = configurations_of c.args.found.now in
    let S = began cs in
    let b = stood boards c.index.result.now in
    let at_b = stood_at boards stands at c.index.result.now (read_at stands at c.index.result.now c.requires.at c.index.ensures) in
    let ends = sym (ends_at game e place S cs c.requires.going.found_are at b at_b) ∙ c.if-ends.true in
    going_next game e place S cs at c.requires.going (slice_get-within cs at b at_b) (λ n. IsFollowed-end game e place S cs at n b at_b ends)

pub expand-attempt-requires : goal.expand-attempt-requires
expand-attempt-requires t c =
    let game = game_of c.args.self.now.game.now in
    let tables = c.args.self.now.tables.now in
    let index = c.args.index in
    let e = expression_at game index in
    let place = c.args.place in
    let at = c.args.at in
    let boards = boards_in c.args.found.now.boards in
    let stands = c.args.found.now.stands.items in
    let cs = configurations_of c.args.found.now in
    let S = began cs in
    let b = stood boards c.index.result.now in
    let at_b = stood_at boards stands at c.index.result.now (read_at stands at c.index.result.now c.requires.at c.index.ensures) in
    let plain = sym (ends_at game e place S cs c.requires.going.found_are at b at_b) ∙ c.if-ends.false in
    let now = configurations_of c.loop-number.found in
    let now_b = c.loop-number.invariant.before ∙ at_b in
    let T = c.index-self-index.result in
    let at_T = read_at tables index T c.requires.ready.within c.index-self-index.is in
    let ks = c.followers-followers.result.now in
    let i = c.loop-number.number-index in
    let p = place_at place b.at.place in
    let ks_is = subst (λ x. ks ≡ list_at x.follows.items c.if-last-eq0.from) (sym c.index-self-index.is) c.followers-followers.ensures in
    let from_is : c.if-last-eq0.from ≡ p =
    elim c.if-last-eq0.branch [
      | expand-then-last-eq0 w ↦ w.from-is
          ∙ place_first place b.at.place w.if-last-eq0.true
      | expand-else-last-eq0 w ↦ w.from-is ∙ place_last place b.at.place w.if-last-eq0.false
    ] in
    let k = slice_index ks i in
    let at_k = slice_get-get_or ks i 0 c.loop-number-test.true in
    let next = listed_next game tables index c.requires.ready T at_T ks c.if-last-eq0.from p ks_is from_is i k at_k in
    let here = IsFollowed-upto game e place S now at (past ks i) k b now_b c.loop-number.invariant.here
    (λ m from_past less. skipped game tables index c.requires.ready T at_T ks c.if-last-eq0.from p ks_is from_is i k m at_k from_past less) in
    let inside : at < length c.loop-number.found.stands.items = omega
    (arith, slice_get-within now at b now_b, length-map c.loop-number.found.stands.items (stood (boards_in c.loop-number.found.boards))) in
    let state_is : b.at.state ≡ state_at now at = sym (state_of now at b now_b) in (
      omega arith,
      (
        c.requires.ready,
        (
          c.requires.same,
          (
            c.requires.jumps,
            (
              inside,
              (
                c.loop-number.invariant.kept,
                (
                  c.loop-number.invariant.shown,
                  (
                    subst (IsStateOf game) state_is (c.loop-number.invariant.going.found_are.states_are at b now_b),
                    (
                      number_from e p k next,
                      (
                        number_upto e p k next,
                        answer_along game cs now at c.loop-number.known
                            (sym c.loop-number.invariant.before) c.loop-number.invariant.known,
                      ),
                    ),
                  ),
                ),
              ),
            ),
          ),
        ),
      ),
    )

pub expand-returns-in_err-attempt-clause-wide : goal.expand-returns-in_err-attempt-clause-wide
expand-returns-in_err-attempt-clause-wide t c =
    let game = game_of c.args.self.now.game.now in
    let tables = c.args.self.now.tables.now in
    let index = c.args.index in
    let e = expression_at game index in
    let place = c.args.place in
    let at = c.args.at in
    let boards = boards_in c.args.found.now.boards in
    let stands = c.args.found.now.stands.items in
    let cs = configurations_of c.args.found.now in
    let S = began cs in
    let b = stood boards c.index.result.now in
    let at_b = stood_at boards stands at c.index.result.now (read_at stands at c.index.result.now c.requires.at c.index.ensures) in
    let plain = sym (ends_at game e place S cs c.requires.going.found_are at b at_b) ∙ c.if-ends.false in
    let now = configurations_of c.loop-number.found in
    let now_b = c.loop-number.invariant.before ∙ at_b in
    let T = c.index-self-index.result in
    let at_T = read_at tables index T c.requires.ready.within c.index-self-index.is in
    let ks = c.followers-followers.result.now in
    let i = c.loop-number.number-index in
    let p = place_at place b.at.place in
    let ks_is = subst (λ x. ks ≡ list_at x.follows.items c.if-last-eq0.from) (sym c.index-self-index.is) c.followers-followers.ensures in
    let from_is : c.if-last-eq0.from ≡ p =
    elim c.if-last-eq0.branch [
      | expand-then-last-eq0 w ↦ w.from-is
          ∙ place_first place b.at.place w.if-last-eq0.true
      | expand-else-last-eq0 w ↦ w.from-is ∙ place_last place b.at.place w.if-last-eq0.false
    ] in
    let k = slice_index ks i in
    let at_k = slice_get-get_or ks i 0 c.loop-number-test.true in
    let next = listed_next game tables index c.requires.ready T at_T ks c.if-last-eq0.from p ks_is from_is i k at_k in
    let here = IsFollowed-upto game e place S now at (past ks i) k b now_b c.loop-number.invariant.here
    (λ m from_past less. skipped game tables index c.requires.ready T at_T ks c.if-last-eq0.from p ks_is from_is i k m at_k from_past less) in
    λ wide. let fault = passed c.from_residual.result c.in_err-attempt.field-0.0 c.from_residual.ensures.1 wide in
    tried_wide game tables index c.requires.ready place S now at k b c.loop-number.invariant.going here now_b plain next
    (c.in_err-attempt.ensures.wide (ap Err fault))

pub expand-loop-number-preserved : goal.expand-loop-number-preserved
expand-loop-number-preserved t c =
    let game = game_of c.args.self.now.game.now in
    let tables = c.args.self.now.tables.now in
    let index = c.args.index in
    let e = expression_at game index in
    let place = c.args.place in
    let at = c.args.at in
    let boards = boards_in c.args.found.now.boards in
    let stands = c.args.found.now.stands.items in
    let cs = configurations_of c.args.found.now in
    let S = began cs in
    let b = stood boards c.index.result.now in
    let at_b = stood_at boards stands at c.index.result.now (read_at stands at c.index.result.now c.requires.at c.index.ensures) in
    let plain = sym (ends_at game e place S cs c.requires.going.found_are at b at_b) ∙ c.if-ends.false in
    let now = configurations_of c.loop-number.found in
    let now_b = c.loop-number.invariant.before ∙ at_b in
    let T = c.index-self-index.result in
    let at_T = read_at tables index T c.requires.ready.within c.index-self-index.is in
    let ks = c.followers-followers.result.now in
    let i = c.loop-number.number-index in
    let p = place_at place b.at.place in
    let ks_is = subst (λ x. ks ≡ list_at x.follows.items c.if-last-eq0.from) (sym c.index-self-index.is) c.followers-followers.ensures in
    let from_is : c.if-last-eq0.from ≡ p =
    elim c.if-last-eq0.branch [
      | expand-then-last-eq0 w ↦ w.from-is
          ∙ place_first place b.at.place w.if-last-eq0.true
      | expand-else-last-eq0 w ↦ w.from-is ∙ place_last place b.at.place w.if-last-eq0.false
    ] in
    let k = slice_index ks i in
    let at_k = slice_get-get_or ks i 0 c.loop-number-test.true in
    let next = listed_next game tables index c.requires.ready T at_T ks c.if-last-eq0.from p ks_is from_is i k at_k in
    let here = IsFollowed-upto game e place S now at (past ks i) k b now_b c.loop-number.invariant.here
    (λ m from_past less. skipped game tables index c.requires.ready T at_T ks c.if-last-eq0.from p ks_is from_is i k m at_k from_past less) in
    let turn = tried game tables index c.requires.ready place S now at k b c.loop-number.invariant.going here now_b plain
    (configurations_of c.attempt.new.found) next (c.in_ok-attempt.ensures.narrow refl) c.in_ok-attempt.ensures.tried in
    record {
      kept = c.in_ok-attempt.ensures.kept;
      shown = c.in_ok-attempt.ensures.shown;
      going = turn.goes;
      known = answer_along game now cs at c.attempt.new.known c.loop-number.invariant.before c.in_ok-attempt.ensures.known;
      here = subst (λ n. IsFollowed game e place (configurations_of c.attempt.new.found) at n) (past_more ks i k at_k) turn.expands;
      before = turn.b_at ∙ sym at_b;
    }

pub expand-returns-clause-going : goal.expand-returns-clause-going
expand-returns-clause-going t c =
    let game = game_of c.args.self.now.game.now in
    let tables = c.args.self.now.tables.now in
    let index = c.args.index in
    let e = expression_at game index in
    let place = c.args.place in
    let at = c.args.at in
    let boards = boards_in c.args.found.now.boards in
    let stands = c.args.found.now.stands.items in
    let cs = configurations_of c.args.found.now in
    let S = began cs in
    let b = stood boards c.index.result.now in
    let at_b = stood_at boards stands at c.index.result.now (read_at stands at c.index.result.now c.requires.at c.index.ensures) in
    let plain = sym (ends_at game e place S cs c.requires.going.found_are at b at_b) ∙ c.if-ends.false in
    let now = configurations_of c.loop-number.found in
    let now_b = c.loop-number.invariant.before ∙ at_b in
    let T = c.index-self-index.result in
    let at_T = read_at tables index T c.requires.ready.within c.index-self-index.is in
    let ks = c.followers-followers.result.now in
    let i = c.loop-number.number-index in
    let p = place_at place b.at.place in
    let ks_is = subst (λ x. ks ≡ list_at x.follows.items c.if-last-eq0.from) (sym c.index-self-index.is) c.followers-followers.ensures in
    let from_is : c.if-last-eq0.from ≡ p =
    elim c.if-last-eq0.branch [
      | expand-then-last-eq0 w ↦ w.from-is
          ∙ place_first place b.at.place w.if-last-eq0.true
      | expand-else-last-eq0 w ↦ w.from-is ∙ place_last place b.at.place w.if-last-eq0.false
    ] in
    let all = λ (n : ℕ). IsFollowed-upto game e place S now at (past ks i) n b now_b c.loop-number.invariant.here
    (λ m from_past less. past_not game tables index c.requires.ready T at_T ks c.if-last-eq0.from p ks_is from_is i m
    (omega (arith, c.loop-number.auto.number-index-end, c.loop-number-test.false)) from_past) in
    going_next game e place S now at c.loop-number.invariant.going (slice_get-within now at b now_b) all

pub holds-returns-clause-answer : goal.holds-returns-clause-answer
holds-returns-clause-answer t c =
    let game = game_of c.args.self.now.game.now in
    let S = at_vertex c.args.state.now c.args.vertex in
    let same = c.args.self.now.same.now in
    let first = same_expression game same c.args.index (get_or same c.args.index 0) c.requires.same (slice_get-get_or same c.args.index 0 c.requires.pattern) in
    let known : IsAnswerAt game S (Some c.in-Some.answer) = subst (IsAnswerAt game S) c.in-Some.is c.requires.known in
    subst (λ e. MatchBool c.in-Some.answer.holds (IsLegal game e S) (¬ IsLegal game e S)) (ap (expression_at game) c.if-answer-pattern.true ∙ first) known.0

pub holds-returns-clause-narrow : goal.holds-returns-clause-narrow
holds-returns-clause-narrow t c =
    let game = game_of c.args.self.now.game.now in
    let S = at_vertex c.args.state.now c.args.vertex in
    let same = c.args.self.now.same.now in
    let first = same_expression game same c.args.index (get_or same c.args.index 0) c.requires.same (slice_get-get_or same c.args.index 0 c.requires.pattern) in
    let known : IsAnswerAt game S (Some c.in-Some.answer) = subst (IsAnswerAt game S) c.in-Some.is c.requires.known in
    λ ok. subst (λ e. ¬ IsWideFrom game e 0 S) (ap (expression_at game) c.if-answer-pattern.true ∙ first) known.1

pub holds-returns-2-clause-known : goal.holds-returns-2-clause-known
holds-returns-2-clause-known t c =
    let game = game_of c.args.self.now.game.now in
    let S = at_vertex c.args.state.now c.args.vertex in
    let same = c.args.self.now.same.now in
    let first = same_expression game same c.args.index (get_or same c.args.index 0) c.requires.same (slice_get-get_or same c.args.index 0 c.requires.pattern) in
    let told = c.in_ok-holds.ensures in
    subst (λ e. MatchBool c.in_ok-holds.holds (IsLegal game e S) (¬ IsLegal game e S) × ¬ IsWideFrom game e 0 S) (sym first) (told.answer, told.narrow refl)

pub attempt-glance_from-requires : goal.attempt-glance_from-requires
attempt-glance_from-requires t c = (
  omega arith,
  (
    c.requires.ready,
    (
      c.requires.same,
      (
        c.requires.jumps,
        (c.requires.at, (c.requires.kept, (c.requires.shown, (c.requires.state, (c.requires.from, (c.requires.upto, c.requires.known)))))),
      ),
    ),
  ),
)

pub attempt-returns-in-Fails-clause-shown : goal.attempt-returns-in-Fails-clause-shown
attempt-returns-in-Fails-clause-shown t c = c.in_ok-glance_from.ensures.shown

pub attempt-returns-in_err-glance_from-clause-shown : goal.attempt-returns-in_err-glance_from-clause-shown
attempt-returns-in_err-glance_from-clause-shown t c = refused _ c.from_residual.result _ c.from_residual.ensures.1

pub attempt-returns-in-At-clause-kept : goal.attempt-returns-in-At-clause-kept
attempt-returns-in-At-clause-kept t c = c.add.ensures.kept

pub attempt-returns-in-At-clause-known : goal.attempt-returns-in-At-clause-known
attempt-returns-in-At-clause-known t c =
    let game = game_of c.args.self.now.game.now in
    let e = expression_at game c.args.index in
    on_ok_weaker c.add.result (λ kept. c.in_ok-glance_from.ensures.known) c.add.ensures.kept

pub attempt-returns-in-Fails-clause-kept : goal.attempt-returns-in-Fails-clause-kept
attempt-returns-in-Fails-clause-kept t c = c.requires.kept

pub attempt-returns-in-Fails-clause-known : goal.attempt-returns-in-Fails-clause-known
attempt-returns-in-Fails-clause-known t c =
    let game = game_of c.args.self.now.game.now in
    let e = expression_at game c.args.index in
    c.in_ok-glance_from.ensures.known

pub attempt-returns-in-Fails-clause-narrow : goal.attempt-returns-in-Fails-clause-narrow
attempt-returns-in-Fails-clause-narrow t c =
    let game = game_of c.args.self.now.game.now in
    let e = expression_at game c.args.index in
    λ ok. c.in_ok-glance_from.ensures.narrow refl

pub attempt-returns-in-Fails-clause-tried : goal.attempt-returns-in-Fails-clause-tried
attempt-returns-in-Fails-clause-tried t c =
    let game = game_of c.args.self.now.game.now in
    let e = expression_at game c.args.index in
    inl (
      refl,
      λ U. (subst (TellsAt game e c.args.number
          (state_at (configurations_of c.args.found.now) c.args.at)) c.in-Fails.is c.in_ok-glance_from.ensures.tells U),
    )

pub attempt-returns-in-Fails-clause-wide : goal.attempt-returns-in-Fails-clause-wide
attempt-returns-in-Fails-clause-wide t c = no_error

pub attempt-returns-in-Writes-clause-kept : goal.attempt-returns-in-Writes-clause-kept
attempt-returns-in-Writes-clause-kept t c = c.write.ensures.kept

pub attempt-returns-in-Writes-clause-known : goal.attempt-returns-in-Writes-clause-known
attempt-returns-in-Writes-clause-known t c =
    let game = game_of c.args.self.now.game.now in
    let e = expression_at game c.args.index in
    on_ok_weaker c.write.result (λ kept. c.in_ok-glance_from.ensures.known) c.write.ensures.kept

pub attempt-returns-in-Writes-clause-narrow : goal.attempt-returns-in-Writes-clause-narrow
attempt-returns-in-Writes-clause-narrow t c =
    let game = game_of c.args.self.now.game.now in
    let e = expression_at game c.args.index in
    λ ok. c.in_ok-glance_from.ensures.narrow refl

pub attempt-returns-in-Writes-clause-tried : goal.attempt-returns-in-Writes-clause-tried
attempt-returns-in-Writes-clause-tried t c =
    let game = game_of c.args.self.now.game.now in
    let e = expression_at game c.args.index in
    let cs = configurations_of c.args.found.now in
    let stands = c.args.found.now.stands.items in
    let s = c.index-in-Writes.result.now in
    let at_s = read_at stands c.args.at s c.requires.at c.index-in-Writes.ensures in
    let own = own_vertex (boards_in c.args.found.now.boards) stands c.args.at s at_s in
    subst (λ S. OnOk c.write.result (IsTriedFrom game e c.args.number S c.args.at cs (configurations_of c.write.new.found))) own c.write.ensures.tried

pub attempt-returns-in-Writes-clause-shown : goal.attempt-returns-in-Writes-clause-shown
attempt-returns-in-Writes-clause-shown t c =
    let game = game_of c.args.self.now.game.now in
    let e = expression_at game c.args.index in
    on_ok_weaker c.write.result (λ tried. still_shown _ _ _ c.in_ok-glance_from.ensures.shown game e c.args.number c.args.at tried)
    (attempt-returns-in-Writes-clause-tried t c)

pub attempt-returns-in-Writes-clause-wide : goal.attempt-returns-in-Writes-clause-wide
attempt-returns-in-Writes-clause-wide t c =
    let game = game_of c.args.self.now.game.now in
    let e = expression_at game c.args.index in
    let cs = configurations_of c.args.found.now in
    let stands = c.args.found.now.stands.items in
    let s = c.index-in-Writes.result.now in
    let at_s = read_at stands c.args.at s c.requires.at c.index-in-Writes.ensures in
    let own = own_vertex (boards_in c.args.found.now.boards) stands c.args.at s at_s in
    λ wide. inr (subst (λ S. IsFullFrom game e c.args.number S c.args.at cs) own (c.write.ensures.wide wide))

pub attempt-write-requires-clause-ready : goal.attempt-write-requires-clause-ready
attempt-write-requires-clause-ready t c = c.requires.ready

pub attempt-write-requires-clause-at : goal.attempt-write-requires-clause-at
attempt-write-requires-clause-at t c = c.requires.at

pub attempt-write-requires-clause-kept : goal.attempt-write-requires-clause-kept
attempt-write-requires-clause-kept t c = c.requires.kept

pub attempt-write-requires-clause-state : goal.attempt-write-requires-clause-state
attempt-write-requires-clause-state t c =
    let game = game_of c.args.self.now.game.now in
    let e = expression_at game c.args.index in
    let cs = configurations_of c.args.found.now in
    let stands = c.args.found.now.stands.items in
    let s = c.index-in-Writes.result.now in
    let at_s = read_at stands c.args.at s c.requires.at c.index-in-Writes.ensures in
    let own = own_vertex (boards_in c.args.found.now.boards) stands c.args.at s at_s in
    subst (IsStateOf game) (sym own) c.requires.state

pub attempt-write-requires-clause-from : goal.attempt-write-requires-clause-from
attempt-write-requires-clause-from t c = c.requires.from

pub attempt-write-requires-clause-upto : goal.attempt-write-requires-clause-upto
attempt-write-requires-clause-upto t c = c.requires.upto

pub attempt-write-requires-clause-writes : goal.attempt-write-requires-clause-writes
attempt-write-requires-clause-writes t c =
    let game = game_of c.args.self.now.game.now in
    let e = expression_at game c.args.index in
    subst (TellsAt game e c.args.number (state_at (configurations_of c.args.found.now) c.args.at)) c.in-Writes.is c.in_ok-glance_from.ensures.tells

pub attempt-add-requires-clause-kept : goal.attempt-add-requires-clause-kept
attempt-add-requires-clause-kept t c = c.requires.kept

pub attempt-returns-in_err-glance_from-clause-wide : goal.attempt-returns-in_err-glance_from-clause-wide
attempt-returns-in_err-glance_from-clause-wide t c =
    let game = game_of c.args.self.now.game.now in
    let e = expression_at game c.args.index in
    λ wide.
    let fault = passed c.from_residual.result c.in_err-glance_from.field-0.0 c.from_residual.ensures.1 wide in
    inl (c.in_err-glance_from.ensures.wide (ap Err fault))

pub attempt-returns-in_err-glance_from-clause-kept : goal.attempt-returns-in_err-glance_from-clause-kept
attempt-returns-in_err-glance_from-clause-kept t c = refused _ c.from_residual.result _ c.from_residual.ensures.1

pub attempt-returns-in_err-glance_from-clause-known : goal.attempt-returns-in_err-glance_from-clause-known
attempt-returns-in_err-glance_from-clause-known t c = refused _ c.from_residual.result _ c.from_residual.ensures.1

pub attempt-returns-in_err-glance_from-clause-tried : goal.attempt-returns-in_err-glance_from-clause-tried
attempt-returns-in_err-glance_from-clause-tried t c = refused _ c.from_residual.result _ c.from_residual.ensures.1

pub attempt-returns-in_err-glance_from-clause-narrow : goal.attempt-returns-in_err-glance_from-clause-narrow
attempt-returns-in_err-glance_from-clause-narrow t c = not_ok _ c.from_residual.result c.from_residual.ensures.1

pub expand-returns-in_err-attempt-clause-kept : goal.expand-returns-in_err-attempt-clause-kept
expand-returns-in_err-attempt-clause-kept t c = refused _ c.from_residual.result _ c.from_residual.ensures.1

pub expand-returns-in_err-attempt-clause-going : goal.expand-returns-in_err-attempt-clause-going
expand-returns-in_err-attempt-clause-going t c = refused _ c.from_residual.result _ c.from_residual.ensures.1

pub expand-returns-clause-kept : goal.expand-returns-clause-kept
expand-returns-clause-kept t c = c.loop-number.invariant.kept

pub expand-returns-clause-wide : goal.expand-returns-clause-wide
expand-returns-clause-wide t c = no_error

pub expand-returns-then-ends-clause-kept : goal.expand-returns-then-ends-clause-kept
expand-returns-then-ends-clause-kept t c = c.requires.kept

pub expand-returns-then-ends-clause-wide : goal.expand-returns-then-ends-clause-wide
expand-returns-then-ends-clause-wide t c = no_error

pub glance_at-returns-in_err-holds-in-Ask-clause-known : goal.glance_at-returns-in_err-holds-in-Ask-clause-known
glance_at-returns-in_err-holds-in-Ask-clause-known t c = refused _ c.from_residual.result _ c.from_residual.ensures.1

pub glance_at-returns-in_err-holds-in-Ask-clause-tells : goal.glance_at-returns-in_err-holds-in-Ask-clause-tells
glance_at-returns-in_err-holds-in-Ask-clause-tells t c = refused _ c.from_residual.result _ c.from_residual.ensures.1

pub glance_at-returns-in_err-holds-in-Ask-clause-narrow : goal.glance_at-returns-in_err-holds-in-Ask-clause-narrow
glance_at-returns-in_err-holds-in-Ask-clause-narrow t c = not_ok _ c.from_residual.result c.from_residual.ensures.1

pub glance_at-returns-then-holds-positive-clause-known : goal.glance_at-returns-then-holds-positive-clause-known
glance_at-returns-then-holds-positive-clause-known t c = c.in_ok-holds-in-Ask.ensures.known

pub glance_at-returns-then-holds-positive-clause-wide : goal.glance_at-returns-then-holds-positive-clause-wide
glance_at-returns-then-holds-positive-clause-wide t c = no_error

pub glance_at-returns-else-holds-positive-clause-known : goal.glance_at-returns-else-holds-positive-clause-known
glance_at-returns-else-holds-positive-clause-known t c = c.in_ok-holds-in-Ask.ensures.known

pub glance_at-returns-else-holds-positive-clause-wide : goal.glance_at-returns-else-holds-positive-clause-wide
glance_at-returns-else-holds-positive-clause-wide t c = no_error

pub glance_at-returns-in-Act-clause-known : goal.glance_at-returns-in-Act-clause-known
glance_at-returns-in-Act-clause-known t c = c.requires.known

pub glance_at-returns-in-Act-clause-wide : goal.glance_at-returns-in-Act-clause-wide
glance_at-returns-in-Act-clause-wide t c = no_error

pub holds-is_legal-requires : goal.holds-is_legal-requires
holds-is_legal-requires t c = (omega arith, (c.requires.ready, (c.requires.same, (c.requires.jumps, (c.requires.state, c.requires.lacks)))))

pub holds-returns-in_err-holds-clause-known : goal.holds-returns-in_err-holds-clause-known
holds-returns-in_err-holds-clause-known t c = refused _ c.from_residual.result _ c.from_residual.ensures.1

pub holds-returns-in_err-holds-clause-answer : goal.holds-returns-in_err-holds-clause-answer
holds-returns-in_err-holds-clause-answer t c = refused _ c.from_residual.result _ c.from_residual.ensures.1

pub holds-returns-in_err-holds-clause-narrow : goal.holds-returns-in_err-holds-clause-narrow
holds-returns-in_err-holds-clause-narrow t c = not_ok _ c.from_residual.result c.from_residual.ensures.1

pub holds-returns-clause-known : goal.holds-returns-clause-known
holds-returns-clause-known t c = c.requires.known

pub holds-returns-clause-wide : goal.holds-returns-clause-wide
holds-returns-clause-wide t c = no_error

pub holds-returns-2-clause-answer : goal.holds-returns-2-clause-answer
holds-returns-2-clause-answer t c = c.in_ok-holds.ensures.answer

pub holds-returns-2-clause-narrow : goal.holds-returns-2-clause-narrow
holds-returns-2-clause-narrow t c = λ ok. c.in_ok-holds.ensures.narrow refl

pub holds-returns-2-clause-wide : goal.holds-returns-2-clause-wide
holds-returns-2-clause-wide t c = no_error

pub holds-returns-in_err-holds-clause-wide : goal.holds-returns-in_err-holds-clause-wide
holds-returns-in_err-holds-clause-wide t c =
    λ wide.
    let fault = passed c.from_residual.result c.in_err-holds.field-0.0 c.from_residual.ensures.1 wide in
    c.in_err-holds.ensures.wide (ap Err fault)

pub is_legal-look-requires : goal.is_legal-look-requires
is_legal-look-requires t c = (omega arith, (c.requires.ready, (c.requires.same, (c.requires.jumps, (c.requires.state, c.requires.lacks)))))

pub is_legal_by_search-search-requires : goal.is_legal_by_search-search-requires
is_legal_by_search-search-requires t c =
    let game = game_of c.args.self.now.game.now in (
      omega arith,
      (
        c.requires.ready,
        (c.requires.same, (c.requires.jumps, subst (λ A. IsStateOf game (at_vertex A c.args.vertex)) (sym c.copied_state-state.ensures) c.requires.state)),
      ),
    )

pub is_legal-is_legal_by_search-requires : goal.is_legal-is_legal_by_search-requires
is_legal-is_legal_by_search-requires t c = (omega arith, (c.requires.ready, (c.requires.same, (c.requires.jumps, (c.requires.state, c.requires.lacks)))))

pub is_legal-returns-clause-wide : goal.is_legal-returns-clause-wide
is_legal-returns-clause-wide t c = no_error

pub is_legal-returns-2-clause-answer : goal.is_legal-returns-2-clause-answer
is_legal-returns-2-clause-answer t c = c.is_legal_by_search.ensures.answer

pub is_legal-returns-2-clause-narrow : goal.is_legal-returns-2-clause-narrow
is_legal-returns-2-clause-narrow t c = c.is_legal_by_search.ensures.narrow

pub is_legal-returns-2-clause-wide : goal.is_legal-returns-2-clause-wide
is_legal-returns-2-clause-wide t c = c.is_legal_by_search.ensures.wide

pub is_legal_by_search-returns-clause-wide : goal.is_legal_by_search-returns-clause-wide
is_legal_by_search-returns-clause-wide t c = no_error

pub is_legal-returns-in-Some-clause-answer : goal.is_legal-returns-in-Some-clause-answer
is_legal-returns-in-Some-clause-answer t c =
    let game = game_of c.args.self.now.game.now in
    let e = expression_at game c.args.index in
    let S = at_vertex c.args.state.now c.args.vertex in
    subst (λ o. IfSome o (λ b. MatchBool b (IsLegal game e S) (¬ IsLegal game e S))) c.in-Some.is c.in_ok-holds.ensures.answer

pub is_legal-returns-in-Some-clause-narrow : goal.is_legal-returns-in-Some-clause-narrow
is_legal-returns-in-Some-clause-narrow t c =
    let game = game_of c.args.self.now.game.now in
    let e = expression_at game c.args.index in
    let S = at_vertex c.args.state.now c.args.vertex in
    λ ok. subst (λ o. IfSome o (λ b. ¬ IsWideFrom game e 0 S)) c.in-Some.is c.in_ok-holds.ensures.narrow

pub is_legal-returns-in-Some-clause-wide : goal.is_legal-returns-in-Some-clause-wide
is_legal-returns-in-Some-clause-wide t c = no_error

pub is_legal-returns-in_err-holds-clause-answer : goal.is_legal-returns-in_err-holds-clause-answer
is_legal-returns-in_err-holds-clause-answer t c = refused _ c.from_residual.result _ c.from_residual.ensures.1

pub is_legal-returns-in_err-holds-clause-narrow : goal.is_legal-returns-in_err-holds-clause-narrow
is_legal-returns-in_err-holds-clause-narrow t c = not_ok _ c.from_residual.result c.from_residual.ensures.1

pub is_legal-returns-in_err-holds-clause-wide : goal.is_legal-returns-in_err-holds-clause-wide
is_legal-returns-in_err-holds-clause-wide t c =
    λ wide.
    let fault = passed c.from_residual.result c.in_err-holds.field-0.0 c.from_residual.ensures.1 wide in
    c.in_err-holds.ensures.wide (ap Err fault)

pub is_legal-returns-in_err-legal-clause-answer : goal.is_legal-returns-in_err-legal-clause-answer
is_legal-returns-in_err-legal-clause-answer t c = refused _ c.from_residual-in_err-legal.result _ c.from_residual-in_err-legal.ensures.1

pub is_legal-returns-in_err-legal-clause-narrow : goal.is_legal-returns-in_err-legal-clause-narrow
is_legal-returns-in_err-legal-clause-narrow t c = not_ok _ c.from_residual-in_err-legal.result c.from_residual-in_err-legal.ensures.1

pub is_legal_by_search-returns-in_err-found-clause-answer : goal.is_legal_by_search-returns-in_err-found-clause-answer
is_legal_by_search-returns-in_err-found-clause-answer t c = refused _ c.from_residual.result _ c.from_residual.ensures.1

pub is_legal_by_search-returns-in_err-found-clause-narrow : goal.is_legal_by_search-returns-in_err-found-clause-narrow
is_legal_by_search-returns-in_err-found-clause-narrow t c = not_ok _ c.from_residual.result c.from_residual.ensures.1

pub is_legal-returns-in_err-legal-clause-wide : goal.is_legal-returns-in_err-legal-clause-wide
is_legal-returns-in_err-legal-clause-wide t c =
    λ wide.
    let fault = passed c.from_residual-in_err-legal.result c.in_err-legal.field-0.0 c.from_residual-in_err-legal.ensures.1 wide in
    c.in_err-legal.ensures.wide (ap Err fault)

pub look-returns-in_err-looks-clause-answer : goal.look-returns-in_err-looks-clause-answer
look-returns-in_err-looks-clause-answer t c = refused _ c.from_residual.result _ c.from_residual.ensures.1

pub look-returns-in_err-looks-clause-narrow : goal.look-returns-in_err-looks-clause-narrow
look-returns-in_err-looks-clause-narrow t c = refused _ c.from_residual.result _ c.from_residual.ensures.1

pub look-returns-in_err-look_on-clause-answer : goal.look-returns-in_err-look_on-clause-answer
look-returns-in_err-look_on-clause-answer t c = refused _ c.from_residual-in_err-look_on.result _ c.from_residual-in_err-look_on.ensures.1

pub look-returns-in_err-look_on-clause-narrow : goal.look-returns-in_err-look_on-clause-narrow
look-returns-in_err-look_on-clause-narrow t c = refused _ c.from_residual-in_err-look_on.result _ c.from_residual-in_err-look_on.ensures.1

pub look-returns-then-is_enough-clause-wide : goal.look-returns-then-is_enough-clause-wide
look-returns-then-is_enough-clause-wide t c = no_error

pub look-returns-then-is_enough-clause-narrow : goal.look-returns-then-is_enough-clause-narrow
look-returns-then-is_enough-clause-narrow t c =
    let game = game_of c.args.self.now.game.now in
    let tables = c.args.self.now.tables.now in
    let index = c.args.index in
    let T = c.index-self-index.result in
    let at_T = read_at tables index T c.requires.ready.within c.index-self-index.is in
    let few = subst (λ x. AreFewLooks x.steps.items) (sym c.index-self-index.is) (OnTrue-at c.is_enough.result _ c.if-is_enough.true c.is_enough.ensures.few) in
    table_is_narrow game tables index c.requires.ready T at_T few (at_vertex c.args.state.now c.args.vertex) c.requires.state

pub look-returns-then-is_enough-clause-answer : goal.look-returns-then-is_enough-clause-answer
look-returns-then-is_enough-clause-answer t c =
    let game = game_of c.args.self.now.game.now in
    let tables = c.args.self.now.tables.now in
    let index = c.args.index in
    let T = c.index-self-index.result in
    let at_T = read_at tables index T c.requires.ready.within c.index-self-index.is in
    let ls = c.loop-at.looks.looks.items in
    let S = at_vertex c.args.state.now c.args.vertex in
    let inside : c.loop-at.at < length ls = omega arith in
    let l = c.index.result.now in
    let here = read_at ls c.loop-at.at l inside c.index.ensures in
    let marked = subst (λ x. slice_index_or x.lasts.items l.place false ≡ true) (sym c.index-self-index.is)
    (OnTrue-at c.is_enough.result _ c.if-is_enough.true c.is_enough.ensures.last) in
    let last = sym ((is_table game tables index c.requires.ready T at_T).lasts_are l.place) ∙ marked in
    legal_by_last game tables index c.requires.ready T at_T c.requires.lacks S
    (seen_from c.args.state.now ls) c.loop-at.invariant.going.found_are c.loop-at.at (looked c.args.state.now l)
    (seen_at c.args.state.now ls c.loop-at.at l here) last

pub look-returns-clause-wide : goal.look-returns-clause-wide
look-returns-clause-wide t c = no_error

pub look-returns-then-not-branch-clause-wide : goal.look-returns-then-not-branch-clause-wide
look-returns-then-not-branch-clause-wide t c = no_error

pub look_on-returns-in_err-glance_at-clause-going : goal.look_on-returns-in_err-glance_at-clause-going
look_on-returns-in_err-glance_at-clause-going t c = refused _ c.from_residual.result _ c.from_residual.ensures.1

pub look_on-returns-in_err-glance_at-clause-marked : goal.look_on-returns-in_err-glance_at-clause-marked
look_on-returns-in_err-glance_at-clause-marked t c = refused _ c.from_residual.result _ c.from_residual.ensures.1

pub look_on-returns-in_err-add-in-At-clause-going : goal.look_on-returns-in_err-add-in-At-clause-going
look_on-returns-in_err-add-in-At-clause-going t c = refused _ c.from_residual-in_err-add-in-At.result _ c.from_residual-in_err-add-in-At.ensures.1

pub look_on-returns-in_err-add-in-At-clause-marked : goal.look_on-returns-in_err-add-in-At-clause-marked
look_on-returns-in_err-add-in-At-clause-marked t c = refused _ c.from_residual-in_err-add-in-At.result _ c.from_residual-in_err-add-in-At.ensures.1

pub look_on-returns-clause-marked : goal.look_on-returns-clause-marked
look_on-returns-clause-marked t c = c.loop-number.invariant.marked

pub look_on-returns-clause-wide : goal.look_on-returns-clause-wide
look_on-returns-clause-wide t c = no_error

pub look_on-returns-in-Writes-clause-marked : goal.look_on-returns-in-Writes-clause-marked
look_on-returns-in-Writes-clause-marked t c = c.loop-number.invariant.marked

pub look_on-returns-in-Writes-clause-going : goal.look_on-returns-in-Writes-clause-going
look_on-returns-in-Writes-clause-going t c = tt

pub look_on-returns-in-Writes-clause-wide : goal.look_on-returns-in-Writes-clause-wide
look_on-returns-in-Writes-clause-wide t c = no_error

pub search-returns-clause-kept : goal.search-returns-clause-kept
search-returns-clause-kept t c = c.loop-at.invariant.kept

pub search-returns-clause-wide : goal.search-returns-clause-wide
search-returns-clause-wide t c = no_error

pub search-returns-in_err-expand-clause-found : goal.search-returns-in_err-expand-clause-found
search-returns-in_err-expand-clause-found t c = refused _ c.from_residual-in_err-expand.result _ c.from_residual-in_err-expand.ensures.1

pub search-returns-in_err-expand-clause-kept : goal.search-returns-in_err-expand-clause-kept
search-returns-in_err-expand-clause-kept t c = refused _ c.from_residual-in_err-expand.result _ c.from_residual-in_err-expand.ensures.1

pub search-returns-in_err-found-clause-found : goal.search-returns-in_err-found-clause-found
search-returns-in_err-found-clause-found t c = refused _ c.from_residual.result _ c.from_residual.ensures.1

pub search-returns-in_err-found-clause-kept : goal.search-returns-in_err-found-clause-kept
search-returns-in_err-found-clause-kept t c = refused _ c.from_residual.result _ c.from_residual.ensures.1

pub look-returns-then-not-branch-clause-answer : goal.look-returns-then-not-branch-clause-answer
look-returns-then-not-branch-clause-answer t c = tt

pub look-returns-then-not-branch-clause-narrow : goal.look-returns-then-not-branch-clause-narrow
look-returns-then-not-branch-clause-narrow t c = tt

pub search-expand-requires : goal.search-expand-requires
search-expand-requires t c =
    let game = game_of c.args.self.now.game.now in
    let e = expression_at game c.args.index in
    let cs = configurations_of c.loop-at.found in
    let began_here = began_is game e c.args.place c.args.state.now cs c.loop-at.at c.loop-at.invariant.going in
    let inside : c.loop-at.at < length c.loop-at.found.stands.items = omega arith in (
      omega arith,
      (
        c.requires.ready,
        (
          c.requires.same,
          (
            c.requires.jumps,
            (
              inside,
              (
                c.loop-at.invariant.kept,
                (c.loop-at.invariant.shown, subst (λ S. IsGoing game e c.args.place S cs c.loop-at.at) (sym began_here) c.loop-at.invariant.going),
              ),
            ),
          ),
        ),
      ),
    )

pub search-loop-at-preserved : goal.search-loop-at-preserved
search-loop-at-preserved t c =
    let game = game_of c.args.self.now.game.now in
    let e = expression_at game c.args.index in
    let cs = configurations_of c.loop-at.found in
    let began_here = began_is game e c.args.place c.args.state.now cs c.loop-at.at c.loop-at.invariant.going in
    record {
      kept = c.in_ok-expand.ensures.kept;
      shown = c.in_ok-expand.ensures.shown;
      going = subst (λ S. IsGoing game e c.args.place S (configurations_of c.expand.new.found) (c.loop-at.at + 1)) began_here c.in_ok-expand.ensures.going;
    }

pub look-look_on-requires : goal.look-look_on-requires
look-look_on-requires t c =
    let game = game_of c.args.self.now.game.now in
    let e = expression_at game c.args.index in
    let S = at_vertex c.args.state.now c.args.vertex in
    let cs = seen_from c.args.state.now c.loop-at.looks.looks.items in
    let began_here = began_is game e 0 S cs c.loop-at.at c.loop-at.invariant.going in
    let inside : c.loop-at.at < length c.loop-at.looks.looks.items = omega arith in (
      omega arith,
      (
        c.requires.ready,
        (
          c.requires.same,
          (
            c.requires.jumps,
            (
              c.requires.lacks,
              (
                inside,
                (
                  c.loop-at.invariant.marked,
                  subst (λ B. IsGoing game e 0 B cs c.loop-at.at) (sym began_here) c.loop-at.invariant.going,
                ),
              ),
            ),
          ),
        ),
      ),
    )

pub look-loop-at-preserved : goal.look-loop-at-preserved
look-loop-at-preserved t c =
    let game = game_of c.args.self.now.game.now in
    let e = expression_at game c.args.index in
    let S = at_vertex c.args.state.now c.args.vertex in
    let cs = seen_from c.args.state.now c.loop-at.looks.looks.items in
    let began_here = began_is game e 0 S cs c.loop-at.at c.loop-at.invariant.going in
    record {
      marked = c.in_ok-look_on.ensures.marked;
      going = subst (λ B. IsGoing game e 0 B (seen_from c.args.state.now c.look_on.new.looks.looks.items) (c.loop-at.at + 1)) began_here
          (OnTrue-at c.in_ok-look_on.field-0 _ c.if-not-branch.false c.in_ok-look_on.ensures.going);
    }

pub search-loop-at-init : goal.search-loop-at-init
search-loop-at-init t c =
    let game = game_of c.args.self.now.game.now in
    let e = expression_at game c.args.index in
    record {
      kept = c.in_ok-found.ensures.kept;
      shown = record {
        at_one = omega (
          arith,
          ap length c.in_ok-found.ensures.opening,
          length-map c.in_ok-found.found.stands.items (stood (boards_in c.in_ok-found.found.boards)),
        );
        state_is = c.copy_state.ensures ∙ ap (λ cs. state_at cs 0) (sym c.in_ok-found.ensures.opening);
      };
      going = subst (λ cs. IsGoing game e c.args.place c.args.state.now cs 0) (sym c.in_ok-found.ensures.opening)
          (going_begun game e c.args.place c.args.state.now c.requires.state);
    }

pub expand-loop-number-init : goal.expand-loop-number-init
expand-loop-number-init t c =
    let game = game_of c.args.self.now.game.now in
    let e = expression_at game c.args.index in
    let cs = configurations_of c.args.found.now in
    record {
      kept = c.requires.kept;
      shown = c.requires.shown;
      going = c.requires.going;
      known = tt;
      here = not_begun game e c.args.place cs c.args.at;
      before = refl;
    }

pub look_on-loop-number-init : goal.look_on-loop-number-init
look_on-loop-number-init t c =
    let game = game_of c.args.self.now.game.now in
    let e = expression_at game c.args.index in
    let cs = seen_from c.args.state.now c.args.looks.now.looks.items in
    record { marked = c.requires.marked; going = c.requires.going; known = tt; here = not_begun game e 0 cs c.args.at; before = refl }

pub search-returns-clause-found : goal.search-returns-clause-found
search-returns-clause-found t c =
    let whole : length (configurations_of c.loop-at.found) ≤ c.loop-at.at = omega
    (arith, length-map c.loop-at.found.stands.items (stood (boards_in c.loop-at.found.boards))) in
    record { found = c.loop-at.invariant.going.found_are; expanded = λ j n less. c.loop-at.invariant.going.expanded j n (omega (arith, less, whole)) }

pub look-returns-clause-narrow : goal.look-returns-clause-narrow
look-returns-clause-narrow t c =
    let game = game_of c.args.self.now.game.now in
    let ls = c.loop-at.looks.looks.items in
    let whole : length (seen_from c.args.state.now ls) ≤ c.loop-at.at = omega (arith, length-map ls (looked c.args.state.now)) in
    let going = c.loop-at.invariant.going in
    narrow_by_search game (expression_at game c.args.index) 0 (at_vertex c.args.state.now c.args.vertex) (seen_from c.args.state.now ls)
    (record { found = going.found_are; expanded = λ j n less. going.expanded j n (omega (arith, less, whole)) })

pub look-returns-clause-answer : goal.look-returns-clause-answer
look-returns-clause-answer t c =
    let game = game_of c.args.self.now.game.now in
    let tables = c.args.self.now.tables.now in
    let index = c.args.index in
    let e = expression_at game index in
    let T = c.index-self-index.result in
    let at_T = read_at tables index T c.requires.ready.within c.index-self-index.is in
    let ls = c.loop-at.looks.looks.items in
    let cs = seen_from c.args.state.now ls in
    let S = at_vertex c.args.state.now c.args.vertex in
    let whole : length cs ≤ c.loop-at.at = omega (arith, length-map ls (looked c.args.state.now)) in
    let going = c.loop-at.invariant.going in
    let search : IsSearch game e 0 S cs = record { found = going.found_are; expanded = λ j n less. going.expanded j n (omega (arith, less, whole)) } in
    let table_is = ap (λ x. x.ends.nullable) c.index-self-index.is in
    elim c.if-table.branch [
      | look-then-table w ↦
          let null = table_is ∙ w.if-table.true in
          subst (λ b. MatchBool b (IsLegal game e S) (¬ IsLegal game e S)) (sym (w.legal-is ∙ w.if-table.true))
          (legal_by_nullable game tables index c.requires.ready T at_T c.requires.lacks S cs search null)
      | look-else-table w ↦
          let configurations = w.deref.ensures.value in
          let lasts = w.deref-else-table.ensures.value ∙ ap (λ x. x.lasts.items) (sym c.index-self-index.is) in
          let agree = any_agree (λ (l : Look). slice_index_or T.lasts.items l.place false)
          (λ l. list_any (λ k. k == l.place) T.ends.last.items) (λ l. (is_table game tables index c.requires.ready T at_T).lasts_are l.place) ls in
          let any = w.any_looks_last-legal.ensures ∙ ap (λ xs. list_any (λ x. slice_index_or xs x.place false) w.deref.result.now) lasts
          ∙ ap (λ xs. list_any (λ x. slice_index_or T.lasts.items x.place false) xs) configurations ∙ agree
          ∙ sym (any_look c.args.state.now ls T.ends.last.items) in
          subst (λ b. MatchBool b (IsLegal game e S) (¬ IsLegal game e S)) (sym w.legal-is)
          (legal_by_any game tables index c.requires.ready T at_T c.requires.lacks S cs search w.any_looks_last-legal.result any (table_is ∙ w.if-table.false))
    ]

pub look-loop-at-smaller : goal.look-loop-at-smaller
look-loop-at-smaller t c =
    let going = OnTrue-at c.in_ok-look_on.field-0 _ c.if-not-branch.false c.in_ok-look_on.ensures.going in
    omega (arith, going.within, going.found_are.few)

pub search-returns-in_err-expand-clause-wide : goal.search-returns-in_err-expand-clause-wide
search-returns-in_err-expand-clause-wide t c =
    let game = game_of c.args.self.now.game.now in
    let e = expression_at game c.args.index in
    let cs = configurations_of c.loop-at.found in
    let began_here = began_is game e c.args.place c.args.state.now cs c.loop-at.at c.loop-at.invariant.going in
    λ wide.
    let fault = passed c.from_residual-in_err-expand.result c.in_err-expand.field-0.0 c.from_residual-in_err-expand.ensures.1 wide in
    subst (IsWideFrom game e c.args.place) began_here (c.in_err-expand.ensures.wide (ap Err fault))

pub look-returns-in_err-look_on-clause-wide : goal.look-returns-in_err-look_on-clause-wide
look-returns-in_err-look_on-clause-wide t c =
    let game = game_of c.args.self.now.game.now in
    let e = expression_at game c.args.index in
    let S = at_vertex c.args.state.now c.args.vertex in
    let cs = seen_from c.args.state.now c.loop-at.looks.looks.items in
    let began_here = began_is game e 0 S cs c.loop-at.at c.loop-at.invariant.going in
    λ wide.
    let fault = passed c.from_residual-in_err-look_on.result c.in_err-look_on.field-0.0 c.from_residual-in_err-look_on.ensures.1 wide in
    subst (IsWideFrom game e 0) began_here (c.in_err-look_on.ensures.wide (ap Err fault))

pub is_legal_by_search-returns-in_err-found-clause-wide : goal.is_legal_by_search-returns-in_err-found-clause-wide
is_legal_by_search-returns-in_err-found-clause-wide t c =
    let game = game_of c.args.self.now.game.now in
    let e = expression_at game c.args.index in
    λ wide.
    let fault = passed c.from_residual.result c.in_err-found.field-0.0 c.from_residual.ensures.1 wide in
    subst (λ A. IsWideFrom game e 0 (at_vertex A c.args.vertex)) c.copied_state-state.ensures (c.in_err-found.ensures.wide (ap Err fault))

pub search-returns-in_err-found-clause-wide : goal.search-returns-in_err-found-clause-wide
search-returns-in_err-found-clause-wide t c = for_want c.from_residual.result c.from_residual.ensures.1

pub look-returns-in_err-looks-clause-wide : goal.look-returns-in_err-looks-clause-wide
look-returns-in_err-looks-clause-wide t c = for_want c.from_residual.result c.from_residual.ensures.1

pub attempt-index-requires : goal.attempt-index-requires
attempt-index-requires t c = omega (arith, c.args.found.now.stands.ok.0, c.requires.at)

pub attempt-add-requires-clause-board : goal.attempt-add-requires-clause-board
attempt-add-requires-clause-board t c = c.requires.kept.within c.args.at _
    (read_at c.args.found.now.stands.items c.args.at c.index.result.now c.requires.at c.index.ensures)

pub expand-returns-then-ends-clause-shown : goal.expand-returns-then-ends-clause-shown
expand-returns-then-ends-clause-shown t c = c.requires.shown

pub expand-returns-in_err-attempt-clause-shown : goal.expand-returns-in_err-attempt-clause-shown
expand-returns-in_err-attempt-clause-shown t c = refused _ c.from_residual.result _ c.from_residual.ensures.1

pub expand-returns-clause-shown : goal.expand-returns-clause-shown
expand-returns-clause-shown t c = c.loop-number.invariant.shown

pub expand-index-requires : goal.expand-index-requires
expand-index-requires t c = omega (arith, c.args.found.now.stands.ok.0, c.requires.at)

pub look_on-index-requires : goal.look_on-index-requires
look_on-index-requires t c = omega (arith, c.args.looks.now.looks.ok.0, c.requires.at)

pub glance_at-at_a_glance-requires-clause-state : goal.glance_at-at_a_glance-requires-clause-state
glance_at-at_a_glance-requires-clause-state t c = c.requires.state

pub glance_at-step-requires-clause-from : goal.glance_at-step-requires-clause-from
glance_at-step-requires-clause-from t c = c.requires.from

pub look_on-add-requires-clause-marked : goal.look_on-add-requires-clause-marked
look_on-add-requires-clause-marked t c =
    subst (λ n. AreMarked n c.loop-number.looks) (sym c.loop-number.invariant.marked.numbers_are) c.loop-number.invariant.marked

pub glance_from-step-requires-clause-upto : goal.glance_from-step-requires-clause-upto
glance_from-step-requires-clause-upto t c =
    let game = game_of c.args.self.now.game.now in
    let tables = c.args.self.now.tables.now in
    let index = c.args.index in
    let e = expression_at game index in
    let T = c.index-self-index.result in
    let at_T = read_at tables index T c.requires.ready.within c.index-self-index.is in
    let count = count_steps game tables index c.requires.ready T at_T in
    subst (λ x. c.args.number ≤ length x.steps.items) c.index-self-index.is (omega (arith, count, c.requires.upto))

pub glance_from-glance_where_seen-requires-clause-state : goal.glance_from-glance_where_seen-requires-clause-state
glance_from-glance_where_seen-requires-clause-state t c =
    let game = game_of c.args.self.now.game.now in
    let bs = boards_in c.args.found.now.boards in
    let stands = c.args.found.now.stands.items in
    let s = c.index.result.now in
    let there = state_there bs stands c.args.at s (read_at stands c.args.at s c.requires.at c.index.ensures) in
    let state_is = c.seen.ensures ∙ sym there in
    subst (IsStateOf game) (sym state_is) c.requires.state

pub glance_from-glance_where_seen-requires-clause-plain : goal.glance_from-glance_where_seen-requires-clause-plain
glance_from-glance_where_seen-requires-clause-plain t c =
    let game = game_of c.args.self.now.game.now in
    let tables = c.args.self.now.tables.now in
    let index = c.args.index in
    let e = expression_at game index in
    let T = c.index-self-index.result in
    let at_T = read_at tables index T c.requires.ready.within c.index-self-index.is in
    let at_step = subst (λ x. slice_get x.steps.items (c.args.number - 1) ≡ Some c.step.result.now) (sym c.index-self-index.is) c.step.ensures in
    let bs = boards_in c.args.found.now.boards in
    let stands = c.args.found.now.stands.items in
    let s = c.index.result.now in
    let there = state_there bs stands c.args.at s (read_at stands c.args.at s c.requires.at c.index.ensures) in
    let state_is = c.seen.ensures ∙ sym there in
    act_plain game tables index c.requires.ready T at_T c.args.number c.requires.from c.step.result.now at_step c.in-Act.action c.in-Act.is
    (state_seen c.seen.result) (subst (IsStateOf game) (sym state_is) c.requires.state)

pub glance_from-holds-requires : goal.glance_from-holds-requires
glance_from-holds-requires t c =
    let game = game_of c.args.self.now.game.now in
    let tables = c.args.self.now.tables.now in
    let index = c.args.index in
    let e = expression_at game index in
    let T = c.index-self-index.result in
    let at_T = read_at tables index T c.requires.ready.within c.index-self-index.is in
    let at_step = subst (λ x. slice_get x.steps.items (c.args.number - 1) ≡ Some c.step.result.now) (sym c.index-self-index.is) c.step.ensures in
    let before : c.in-Ask.inner < index = ask_before game tables index c.requires.ready T at_T c.args.number c.requires.from c.step.result.now at_step c.in-Ask.positive c.in-Ask.inner c.in-Ask.is in
    let es = inner_of game.rules in
    let pattern : c.in-Ask.inner < length c.args.self.now.same.now = omega
    (arith, before, c.requires.ready.within, c.requires.ready.tables_are.as_many, length-append es (game.rules ∷ []), c.requires.same.as_many) in
    (omega (arith, before), (ask_ready game tables index c.requires.ready T at_T c.args.number c.requires.from c.step.result.now at_step c.in-Ask.positive c.in-Ask.inner c.in-Ask.is, (c.requires.same, (c.requires.jumps, (subst (IsStateOf game) (sym c.show.ensures.state) c.requires.state, (ask_lacks game tables index c.requires.ready T at_T c.args.number c.requires.from c.step.result.now at_step c.in-Ask.positive c.in-Ask.inner c.in-Ask.is, (pattern, subst (λ S. IsAnswerAt game S c.args.known.now) (sym c.show.ensures.state) c.requires.known)))))))

pub glance_from-returns-in_err-holds-in-Ask-clause-wide : goal.glance_from-returns-in_err-holds-in-Ask-clause-wide
glance_from-returns-in_err-holds-in-Ask-clause-wide t c =
    let game = game_of c.args.self.now.game.now in
    let tables = c.args.self.now.tables.now in
    let index = c.args.index in
    let e = expression_at game index in
    let T = c.index-self-index.result in
    let at_T = read_at tables index T c.requires.ready.within c.index-self-index.is in
    let at_step = subst (λ x. slice_get x.steps.items (c.args.number - 1) ≡ Some c.step.result.now) (sym c.index-self-index.is) c.step.ensures in
    λ wide. let fault = passed c.from_residual.result c.in_err-holds-in-Ask.field-0.0 c.from_residual.ensures.1 wide in
    ask_wide game tables index c.requires.ready T at_T c.args.number c.requires.from c.step.result.now at_step c.in-Ask.positive c.in-Ask.inner c.in-Ask.is (state_at (configurations_of c.args.found.now) c.args.at) (subst (IsWideFrom game (expression_at game c.in-Ask.inner) 0) c.show.ensures.state (c.in_err-holds-in-Ask.ensures.wide (ap Err fault)))

pub glance_from-returns-in-Act-clause-tells : goal.glance_from-returns-in-Act-clause-tells
glance_from-returns-in-Act-clause-tells t c =
    let game = game_of c.args.self.now.game.now in
    let tables = c.args.self.now.tables.now in
    let index = c.args.index in
    let e = expression_at game index in
    let T = c.index-self-index.result in
    let at_T = read_at tables index T c.requires.ready.within c.index-self-index.is in
    let at_step = subst (λ x. slice_get x.steps.items (c.args.number - 1) ≡ Some c.step.result.now) (sym c.index-self-index.is) c.step.ensures in
    let bs = boards_in c.args.found.now.boards in
    let stands = c.args.found.now.stands.items in
    let s = c.index.result.now in
    let there = state_there bs stands c.args.at s (read_at stands c.args.at s c.requires.at c.index.ensures) in
    let state_is = c.seen.ensures ∙ sym there in
    act_tells game tables index c.requires.ready T at_T c.args.number c.requires.from c.step.result.now at_step c.in-Act.action c.in-Act.is
    (state_at (configurations_of c.args.found.now) c.args.at) c.glance_where_seen.result
    (subst (λ S. GlanceTells game (action_of c.in-Act.action) S c.glance_where_seen.result) state_is c.glance_where_seen.ensures)

pub glance_from-returns-in-Act-clause-narrow : goal.glance_from-returns-in-Act-clause-narrow
glance_from-returns-in-Act-clause-narrow t c =
    let game = game_of c.args.self.now.game.now in
    let tables = c.args.self.now.tables.now in
    let index = c.args.index in
    let e = expression_at game index in
    let T = c.index-self-index.result in
    let at_T = read_at tables index T c.requires.ready.within c.index-self-index.is in
    let at_step = subst (λ x. slice_get x.steps.items (c.args.number - 1) ≡ Some c.step.result.now) (sym c.index-self-index.is) c.step.ensures in
    λ ok. act_narrow game tables index c.requires.ready T at_T c.args.number c.requires.from c.step.result.now at_step c.in-Act.action c.in-Act.is (state_at (configurations_of c.args.found.now) c.args.at)

pub glance_from-returns-then-holds-positive-clause-tells : goal.glance_from-returns-then-holds-positive-clause-tells
glance_from-returns-then-holds-positive-clause-tells t c =
    let game = game_of c.args.self.now.game.now in
    let tables = c.args.self.now.tables.now in
    let index = c.args.index in
    let e = expression_at game index in
    let T = c.index-self-index.result in
    let at_T = read_at tables index T c.requires.ready.within c.index-self-index.is in
    let at_step = subst (λ x. slice_get x.steps.items (c.args.number - 1) ≡ Some c.step.result.now) (sym c.index-self-index.is) c.step.ensures in
    let S = c.show.new.shown.state in
    let here = ask_some game tables index c.requires.ready T at_T c.args.number c.requires.from c.step.result.now at_step c.in-Ask.positive c.in-Ask.inner c.in-Ask.is S c.in_ok-holds-in-Ask.holds c.in_ok-holds-in-Ask.ensures.answer (beq_true c.in_ok-holds-in-Ask.holds c.in-Ask.positive c.if-holds-positive.true) in (
      subst (λ A. EffectAt game e 1 c.args.number A (at_vertex A S.vertex)) c.show.ensures.state here,
      ask_look game tables index c.requires.ready T at_T c.args.number c.requires.from c.step.result.now at_step c.in-Ask.positive c.in-Ask.inner c.in-Ask.is,
    )

pub glance_from-returns-then-holds-positive-clause-narrow : goal.glance_from-returns-then-holds-positive-clause-narrow
glance_from-returns-then-holds-positive-clause-narrow t c =
    let game = game_of c.args.self.now.game.now in
    let tables = c.args.self.now.tables.now in
    let index = c.args.index in
    let e = expression_at game index in
    let T = c.index-self-index.result in
    let at_T = read_at tables index T c.requires.ready.within c.index-self-index.is in
    let at_step = subst (λ x. slice_get x.steps.items (c.args.number - 1) ≡ Some c.step.result.now) (sym c.index-self-index.is) c.step.ensures in
    λ ok. ask_narrow game tables index c.requires.ready T at_T c.args.number c.requires.from c.step.result.now at_step c.in-Ask.positive c.in-Ask.inner c.in-Ask.is (state_at (configurations_of c.args.found.now) c.args.at) (subst (λ S. ¬ IsWideFrom game (expression_at game c.in-Ask.inner) 0 S) c.show.ensures.state (c.in_ok-holds-in-Ask.ensures.narrow refl))

pub glance_from-returns-else-holds-positive-clause-tells : goal.glance_from-returns-else-holds-positive-clause-tells
glance_from-returns-else-holds-positive-clause-tells t c =
    let game = game_of c.args.self.now.game.now in
    let tables = c.args.self.now.tables.now in
    let index = c.args.index in
    let e = expression_at game index in
    let T = c.index-self-index.result in
    let at_T = read_at tables index T c.requires.ready.within c.index-self-index.is in
    let at_step = subst (λ x. slice_get x.steps.items (c.args.number - 1) ≡ Some c.step.result.now) (sym c.index-self-index.is) c.step.ensures in
    ask_none game tables index c.requires.ready T at_T c.args.number c.requires.from c.step.result.now at_step c.in-Ask.positive c.in-Ask.inner c.in-Ask.is (state_at (configurations_of c.args.found.now) c.args.at) c.in_ok-holds-in-Ask.holds (subst (λ S. MatchBool c.in_ok-holds-in-Ask.holds (IsLegal game (expression_at game c.in-Ask.inner) S) (¬ IsLegal game (expression_at game c.in-Ask.inner) S)) c.show.ensures.state c.in_ok-holds-in-Ask.ensures.answer) (λ same. let bad = beq_same c.in_ok-holds-in-Ask.holds c.in-Ask.positive same in cc (bad, c.if-holds-positive.false))

pub glance_from-returns-else-holds-positive-clause-narrow : goal.glance_from-returns-else-holds-positive-clause-narrow
glance_from-returns-else-holds-positive-clause-narrow t c =
    let game = game_of c.args.self.now.game.now in
    let tables = c.args.self.now.tables.now in
    let index = c.args.index in
    let e = expression_at game index in
    let T = c.index-self-index.result in
    let at_T = read_at tables index T c.requires.ready.within c.index-self-index.is in
    let at_step = subst (λ x. slice_get x.steps.items (c.args.number - 1) ≡ Some c.step.result.now) (sym c.index-self-index.is) c.step.ensures in
    λ ok. ask_narrow game tables index c.requires.ready T at_T c.args.number c.requires.from c.step.result.now at_step c.in-Ask.positive c.in-Ask.inner c.in-Ask.is (state_at (configurations_of c.args.found.now) c.args.at) (subst (λ S. ¬ IsWideFrom game (expression_at game c.in-Ask.inner) 0 S) c.show.ensures.state (c.in_ok-holds-in-Ask.ensures.narrow refl))

pub glance_from-returns-in_err-holds-in-Ask-clause-known : goal.glance_from-returns-in_err-holds-in-Ask-clause-known
glance_from-returns-in_err-holds-in-Ask-clause-known t c = refused _ c.from_residual.result _ c.from_residual.ensures.1

pub glance_from-returns-in_err-holds-in-Ask-clause-tells : goal.glance_from-returns-in_err-holds-in-Ask-clause-tells
glance_from-returns-in_err-holds-in-Ask-clause-tells t c = refused _ c.from_residual.result _ c.from_residual.ensures.1

pub glance_from-returns-in_err-holds-in-Ask-clause-narrow : goal.glance_from-returns-in_err-holds-in-Ask-clause-narrow
glance_from-returns-in_err-holds-in-Ask-clause-narrow t c = not_ok _ c.from_residual.result c.from_residual.ensures.1

pub glance_from-returns-then-holds-positive-clause-known : goal.glance_from-returns-then-holds-positive-clause-known
glance_from-returns-then-holds-positive-clause-known t c =
    let game = game_of c.args.self.now.game.now in
    subst (λ S. IsAnswerAt game S c.holds.new.known) c.show.ensures.state c.in_ok-holds-in-Ask.ensures.known

pub glance_from-returns-then-holds-positive-clause-wide : goal.glance_from-returns-then-holds-positive-clause-wide
glance_from-returns-then-holds-positive-clause-wide t c = no_error

pub glance_from-returns-else-holds-positive-clause-known : goal.glance_from-returns-else-holds-positive-clause-known
glance_from-returns-else-holds-positive-clause-known t c =
    let game = game_of c.args.self.now.game.now in
    subst (λ S. IsAnswerAt game S c.holds.new.known) c.show.ensures.state c.in_ok-holds-in-Ask.ensures.known

pub glance_from-returns-else-holds-positive-clause-wide : goal.glance_from-returns-else-holds-positive-clause-wide
glance_from-returns-else-holds-positive-clause-wide t c = no_error

pub glance_from-returns-in-Act-clause-known : goal.glance_from-returns-in-Act-clause-known
glance_from-returns-in-Act-clause-known t c = c.requires.known

pub glance_from-returns-in-Act-clause-wide : goal.glance_from-returns-in-Act-clause-wide
glance_from-returns-in-Act-clause-wide t c = no_error

pub glance_from-step-requires-clause-from : goal.glance_from-step-requires-clause-from
glance_from-step-requires-clause-from t c = c.requires.from

pub glance_from-returns-then-holds-positive-clause-shown : goal.glance_from-returns-then-holds-positive-clause-shown
glance_from-returns-then-holds-positive-clause-shown t c =
    let stands = c.args.found.now.stands.items in
    record {
      at_one = subst (λ i. i < length stands) (sym c.show.ensures.at) c.requires.at;
      state_is = c.show.ensures.state ∙ ap (state_at (configurations_of c.args.found.now)) (sym c.show.ensures.at);
    }

pub glance_from-returns-else-holds-positive-clause-shown : goal.glance_from-returns-else-holds-positive-clause-shown
glance_from-returns-else-holds-positive-clause-shown t c =
    let stands = c.args.found.now.stands.items in
    record {
      at_one = subst (λ i. i < length stands) (sym c.show.ensures.at) c.requires.at;
      state_is = c.show.ensures.state ∙ ap (state_at (configurations_of c.args.found.now)) (sym c.show.ensures.at);
    }

pub glance_from-returns-in_err-holds-in-Ask-clause-shown : goal.glance_from-returns-in_err-holds-in-Ask-clause-shown
glance_from-returns-in_err-holds-in-Ask-clause-shown t c = refused _ c.from_residual.result _ c.from_residual.ensures.1

pub glance_from-returns-in-Act-clause-shown : goal.glance_from-returns-in-Act-clause-shown
glance_from-returns-in-Act-clause-shown t c = c.requires.shown

pub glance_from-show-requires-clause-kept : goal.glance_from-show-requires-clause-kept
glance_from-show-requires-clause-kept t c = c.requires.kept

pub glance_from-show-requires-clause-at : goal.glance_from-show-requires-clause-at
glance_from-show-requires-clause-at t c = c.requires.at

pub glance_from-show-requires-clause-shown : goal.glance_from-show-requires-clause-shown
glance_from-show-requires-clause-shown t c = c.requires.shown

pub glance_from-index-requires : goal.glance_from-index-requires
glance_from-index-requires t c = omega (arith, c.args.found.now.stands.ok.0, c.requires.at)

pub glance_from-seen-requires-clause-board : goal.glance_from-seen-requires-clause-board
glance_from-seen-requires-clause-board t c =
    omega (
      arith,
      many_boards c.args.found.now.boards,
      c.requires.kept.within c.args.at _
          (read_at c.args.found.now.stands.items c.args.at c.index.result.now c.requires.at c.index.ensures),
    )
