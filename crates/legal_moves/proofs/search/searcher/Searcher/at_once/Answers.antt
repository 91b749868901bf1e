use Rattle.std.proofs.Common.{◌≡◌, ℕ, ◌+◌, ◌<◌, ◌≤◌, ◌⊎◌, inl, inr, [], ◌∷◌, get_or, Some, slice_get, slice_index_or, false, refl, sym, ap, ◌∙◌, subst, arith}
use Rattle.std.proofs.lemmas.Bool.{cases_lt}
use Rattle.std.proofs.lemmas.Option.{slice_get-get_or}
use Rattle.rbg_game.specs.Meaning.{game_of}
use Rattle.rbg_game.specs.declared.position.SemiState.{SemiState}
use Rattle.legal_moves.specs.Effects.{EffectAt}
use Rattle.legal_moves.specs.lemmas.Configurations.{expression_at}
use Rattle.legal_moves.specs.lemmas.VertexSearch.{at_vertex}
use Rattle.legal_moves.specs.declared.automaton.jumps.Jump.{Jump}
use Rattle.legal_moves.specs.declared.search.looks.Look.{Look}
use Rattle.legal_moves.proofs.searches.ExpandLemmas.{number_from, number_upto}
use Rattle.legal_moves.proofs.GetLemmas.{slice_get-within, slice_get-there}
use Rattle.legal_moves.proofs.searches.HoldsLemmas.{none_switches, last_by_mark}
use Rattle.legal_moves.proofs.searches.LeapLemmas.{at_inside, legal_by_end, legal_by_row, before_by_row, met_by_before, leaping_begun, leaping_next, leapt_by_row, not_legal}
use Rattle.legal_moves.proofs.searches.NarrowLemmas.{alone}
use Rattle.legal_moves.proofs.automata.ReadyLemmas.{read_at}
use Rattle.legal_moves.proofs.automata.RowLemmas.{shifts_inside}
use Rattle.legal_moves.proofs.search.searcher.Searcher.at_once.Goals as goal

pub returns-then-row : goal.returns-then-row
returns-then-row c =
    let game = game_of c.args.self.now.game.now in
    let e = expression_at game c.args.index in
    let none = none_switches e c.requires.lacks in
    let v = c.args.vertex in
    let S = at_vertex c.args.state.now v in
    let first : Look = record { vertex = v; place = 0; parent = 0 } in
    let met = (leaping_begun game e S none c.requires.state.vertex_is).met 0 first refl in
    legal_by_row game e S none 0 v c.row-row.result.now c.row-row.ensures c.if-row.true met

pub leads_to-requires-clause-state : goal.leads_to-requires-clause-state
leads_to-requires-clause-state c =
    let game = game_of c.args.self.now.game.now in
    let e = expression_at game c.args.index in
    let v = c.args.vertex in
    let row = c.row-row.result.now in
    let items = c.deref-jump-items.result.now in
    let n = c.loop-jump.jump-index in
    let zero : Jump = record { number = 0; vertex = 0 } in
    let j = get_or items n zero in
    let at_j = subst (λ xs. slice_get xs n ≡ Some j) c.deref-jump-items.ensures.value (slice_get-get_or items n zero c.loop-jump-test.true) in
    let led = c.row-row.ensures.only j.number j.vertex (n, j, at_j, refl, refl) in
    at_inside game c.args.state.now v j.vertex c.requires.state
    (shifts_inside game e c.requires.ready.sound 0 v led.0 j.vertex c.requires.state.vertex_is led.1)

pub leads_to-requires-clause-from : goal.leads_to-requires-clause-from
leads_to-requires-clause-from c =
    let game = game_of c.args.self.now.game.now in
    let e = expression_at game c.args.index in
    let items = c.deref-jump-items.result.now in
    let n = c.loop-jump.jump-index in
    let zero : Jump = record { number = 0; vertex = 0 } in
    let j = get_or items n zero in
    let at_j = subst (λ xs. slice_get xs n ≡ Some j) c.deref-jump-items.ensures.value (slice_get-get_or items n zero c.loop-jump-test.true) in
    let led = c.row-row.ensures.only j.number j.vertex (n, j, at_j, refl, refl) in
    number_from e led.0 j.number led.2

pub leads_to-requires-clause-upto : goal.leads_to-requires-clause-upto
leads_to-requires-clause-upto c =
    let game = game_of c.args.self.now.game.now in
    let e = expression_at game c.args.index in
    let items = c.deref-jump-items.result.now in
    let n = c.loop-jump.jump-index in
    let zero : Jump = record { number = 0; vertex = 0 } in
    let j = get_or items n zero in
    let at_j = subst (λ xs. slice_get xs n ≡ Some j) c.deref-jump-items.ensures.value (slice_get-get_or items n zero c.loop-jump-test.true) in
    let led = c.row-row.ensures.only j.number j.vertex (n, j, at_j, refl, refl) in
    number_upto e led.0 j.number led.2

pub loop-jump-preserved : goal.loop-jump-preserved
loop-jump-preserved c =
    let game = game_of c.args.self.now.game.now in
    let e = expression_at game c.args.index in
    let items = c.deref-jump-items.result.now in
    let n = c.loop-jump.jump-index in
    let zero : Jump = record { number = 0; vertex = 0 } in
    let j = get_or items n zero in
    let at_items = slice_get-get_or items n zero c.loop-jump-test.true in
    let all : (i : ℕ) (k : Jump) → (i < n) ⊎ (n ≤ i) → i < n + 1 → slice_get items i ≡ Some k → (T : SemiState)
    → ¬ EffectAt game e 1 k.number (at_vertex c.args.state.now k.vertex) T = λ i k either less at_k. elim either [
      | inl low ↦ c.loop-jump.invariant i k low at_k
      | inr high ↦
          let here : i ≡ n = omega (arith, high, less) in
          let both : Some j ≡ Some k = sym at_items ∙ ap (slice_get items) (sym here) ∙ at_k in
          let one : j ≡ k = cc in
          subst (λ x. (T : SemiState) → ¬ EffectAt game e 1 x.number (at_vertex c.args.state.now x.vertex) T) one c.in_default.ensures.none
    ] in
    λ i k less at_k. all i k (cases_lt i n) less at_k

pub returns-then-is_marked : goal.returns-then-is_marked
returns-then-is_marked c =
    let game = game_of c.args.self.now.game.now in
    let tables = c.args.self.now.tables.now in
    let index = c.args.index in
    let e = expression_at game index in
    let none = none_switches e c.requires.lacks in
    let v = c.args.vertex in
    let S = at_vertex c.args.state.now v in
    let first : Look = record { vertex = v; place = 0; parent = 0 } in
    let met = (leaping_begun game e S none c.requires.state.vertex_is).met 0 first refl in
    let items = c.deref-jump-items.result.now in
    let n = c.loop-jump.jump-index in
    let zero : Jump = record { number = 0; vertex = 0 } in
    let j = get_or items n zero in
    let at_j = subst (λ xs. slice_get xs n ≡ Some j) c.deref-jump-items.ensures.value (slice_get-get_or items n zero c.loop-jump-test.true) in
    let before = before_by_row game e S none 0 v c.row-row.result.now c.row-row.ensures met j.number j.vertex (n, j, at_j, refl, refl) in
    let there = met_by_before game e S none j.number j.vertex c.in-Some._to before c.in-Some.ensures.some in
    let T = c.index-self-index.result in
    let at_T = read_at tables index T c.requires.ready.within c.index-self-index.is in
    let lasts = c.deref.ensures.value ∙ ap (λ x. x.lasts.items) (sym c.index-self-index.is) in
    let mark = c.is_marked.ensures ∙ ap (λ xs. slice_index_or xs c.from.result false) lasts ∙ ap (λ k. slice_index_or T.lasts.items k false) c.from.ensures in
    legal_by_end game e S none j.number c.in-Some._to there (last_by_mark game tables index c.requires.ready T at_T j.number (sym mark ∙ c.if-is_marked.true))

pub returns : goal.returns
returns c =
    let game = game_of c.args.self.now.game.now in
    let tables = c.args.self.now.tables.now in
    let index = c.args.index in
    let e = expression_at game index in
    let none = none_switches e c.requires.lacks in
    let v = c.args.vertex in
    let S = at_vertex c.args.state.now v in
    let first : Look = record { vertex = v; place = 0; parent = 0 } in
    let ls = first ∷ [] in
    let row = c.row-row.result.now in
    let items = c.deref-jump-items.result.now in
    let going = leaping_begun game e S none c.requires.state.vertex_is in
    let leapt = leapt_by_row game e S none ls first row c.row-row.ensures c.if-row.false (λ i j at_j T step.
    let at_items = subst (λ xs. slice_get xs i ≡ Some j) (sym c.deref-jump-items.ensures.value) at_j in
    absurd (c.loop-jump.invariant i j (omega (arith, slice_get-within items i j at_items, c.loop-jump-test.false)) at_items T step)) in
    let T = slice_get-there tables index c.requires.ready.within in
    let looks = alone game tables index c.requires.ready T.0 T.1 (c.requires.narrow T.0 T.1) in
    not_legal game e S none looks ls 1 (leaping_next game e S none ls 0 going first refl leapt) (omega arith) c.requires.some
