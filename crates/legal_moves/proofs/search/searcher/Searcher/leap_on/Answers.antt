use Rattle.std.proofs.Common.{◌≡◌, ℕ, ◌+◌, ◌<◌, ◌≤◌, ◌⊎◌, inl, inr, get_or, Some, slice_get, refl, sym, ap, ◌∙◌, subst, arith}
use Rattle.std.specs.Bool.{MatchBool}
use Rattle.std.proofs.lemmas.Bool.{cases_lt}
use Rattle.std.proofs.lemmas.Option.{slice_get-get_or}
use Rattle.rbg_game.specs.Meaning.{game_of}
use Rattle.legal_moves.specs.lemmas.Configurations.{expression_at}
use Rattle.legal_moves.specs.lemmas.Leaps.{opened, IsMetBefore, IsJumped, IsLeaping}
use Rattle.legal_moves.specs.lemmas.VertexSearch.{at_vertex}
use Rattle.legal_moves.specs.lemmas.Searches.{IsLegal}
use Rattle.legal_moves.specs.declared.automaton.jumps.Jump.{Jump}
use Rattle.legal_moves.proofs.GetLemmas.{slice_get-within, slice_get-there}
use Rattle.legal_moves.proofs.searches.HoldsLemmas.{none_switches}
use Rattle.legal_moves.proofs.searches.LeapLemmas.{at_inside, opened_is, look_still, legal_by_row, before_by_row, leaping_next, leapt_by_row}
use Rattle.legal_moves.proofs.automata.ReadyLemmas.{read_at, expression_there}
use Rattle.legal_moves.proofs.automata.RowLemmas.{shifts_inside}
use Rattle.legal_moves.proofs.search.searcher.Searcher.leap_on.Goals as goal

pub returns-then-row-clause-leaping : goal.returns-then-row-clause-leaping
returns-then-row-clause-leaping c =
    let game = game_of c.args.self.now.game.now in
    let tables = c.args.self.now.tables.now in
    let index = c.args.index in
    let e = expression_at game index in
    let none = none_switches e c.requires.lacks in
    let state = c.args.state.now in
    let ls = c.args.looks.now.looks.items in
    let S = at_vertex state (opened ls) in
    let l = c.index.result.now in
    let at_l = read_at ls c.args.at l c.requires.at c.index.ensures in
    let row = c.row-row.result.now in
    let is_row = c.row-row.ensures in
    legal_by_row game e S none l.place l.vertex row is_row c.if-row.true (c.requires.leaping.met c.args.at l at_l)

pub jump_on-requires-clause-narrow : goal.jump_on-requires-clause-narrow
jump_on-requires-clause-narrow c =
    let game = game_of c.args.self.now.game.now in
    let tables = c.args.self.now.tables.now in
    let jumps = c.args.self.now.jumps.now in
    let index = c.args.index in
    let e = expression_at game index in
    let J = slice_get-there jumps index (omega (arith, c.requires.ready.within, c.requires.jumps.as_many)) in
    λ table at_table.
    let rows = c.requires.jumps.each index table e J.0 at_table (expression_there game tables index c.requires.ready) J.1 in
    table.few (rows.narrow (c.requires.rows J.0 J.1))

pub jump_on-requires-clause-inside : goal.jump_on-requires-clause-inside
jump_on-requires-clause-inside c =
    let game = game_of c.args.self.now.game.now in
    let tables = c.args.self.now.tables.now in
    let index = c.args.index in
    let e = expression_at game index in
    let none = none_switches e c.requires.lacks in
    let state = c.args.state.now in
    let ls = c.args.looks.now.looks.items in
    let S = at_vertex state (opened ls) in
    let l = c.index.result.now in
    let at_l = read_at ls c.args.at l c.requires.at c.index.ensures in
    let row = c.row-row.result.now in
    let is_row = c.row-row.ensures in
    let items = c.deref-jump-items.result.now in
    let items_are : items ≡ row.to.items = c.deref-jump-items.ensures.value in
    let n = c.loop-jump.jump-index in
    let first : Jump = record { number = 0; vertex = 0 } in
    let j = get_or items n first in
    let at_items = slice_get-get_or items n first c.loop-jump-test.true in
    let at_j = subst (λ xs. slice_get xs n ≡ Some j) items_are at_items in
    let now = c.loop-jump.looks.looks.items in
    let opened_same : opened now ≡ opened ls = opened_is now _ c.loop-jump.invariant.leaping.opening_is in
    let led = is_row.only j.number j.vertex (n, j, at_j, refl, refl) in
    at_inside game state (opened ls) j.vertex c.requires.state
    (shifts_inside game e c.requires.ready.sound l.place l.vertex led.0 j.vertex (c.requires.leaping.inside c.args.at l at_l) led.1)

pub jump_on-requires-clause-before : goal.jump_on-requires-clause-before
jump_on-requires-clause-before c =
    let game = game_of c.args.self.now.game.now in
    let tables = c.args.self.now.tables.now in
    let index = c.args.index in
    let e = expression_at game index in
    let none = none_switches e c.requires.lacks in
    let state = c.args.state.now in
    let ls = c.args.looks.now.looks.items in
    let S = at_vertex state (opened ls) in
    let l = c.index.result.now in
    let at_l = read_at ls c.args.at l c.requires.at c.index.ensures in
    let row = c.row-row.result.now in
    let is_row = c.row-row.ensures in
    let items = c.deref-jump-items.result.now in
    let items_are : items ≡ row.to.items = c.deref-jump-items.ensures.value in
    let n = c.loop-jump.jump-index in
    let first : Jump = record { number = 0; vertex = 0 } in
    let j = get_or items n first in
    let at_items = slice_get-get_or items n first c.loop-jump-test.true in
    let at_j = subst (λ xs. slice_get xs n ≡ Some j) items_are at_items in
    let now = c.loop-jump.looks.looks.items in
    let opened_same : opened now ≡ opened ls = opened_is now _ c.loop-jump.invariant.leaping.opening_is in
    subst (λ v. IsMetBefore game e (at_vertex state v) j.number j.vertex) (sym opened_same)
    (before_by_row game e S none l.place l.vertex row is_row (c.requires.leaping.met c.args.at l at_l) j.number j.vertex (n, j, at_j, refl, refl))

pub loop-jump-preserved : goal.loop-jump-preserved
loop-jump-preserved c =
    let game = game_of c.args.self.now.game.now in
    let tables = c.args.self.now.tables.now in
    let index = c.args.index in
    let e = expression_at game index in
    let none = none_switches e c.requires.lacks in
    let state = c.args.state.now in
    let ls = c.args.looks.now.looks.items in
    let S = at_vertex state (opened ls) in
    let l = c.index.result.now in
    let at_l = read_at ls c.args.at l c.requires.at c.index.ensures in
    let row = c.row-row.result.now in
    let is_row = c.row-row.ensures in
    let items = c.deref-jump-items.result.now in
    let items_are : items ≡ row.to.items = c.deref-jump-items.ensures.value in
    let n = c.loop-jump.jump-index in
    let first : Jump = record { number = 0; vertex = 0 } in
    let j = get_or items n first in
    let at_items = slice_get-get_or items n first c.loop-jump-test.true in
    let at_j = subst (λ xs. slice_get xs n ≡ Some j) items_are at_items in
    let now = c.loop-jump.looks.looks.items in
    let opened_same : opened now ≡ opened ls = opened_is now _ c.loop-jump.invariant.leaping.opening_is in
    let S' = at_vertex state (opened now) in
    let same : S' ≡ S = ap (at_vertex state) opened_same in
    let new = c.jump_on.new.looks.looks.items in
    let still = c.in_ok-jump_on.ensures.still in
    let there = subst (λ b. MatchBool b (IsLegal game e S')
    (IsLeaping game e S' new c.args.at × IsJumped game e S' new j.number j.vertex)) c.if-branch.false c.in_ok-jump_on.ensures.leaping in
    let more = subst (λ X. IsLeaping game e X new c.args.at × IsJumped game e X new j.number j.vertex) same there in
    let all : (i : ℕ) (k : Jump) → (i < n) ⊎ (n ≤ i) → i < n + 1 → slice_get items i ≡ Some k
    → IsJumped game e S new k.number k.vertex = λ i k either less at_k. elim either [
      | inl low ↦ λ T step. look_still now new still k.number T.vertex (c.loop-jump.invariant.tried i k low at_k T step)
      | inr high ↦
          let here : i ≡ n = omega (arith, high, less) in
          let both : Some j ≡ Some k = sym at_items ∙ ap (slice_get items) (sym here) ∙ at_k in
          let one : j ≡ k = cc in
          subst (λ x. IsJumped game e S new x.number x.vertex) one more.1
    ] in
    record {
      marked = c.in_ok-jump_on.ensures.marked;
      leaping = more.0;
      still = λ i m at. still i m (c.loop-jump.invariant.still i m at);
      tried = λ i k less at_k. all i k (cases_lt i n) less at_k;
    }

pub returns-clause-leaping : goal.returns-clause-leaping
returns-clause-leaping c =
    let game = game_of c.args.self.now.game.now in
    let tables = c.args.self.now.tables.now in
    let index = c.args.index in
    let e = expression_at game index in
    let none = none_switches e c.requires.lacks in
    let state = c.args.state.now in
    let ls = c.args.looks.now.looks.items in
    let S = at_vertex state (opened ls) in
    let l = c.index.result.now in
    let at_l = read_at ls c.args.at l c.requires.at c.index.ensures in
    let row = c.row-row.result.now in
    let is_row = c.row-row.ensures in
    let items = c.deref-jump-items.result.now in
    let items_are : items ≡ row.to.items = c.deref-jump-items.ensures.value in
    let now = c.loop-jump.looks.looks.items in
    leaping_next game e S none now c.args.at c.loop-jump.invariant.leaping l (c.loop-jump.invariant.still c.args.at l at_l)
    (leapt_by_row game e S none now l row is_row c.if-row.false
    (λ i j at_j. let at_items = subst (λ xs. slice_get xs i ≡ Some j) (sym items_are) at_j in
    c.loop-jump.invariant.tried i j (omega (arith, slice_get-within items i j at_items, c.loop-jump-test.false)) at_items))
