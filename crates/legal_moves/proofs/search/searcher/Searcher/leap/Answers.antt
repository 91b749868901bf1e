use Rattle.std.proofs.Common.{◌≡◌, ℕ, zero, suc, ◌+◌, ◌<◌, ◌≤◌, ◌==◌, Bool, false, inl, length, vec_len, get_or, Some, sym, ap, ◌∙◌, subst, arith}
use Rattle.rbg_game.specs.Rules.{count}
use Rattle.rbg_game.specs.Meaning.{game_of}
use Rattle.legal_moves.specs.lemmas.Configurations.{expression_at}
use Rattle.legal_moves.specs.lemmas.Leaps.{IsLeaping}
use Rattle.legal_moves.specs.lemmas.VertexSearch.{at_vertex, AreMarked}
use Rattle.legal_moves.specs.declared.automaton.jumps.Jumps.{Jumps}
use Rattle.legal_moves.proofs.searches.FoundLemmas.{count_whole}
use Rattle.legal_moves.proofs.searches.HoldsLemmas.{none_switches}
use Rattle.legal_moves.proofs.searches.LeapLemmas.{leaping_begun, not_legal}
use Rattle.legal_moves.proofs.searches.NarrowLemmas.{alone, table_is_narrow}
use Rattle.legal_moves.proofs.automata.ReadyLemmas.{read_at, is_table, count_steps, expression_there}
use Rattle.legal_moves.proofs.searches.SearchLemmas.{legal-by_HasEnd}
use Rattle.legal_moves.proofs.search.searcher.Searcher.leap.Goals as goal

positive : (n : ℕ) → (n == 0) ≡ false → 0 < n
positive zero other = absurd (cc)
positive (suc n) other = omega arith

some_rows : (J K : Jumps) → J ≡ K → (b : Bool) → b ≡ (vec_len K.rows == 0) → b ≡ false → 0 < length J.rows.items
some_rows J K same b is other =
    let long = ap (λ (x : Jumps). vec_len x.rows) same in
    let some = positive (vec_len K.rows) (sym is ∙ other) in
    omega (arith, long, some, J.rows.ok.0)

pub returns-then-table-clause-answer : goal.returns-then-table-clause-answer
returns-then-table-clause-answer c =
    let game = game_of c.args.self.now.game.now in
    let tables = c.args.self.now.tables.now in
    let index = c.args.index in
    let e = expression_at game index in
    let T = c.index-self-index-2.result in
    let at_T = read_at tables index T c.requires.ready.within c.index-self-index-2.is in
    let S = at_vertex c.args.state.now c.args.vertex in
    let none = none_switches e c.requires.lacks in
    let null = sym (is_table game tables index c.requires.ready T at_T).nullable_is ∙ ap (λ x. x.ends.nullable) c.index-self-index-2.is in
    legal-by_HasEnd game e S none (inl (null ∙ c.if-table.true))

pub returns-then-table-clause-narrow : goal.returns-then-table-clause-narrow
returns-then-table-clause-narrow c =
    let game = game_of c.args.self.now.game.now in
    let tables = c.args.self.now.tables.now in
    let index = c.args.index in
    let e = expression_at game index in
    let T = c.index-self-index-2.result in
    let at_T = read_at tables index T c.requires.ready.within c.index-self-index-2.is in
    let jumps = c.args.self.now.jumps.now in
    let J = c.index-self-index.result in
    let at_J = read_at jumps index J (omega (arith, c.requires.ready.within, c.requires.jumps.as_many)) c.index-self-index.is in
    let some : 0 < length J.rows.items = some_rows J (get_or jumps index J) c.index-self-index.is c.is_empty.result c.is_empty.ensures c.if-is_empty.false in
    let are = c.requires.jumps.each index T e J at_T (expression_there game tables index c.requires.ready) at_J in
    let few = T.few (are.narrow some) in
    table_is_narrow game tables index c.requires.ready T at_T few (at_vertex c.args.state.now c.args.vertex) c.requires.state

pub begun-requires-clause-few : goal.begun-requires-clause-few
begun-requires-clause-few c =
    let game = game_of c.args.self.now.game.now in
    let tables = c.args.self.now.tables.now in
    let index = c.args.index in
    let e = expression_at game index in
    let T = c.index-self-index-2.result in
    let at_T = read_at tables index T c.requires.ready.within c.index-self-index-2.is in
    let steps = count_steps game tables index c.requires.ready T at_T in
    let long = ap (λ x. vec_len x.steps) (sym c.index-self-index-2.is) in
    let same = T.steps.ok in
    omega (arith, steps, long, same, c.len-numbers.ensures, count_whole e, c.requires.ready.small)

pub loop-at-init : goal.loop-at-init
loop-at-init c =
    let game = game_of c.args.self.now.game.now in
    let tables = c.args.self.now.tables.now in
    let index = c.args.index in
    let e = expression_at game index in
    let T = c.index-self-index-2.result in
    let at_T = read_at tables index T c.requires.ready.within c.index-self-index-2.is in
    let steps = count_steps game tables index c.requires.ready T at_T in
    let long = ap (λ x. vec_len x.steps) (sym c.index-self-index-2.is) in
    let numbers : c.len-numbers.result + 1 ≡ count e + 1 = (let same = T.steps.ok in omega (arith, steps, long, same, c.len-numbers.ensures)) in
    let S = at_vertex c.args.state.now c.args.vertex in
    record {
      marked = subst (λ n. AreMarked n c.in_ok-looks.looks) numbers c.in_ok-looks.ensures.marked;
      leaping = subst (λ ls. IsLeaping game e S ls 0) (sym c.in_ok-looks.ensures.opening)
          (leaping_begun game e S (none_switches e c.requires.lacks) c.requires.state.vertex_is);
    }

pub leap_on-requires-clause-rows : goal.leap_on-requires-clause-rows
leap_on-requires-clause-rows c =
    let index = c.args.index in
    let jumps = c.args.self.now.jumps.now in
    let J = c.index-self-index.result in
    let at_J = read_at jumps index J (omega (arith, c.requires.ready.within, c.requires.jumps.as_many)) c.index-self-index.is in
    let some : 0 < length J.rows.items = some_rows J (get_or jumps index J) c.index-self-index.is c.is_empty.result c.is_empty.ensures c.if-is_empty.false in
    λ js at_js.
    let both : Some J ≡ Some js = sym at_J ∙ at_js in
    let same : J ≡ js = cc in
    subst (λ x. 0 < length x.rows.items) same some

pub at_once-requires-clause-rows : goal.at_once-requires-clause-rows
at_once-requires-clause-rows c =
    let index = c.args.index in
    let jumps = c.args.self.now.jumps.now in
    let J = c.index-self-index.result in
    let at_J = read_at jumps index J (omega (arith, c.requires.ready.within, c.requires.jumps.as_many)) c.index-self-index.is in
    let some : 0 < length J.rows.items = some_rows J (get_or jumps index J) c.index-self-index.is c.is_empty.result c.is_empty.ensures c.if-is_empty.false in
    λ js at_js.
    let both : Some J ≡ Some js = sym at_J ∙ at_js in
    let same : J ≡ js = cc in
    subst (λ x. 0 < length x.rows.items) same some

pub at_once-requires-clause-narrow : goal.at_once-requires-clause-narrow
at_once-requires-clause-narrow c =
    let game = game_of c.args.self.now.game.now in
    let tables = c.args.self.now.tables.now in
    let index = c.args.index in
    let e = expression_at game index in
    let jumps = c.args.self.now.jumps.now in
    let J = c.index-self-index.result in
    let at_J = read_at jumps index J (omega (arith, c.requires.ready.within, c.requires.jumps.as_many)) c.index-self-index.is in
    let some : 0 < length J.rows.items = some_rows J (get_or jumps index J) c.index-self-index.is c.is_empty.result c.is_empty.ensures c.if-is_empty.false in
    λ table at_table.
    let are = c.requires.jumps.each index table e J at_table (expression_there game tables index c.requires.ready) at_J in
    table.few (are.narrow some)

pub at_once-requires-clause-some : goal.at_once-requires-clause-some
at_once-requires-clause-some c =
    let game = game_of c.args.self.now.game.now in
    let tables = c.args.self.now.tables.now in
    let index = c.args.index in
    let T = c.index-self-index-2.result in
    let at_T = read_at tables index T c.requires.ready.within c.index-self-index-2.is in
    sym (is_table game tables index c.requires.ready T at_T).nullable_is ∙ ap (λ x. x.ends.nullable) c.index-self-index-2.is ∙ c.if-table.false

pub returns-in-Some-clause-narrow : goal.returns-in-Some-clause-narrow
returns-in-Some-clause-narrow c =
    let game = game_of c.args.self.now.game.now in
    let tables = c.args.self.now.tables.now in
    let index = c.args.index in
    let e = expression_at game index in
    let T = c.index-self-index-2.result in
    let at_T = read_at tables index T c.requires.ready.within c.index-self-index-2.is in
    let jumps = c.args.self.now.jumps.now in
    let J = c.index-self-index.result in
    let at_J = read_at jumps index J (omega (arith, c.requires.ready.within, c.requires.jumps.as_many)) c.index-self-index.is in
    let some : 0 < length J.rows.items = some_rows J (get_or jumps index J) c.index-self-index.is c.is_empty.result c.is_empty.ensures c.if-is_empty.false in
    let are = c.requires.jumps.each index T e J at_T (expression_there game tables index c.requires.ready) at_J in
    let few = T.few (are.narrow some) in
    table_is_narrow game tables index c.requires.ready T at_T few (at_vertex c.args.state.now c.args.vertex) c.requires.state

pub returns-then-branch-clause-narrow : goal.returns-then-branch-clause-narrow
returns-then-branch-clause-narrow c =
    let game = game_of c.args.self.now.game.now in
    let tables = c.args.self.now.tables.now in
    let index = c.args.index in
    let e = expression_at game index in
    let T = c.index-self-index-2.result in
    let at_T = read_at tables index T c.requires.ready.within c.index-self-index-2.is in
    let jumps = c.args.self.now.jumps.now in
    let J = c.index-self-index.result in
    let at_J = read_at jumps index J (omega (arith, c.requires.ready.within, c.requires.jumps.as_many)) c.index-self-index.is in
    let some : 0 < length J.rows.items = some_rows J (get_or jumps index J) c.index-self-index.is c.is_empty.result c.is_empty.ensures c.if-is_empty.false in
    let are = c.requires.jumps.each index T e J at_T (expression_there game tables index c.requires.ready) at_J in
    let few = T.few (are.narrow some) in
    table_is_narrow game tables index c.requires.ready T at_T few (at_vertex c.args.state.now c.args.vertex) c.requires.state

pub returns-clause-narrow : goal.returns-clause-narrow
returns-clause-narrow c =
    let game = game_of c.args.self.now.game.now in
    let tables = c.args.self.now.tables.now in
    let index = c.args.index in
    let e = expression_at game index in
    let T = c.index-self-index-2.result in
    let at_T = read_at tables index T c.requires.ready.within c.index-self-index-2.is in
    let jumps = c.args.self.now.jumps.now in
    let J = c.index-self-index.result in
    let at_J = read_at jumps index J (omega (arith, c.requires.ready.within, c.requires.jumps.as_many)) c.index-self-index.is in
    let some : 0 < length J.rows.items = some_rows J (get_or jumps index J) c.index-self-index.is c.is_empty.result c.is_empty.ensures c.if-is_empty.false in
    let are = c.requires.jumps.each index T e J at_T (expression_there game tables index c.requires.ready) at_J in
    let few = T.few (are.narrow some) in
    table_is_narrow game tables index c.requires.ready T at_T few (at_vertex c.args.state.now c.args.vertex) c.requires.state

pub returns-clause-answer : goal.returns-clause-answer
returns-clause-answer c =
    let game = game_of c.args.self.now.game.now in
    let tables = c.args.self.now.tables.now in
    let index = c.args.index in
    let e = expression_at game index in
    let T = c.index-self-index-2.result in
    let at_T = read_at tables index T c.requires.ready.within c.index-self-index-2.is in
    let S = at_vertex c.args.state.now c.args.vertex in
    let none = none_switches e c.requires.lacks in
    let null = sym (is_table game tables index c.requires.ready T at_T).nullable_is ∙ ap (λ x. x.ends.nullable) c.index-self-index-2.is in
    let jumps = c.args.self.now.jumps.now in
    let J = c.index-self-index.result in
    let at_J = read_at jumps index J (omega (arith, c.requires.ready.within, c.requires.jumps.as_many)) c.index-self-index.is in
    let some : 0 < length J.rows.items = some_rows J (get_or jumps index J) c.index-self-index.is c.is_empty.result c.is_empty.ensures c.if-is_empty.false in
    let are = c.requires.jumps.each index T e J at_T (expression_there game tables index c.requires.ready) at_J in
    let few = T.few (are.narrow some) in
    let looks = c.loop-at.looks in
    let ended : length looks.looks.items ≤ c.loop-at.at = omega (arith, c.loop-at-test.false, c.len-in-loop-at.ensures, looks.looks.ok.0) in
    not_legal game e S none (alone game tables index c.requires.ready T at_T few) looks.looks.items c.loop-at.at c.loop-at.invariant.leaping ended (null ∙ c.if-table.false)
