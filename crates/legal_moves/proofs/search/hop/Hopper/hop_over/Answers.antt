use Rattle.std.proofs.Common.{◌≡◌, ℕ, ◌+◌, ◌<◌, ◌≤◌, ◌⊎◌, inl, inr, get_or, Some, slice_get, refl, sym, ◌∙◌, subst, arith}
use Rattle.std.proofs.lemmas.Bool.{cases_lt}
use Rattle.std.proofs.lemmas.List.{length-map}
use Rattle.std.proofs.lemmas.Option.{slice_get-get_or}
use Rattle.rbg_game.specs.Rules.{count}
use Rattle.rbg_game.specs.Meaning.{game_of}
use Rattle.rbg_game.specs.Positions.{IsStateOf}
use Rattle.legal_moves.specs.Jumps.{IsRow}
use Rattle.legal_moves.specs.lemmas.Answers.{IsAnswerAt}
use Rattle.legal_moves.specs.lemmas.Boards.{boards_in}
use Rattle.legal_moves.specs.lemmas.Configurations.{expression_at, AsksTooMuch}
use Rattle.legal_moves.specs.lemmas.Hops.{IsGoneOver, AreCounted}
use Rattle.legal_moves.specs.lemmas.Progress.{began, state_at, IsTriedFrom}
use Rattle.legal_moves.specs.lemmas.Stands.{stood, configurations_of}
use Rattle.legal_moves.specs.lemmas.VertexSearch.{at_vertex}
use Rattle.legal_moves.specs.declared.automaton.jumps.Jump.{Jump}
use Rattle.legal_moves.proofs.GetLemmas.{slice_get-within}
use Rattle.legal_moves.proofs.Exits.{refused}
use Rattle.legal_moves.proofs.automata.ReadyLemmas.{read_at}
use Rattle.legal_moves.proofs.searches.AttemptLemmas.{state_there, state_of}
use Rattle.legal_moves.proofs.searches.ExpandLemmas.{number_from, number_upto}
use Rattle.legal_moves.proofs.searches.FoundLemmas.{same_at}
use Rattle.legal_moves.proofs.searches.HopLemmas.{looked_up_within, over_still, place_within, state_there as state_at_jump, hop_tried, hopping_next, hopped_by_row, counted_by_row}
use Rattle.legal_moves.proofs.searches.LeapLemmas.{row_inside}
use Rattle.legal_moves.proofs.searches.StandLemmas.{stood_at}
use Rattle.legal_moves.proofs.search.hop.Hopper.hop_over.Goals as goal

pub index-requires : goal.index-requires
index-requires c = omega (arith, c.args.found.now.stands.ok.0, c.requires.at)

pub row-row-requires-clause-inside : goal.row-row-requires-clause-inside
row-row-requires-clause-inside c =
    let game = game_of c.args.self.now.searcher.game.now in
    let e = expression_at game c.args.index in
    let place = c.args.place in
    let at = c.args.at in
    let old = c.args.found.now in
    let bs = boards_in old.boards in
    let cs = configurations_of old in
    let s = c.index.result.now in
    let at_s = read_at old.stands.items at s c.requires.at c.index.ensures in
    let b = stood bs s in
    let at_b = stood_at bs old.stands.items at s at_s in
    let met = c.requires.hopping.met at b at_b in
    let low = place_within game e place (began cs) met.0 b.at.state s.place met.1 in
    row_inside game e c.args.self.now.rows.now c.requires.rows c.requires.some c.looked_up.result s.vertex
    (omega (arith, c.looked_up.ensures, looked_up_within place s.place (count e) c.requires.place low)) (c.requires.hopping.states_are at b at_b).vertex_is

pub hop_on-requires-clause-at : goal.hop_on-requires-clause-at
hop_on-requires-clause-at c =
    let game = game_of c.args.self.now.searcher.game.now in
    let e = expression_at game c.args.index in
    let place = c.args.place in
    let at = c.args.at in
    let old = c.args.found.now in
    let bs = boards_in old.boards in
    let cs = configurations_of old in
    let s = c.index.result.now in
    let at_s = read_at old.stands.items at s c.requires.at c.index.ensures in
    let b = stood bs s in
    let at_b = stood_at bs old.stands.items at s at_s in
    let plain = c.requires.plain b at_b in
    let here_is : state_at cs at ≡ b.at.state = state_there bs old.stands.items at s at_s in
    let row = c.row-row.result.now in
    let inside = (c.requires.hopping.states_are at b at_b).vertex_is in
    let is_row = subst (λ p. IsRow game e p s.vertex row) c.looked_up.ensures
    (c.requires.rows.each c.looked_up.result s.vertex row inside c.row-row.ensures) in
    let now = c.loop-jump.found in
    let inside = slice_get-within (configurations_of now) at b (c.loop-jump.invariant.still at b at_b) in
    omega (arith, inside, length-map now.stands.items (stood (boards_in now.boards)))

pub hop_on-requires-clause-state : goal.hop_on-requires-clause-state
hop_on-requires-clause-state c =
    let game = game_of c.args.self.now.searcher.game.now in
    let e = expression_at game c.args.index in
    let place = c.args.place in
    let at = c.args.at in
    let old = c.args.found.now in
    let bs = boards_in old.boards in
    let cs = configurations_of old in
    let s = c.index.result.now in
    let at_s = read_at old.stands.items at s c.requires.at c.index.ensures in
    let b = stood bs s in
    let at_b = stood_at bs old.stands.items at s at_s in
    let plain = c.requires.plain b at_b in
    let here_is : state_at cs at ≡ b.at.state = state_there bs old.stands.items at s at_s in
    let row = c.row-row.result.now in
    let inside = (c.requires.hopping.states_are at b at_b).vertex_is in
    let is_row = subst (λ p. IsRow game e p s.vertex row) c.looked_up.ensures
    (c.requires.rows.each c.looked_up.result s.vertex row inside c.row-row.ensures) in
    let items = c.deref-jump-items.result.now in
    let items_are : items ≡ row.to.items = c.deref-jump-items.ensures.value in
    let n = c.loop-jump.jump-index in
    let first : Jump = record { number = 0; vertex = 0 } in
    let j = get_or items n first in
    let at_items = slice_get-get_or items n first c.loop-jump-test.true in
    let at_j = subst (λ xs. slice_get xs n ≡ Some j) items_are at_items in
    let led = is_row.only j.number j.vertex (n, j, at_j, refl, refl) in
    let now = configurations_of c.loop-jump.found in
    let now_b = c.loop-jump.invariant.still at b at_b in
    let S = began cs in
    subst (λ T. IsStateOf game (at_vertex T j.vertex)) (sym (state_of now at b now_b))
    (state_at_jump game e place S cs at b c.requires.hopping at_b plain c.requires.ready.sound c.requires.ready.expression_is led.0 j.vertex led.1)

pub hop_on-requires-clause-from : goal.hop_on-requires-clause-from
hop_on-requires-clause-from c =
    let game = game_of c.args.self.now.searcher.game.now in
    let e = expression_at game c.args.index in
    let place = c.args.place in
    let at = c.args.at in
    let old = c.args.found.now in
    let bs = boards_in old.boards in
    let cs = configurations_of old in
    let s = c.index.result.now in
    let at_s = read_at old.stands.items at s c.requires.at c.index.ensures in
    let b = stood bs s in
    let at_b = stood_at bs old.stands.items at s at_s in
    let plain = c.requires.plain b at_b in
    let here_is : state_at cs at ≡ b.at.state = state_there bs old.stands.items at s at_s in
    let row = c.row-row.result.now in
    let inside = (c.requires.hopping.states_are at b at_b).vertex_is in
    let is_row = subst (λ p. IsRow game e p s.vertex row) c.looked_up.ensures
    (c.requires.rows.each c.looked_up.result s.vertex row inside c.row-row.ensures) in
    let items = c.deref-jump-items.result.now in
    let items_are : items ≡ row.to.items = c.deref-jump-items.ensures.value in
    let n = c.loop-jump.jump-index in
    let first : Jump = record { number = 0; vertex = 0 } in
    let j = get_or items n first in
    let at_items = slice_get-get_or items n first c.loop-jump-test.true in
    let at_j = subst (λ xs. slice_get xs n ≡ Some j) items_are at_items in
    let led = is_row.only j.number j.vertex (n, j, at_j, refl, refl) in
    let now = configurations_of c.loop-jump.found in
    let now_b = c.loop-jump.invariant.still at b at_b in
    let S = began cs in
    number_from e led.0 j.number led.2

pub hop_on-requires-clause-upto : goal.hop_on-requires-clause-upto
hop_on-requires-clause-upto c =
    let game = game_of c.args.self.now.searcher.game.now in
    let e = expression_at game c.args.index in
    let place = c.args.place in
    let at = c.args.at in
    let old = c.args.found.now in
    let bs = boards_in old.boards in
    let cs = configurations_of old in
    let s = c.index.result.now in
    let at_s = read_at old.stands.items at s c.requires.at c.index.ensures in
    let b = stood bs s in
    let at_b = stood_at bs old.stands.items at s at_s in
    let plain = c.requires.plain b at_b in
    let here_is : state_at cs at ≡ b.at.state = state_there bs old.stands.items at s at_s in
    let row = c.row-row.result.now in
    let inside = (c.requires.hopping.states_are at b at_b).vertex_is in
    let is_row = subst (λ p. IsRow game e p s.vertex row) c.looked_up.ensures
    (c.requires.rows.each c.looked_up.result s.vertex row inside c.row-row.ensures) in
    let items = c.deref-jump-items.result.now in
    let items_are : items ≡ row.to.items = c.deref-jump-items.ensures.value in
    let n = c.loop-jump.jump-index in
    let first : Jump = record { number = 0; vertex = 0 } in
    let j = get_or items n first in
    let at_items = slice_get-get_or items n first c.loop-jump-test.true in
    let at_j = subst (λ xs. slice_get xs n ≡ Some j) items_are at_items in
    let led = is_row.only j.number j.vertex (n, j, at_j, refl, refl) in
    let now = configurations_of c.loop-jump.found in
    let now_b = c.loop-jump.invariant.still at b at_b in
    let S = began cs in
    number_upto e led.0 j.number led.2

pub hop_on-requires-clause-known : goal.hop_on-requires-clause-known
hop_on-requires-clause-known c =
    let game = game_of c.args.self.now.searcher.game.now in
    let at = c.args.at in
    let old = c.args.found.now in
    let bs = boards_in old.boards in
    let cs = configurations_of old in
    let s = c.index.result.now in
    let at_s = read_at old.stands.items at s c.requires.at c.index.ensures in
    let b = stood bs s in
    let at_b = stood_at bs old.stands.items at s at_s in
    let here_is : state_at cs at ≡ b.at.state = state_there bs old.stands.items at s at_s in
    let now = configurations_of c.loop-jump.found in
    let now_is : state_at now at ≡ b.at.state = state_of now at b (c.loop-jump.invariant.still at b at_b) in
    let items = c.deref-jump-items.result.now in
    let first : Jump = record { number = 0; vertex = 0 } in
    let j = get_or items c.loop-jump.jump-index first in
    subst (λ T. IsAnswerAt game (at_vertex T j.vertex) c.ask_at.new.known) (here_is ∙ sym now_is)
    (c.ask_at.ensures.known game (state_at cs at) c.loop-jump.invariant.known)

pub loop-jump-preserved : goal.loop-jump-preserved
loop-jump-preserved c =
    let game = game_of c.args.self.now.searcher.game.now in
    let e = expression_at game c.args.index in
    let place = c.args.place in
    let at = c.args.at in
    let old = c.args.found.now in
    let bs = boards_in old.boards in
    let cs = configurations_of old in
    let s = c.index.result.now in
    let at_s = read_at old.stands.items at s c.requires.at c.index.ensures in
    let b = stood bs s in
    let at_b = stood_at bs old.stands.items at s at_s in
    let plain = c.requires.plain b at_b in
    let here_is : state_at cs at ≡ b.at.state = state_there bs old.stands.items at s at_s in
    let row = c.row-row.result.now in
    let inside = (c.requires.hopping.states_are at b at_b).vertex_is in
    let is_row = subst (λ p. IsRow game e p s.vertex row) c.looked_up.ensures
    (c.requires.rows.each c.looked_up.result s.vertex row inside c.row-row.ensures) in
    let items = c.deref-jump-items.result.now in
    let items_are : items ≡ row.to.items = c.deref-jump-items.ensures.value in
    let n = c.loop-jump.jump-index in
    let first : Jump = record { number = 0; vertex = 0 } in
    let j = get_or items n first in
    let at_items = slice_get-get_or items n first c.loop-jump-test.true in
    let at_j = subst (λ xs. slice_get xs n ≡ Some j) items_are at_items in
    let led = is_row.only j.number j.vertex (n, j, at_j, refl, refl) in
    let now = configurations_of c.loop-jump.found in
    let now_b = c.loop-jump.invariant.still at b at_b in
    let S = began cs in
    let new = configurations_of c.hop_on.new.found in
    let now_is : state_at now at ≡ b.at.state = state_of now at b now_b in
    let narrow = subst (λ T. ¬ AsksTooMuch game e j.number (at_vertex T j.vertex)) now_is (c.in_ok-hop_on.ensures.narrow refl) in
    let tried = subst (λ T. IsTriedFrom game e j.number (at_vertex T j.vertex) at now new) now_is c.in_ok-hop_on.ensures.tried in
    let t = hop_tried game e place S now at b c.loop-jump.invariant.hopping now_b plain c.requires.ready.sound c.requires.ready.expression_is
    led.0 j.vertex led.1 j.number led.2 new narrow tried in
    let here = state_at cs at in
    let all : (i : ℕ) (k : Jump) → (i < n) ⊎ (n ≤ i) → i < n + 1 → slice_get items i ≡ Some k
    → IsGoneOver game e new (at_vertex here k.vertex) k.number = λ i k either less at_k. elim either [
      | inl low ↦ over_still game e place S now new t.stays (at_vertex here k.vertex) k.number (c.loop-jump.invariant.over i k low at_k)
      | inr high ↦
          let same_i : n ≡ i = omega (arith, high, less) in
          let one : j ≡ k = same_at items i j k (subst (λ m. slice_get items m ≡ Some j) same_i at_items) at_k in
          subst (λ (x : Jump). IsGoneOver game e new (at_vertex here x.vertex) x.number) one
          (subst (λ T. IsGoneOver game e new (at_vertex T j.vertex) j.number) (sym here_is) t.over)
    ] in
    record {
      kept = c.in_ok-hop_on.ensures.kept;
      shown = c.in_ok-hop_on.ensures.shown;
      still = λ i x at_x. t.stays i x (c.loop-jump.invariant.still i x at_x);
      hopping = t.goes;
      known = subst (λ v. IsAnswerAt game (at_vertex here v) c.hop_on.new.known) (sym c.ask_at.ensures.asked)
          (subst (λ T. IsAnswerAt game (at_vertex T j.vertex) c.hop_on.new.known) (now_is ∙ sym here_is) c.in_ok-hop_on.ensures.known);
      over = λ i k less at_k. all i k (cases_lt i n) less at_k;
    }

pub returns-clause-hopping : goal.returns-clause-hopping
returns-clause-hopping c =
    let game = game_of c.args.self.now.searcher.game.now in
    let e = expression_at game c.args.index in
    let place = c.args.place in
    let at = c.args.at in
    let old = c.args.found.now in
    let bs = boards_in old.boards in
    let cs = configurations_of old in
    let s = c.index.result.now in
    let at_s = read_at old.stands.items at s c.requires.at c.index.ensures in
    let b = stood bs s in
    let at_b = stood_at bs old.stands.items at s at_s in
    let plain = c.requires.plain b at_b in
    let here_is : state_at cs at ≡ b.at.state = state_there bs old.stands.items at s at_s in
    let row = c.row-row.result.now in
    let inside = (c.requires.hopping.states_are at b at_b).vertex_is in
    let is_row = subst (λ p. IsRow game e p s.vertex row) c.looked_up.ensures
    (c.requires.rows.each c.looked_up.result s.vertex row inside c.row-row.ensures) in
    let items = c.deref-jump-items.result.now in
    let items_are : items ≡ row.to.items = c.deref-jump-items.ensures.value in
    let now = configurations_of c.loop-jump.found in
    hopping_next game e place (began cs) now at c.loop-jump.invariant.hopping b (c.loop-jump.invariant.still at b at_b)
    (hopped_by_row game e place (began cs) now b row is_row
    (λ i j at_j. let at_items = subst (λ xs. slice_get xs i ≡ Some j) (sym items_are) at_j in
    subst (λ T. IsGoneOver game e now (at_vertex T j.vertex) j.number) here_is
    (c.loop-jump.invariant.over i j (omega (arith, slice_get-within items i j at_items, c.loop-jump-test.false)) at_items)))

pub returns-clause-counted : goal.returns-clause-counted
returns-clause-counted c =
    let game = game_of c.args.self.now.searcher.game.now in
    let e = expression_at game c.args.index in
    let place = c.args.place in
    let at = c.args.at in
    let old = c.args.found.now in
    let bs = boards_in old.boards in
    let cs = configurations_of old in
    let s = c.index.result.now in
    let at_s = read_at old.stands.items at s c.requires.at c.index.ensures in
    let b = stood bs s in
    let at_b = stood_at bs old.stands.items at s at_s in
    let plain = c.requires.plain b at_b in
    let here_is : state_at cs at ≡ b.at.state = state_there bs old.stands.items at s at_s in
    let row = c.row-row.result.now in
    let inside = (c.requires.hopping.states_are at b at_b).vertex_is in
    let is_row = subst (λ p. IsRow game e p s.vertex row) c.looked_up.ensures
    (c.requires.rows.each c.looked_up.result s.vertex row inside c.row-row.ensures) in
    λ d at_d. subst (λ x. AreCounted game e place x row.met) (same_at cs at b d at_b at_d) (counted_by_row game e place (began cs) b row is_row plain)

pub returns-in_err-hop_on-clause-kept : goal.returns-in_err-hop_on-clause-kept
returns-in_err-hop_on-clause-kept c = refused _ c.from_residual.result _ c.from_residual.ensures.1

pub returns-in_err-hop_on-clause-still : goal.returns-in_err-hop_on-clause-still
returns-in_err-hop_on-clause-still c = refused _ c.from_residual.result _ c.from_residual.ensures.1

pub returns-in_err-hop_on-clause-hopping : goal.returns-in_err-hop_on-clause-hopping
returns-in_err-hop_on-clause-hopping c = refused _ c.from_residual.result _ c.from_residual.ensures.1

pub returns-in_err-hop_on-clause-counted : goal.returns-in_err-hop_on-clause-counted
returns-in_err-hop_on-clause-counted c = refused _ c.from_residual.result _ c.from_residual.ensures.1

pub returns-in_err-hop_on-clause-shown : goal.returns-in_err-hop_on-clause-shown
returns-in_err-hop_on-clause-shown c = refused _ c.from_residual.result _ c.from_residual.ensures.1
