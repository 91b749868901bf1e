use Rattle.std.proofs.Common.{◌≡◌, true, false, slice_index_or, Err, sym, ap, ◌∙◌, subst, arith}
use Rattle.rbg_game.specs.Meaning.{game_of}
use Rattle.legal_moves.specs.Glushkov.{IsLast}
use Rattle.legal_moves.specs.lemmas.Configurations.{expression_at}
use Rattle.legal_moves.specs.lemmas.Leaps.{opened, IsLookAt}
use Rattle.legal_moves.specs.lemmas.VertexSearch.{at_vertex}
use Rattle.legal_moves.specs.declared.search.looks.Look.{Look}
use Rattle.legal_moves.proofs.EffectLemmas.{EffectAt-functional}
use Rattle.legal_moves.proofs.searches.ExpandLemmas.{number_from, number_upto}
use Rattle.legal_moves.proofs.Faults.{passed}
use Rattle.legal_moves.proofs.searches.FoundLemmas.{count_whole}
use Rattle.legal_moves.proofs.searches.HoldsLemmas.{none_switches, last_by_mark, mark_by_last}
use Rattle.legal_moves.proofs.searches.LeapLemmas.{met_by_before, legal_by_end, still_there, added_there, leaping_added, leaping_wide}
use Rattle.legal_moves.proofs.automata.ReadyLemmas.{read_at}
use Rattle.legal_moves.proofs.automata.StepLemmas.{EffectAt-keeps}
use Rattle.legal_moves.proofs.search.searcher.Searcher.jump_on.Goals as goal

pub leads_to-requires-clause-from : goal.leads_to-requires-clause-from
leads_to-requires-clause-from c =
    let game = game_of c.args.self.now.game.now in
    let tables = c.args.self.now.tables.now in
    let index = c.args.index in
    let e = expression_at game index in
    let number = c.args.jump.number in
    let before = c.requires.before in
    number_from e before.0 number before.2

pub leads_to-requires-clause-upto : goal.leads_to-requires-clause-upto
leads_to-requires-clause-upto c =
    let game = game_of c.args.self.now.game.now in
    let tables = c.args.self.now.tables.now in
    let index = c.args.index in
    let e = expression_at game index in
    let number = c.args.jump.number in
    let before = c.requires.before in
    number_upto e before.0 number before.2

pub returns-then-is_marked-clause-leaping : goal.returns-then-is_marked-clause-leaping
returns-then-is_marked-clause-leaping c =
    let game = game_of c.args.self.now.game.now in
    let tables = c.args.self.now.tables.now in
    let index = c.args.index in
    let e = expression_at game index in
    let number = c.args.jump.number in
    let before = c.requires.before in
    let none = none_switches e c.requires.lacks in
    let ls = c.args.looks.now.looks.items in
    let S = at_vertex c.args.state.now (opened ls) in
    let from = c.args.jump.vertex in
    let to = c.in-Some.vertex in
    let step = c.in-Some.ensures.some in
    let met = met_by_before game e S none number from to before step in
    let T = c.index-self-index.result in
    let at_T = read_at tables index T c.requires.ready.within c.index-self-index.is in
    let lasts = c.deref.ensures.value ∙ ap (λ x. x.lasts.items) (sym c.index-self-index.is) in
    let mark = c.is_marked.ensures ∙ ap (λ xs. slice_index_or xs c.from.result false) lasts ∙ ap (λ k. slice_index_or T.lasts.items k false) c.from.ensures in
    legal_by_end game e S none number to met (last_by_mark game tables index c.requires.ready T at_T number (sym mark ∙ c.if-is_marked.true))

pub add-requires-clause-few : goal.add-requires-clause-few
add-requires-clause-few c =
    let e = expression_at (game_of c.args.self.now.game.now) c.args.index in
    omega (arith, c.requires.marked.numbers_are, count_whole e, c.requires.ready.small)

pub add-requires-clause-within : goal.add-requires-clause-within
add-requires-clause-within c =
    let game = game_of c.args.self.now.game.now in
    let tables = c.args.self.now.tables.now in
    let index = c.args.index in
    let e = expression_at game index in
    let number = c.args.jump.number in
    let before = c.requires.before in
    omega (arith, c.requires.marked.numbers_are, number_upto e before.0 number before.2)

pub returns-in_err-add-clause-wide : goal.returns-in_err-add-clause-wide
returns-in_err-add-clause-wide c =
    let game = game_of c.args.self.now.game.now in
    let tables = c.args.self.now.tables.now in
    let index = c.args.index in
    let e = expression_at game index in
    let number = c.args.jump.number in
    let before = c.requires.before in
    let none = none_switches e c.requires.lacks in
    let ls = c.args.looks.now.looks.items in
    let S = at_vertex c.args.state.now (opened ls) in
    let from = c.args.jump.vertex in
    let to = c.in-Some.vertex in
    let step = c.in-Some.ensures.some in
    let met = met_by_before game e S none number from to before step in
    let T = c.index-self-index.result in
    let at_T = read_at tables index T c.requires.ready.within c.index-self-index.is in
    let lasts = c.deref.ensures.value ∙ ap (λ x. x.lasts.items) (sym c.index-self-index.is) in
    let mark = c.is_marked.ensures ∙ ap (λ xs. slice_index_or xs c.from.result false) lasts ∙ ap (λ k. slice_index_or T.lasts.items k false) c.from.ensures in
    let more : Look = record { vertex = to; place = number; parent = c.args.at } in
    let there = EffectAt-keeps game e number (at_vertex S from) (at_vertex S to) c.requires.ready.sound c.requires.ready.expression_is c.requires.inside step in
    λ wide.
    let fault = passed c.from_residual.result c.in_err-add.field-0.0 c.from_residual.ensures.1 wide in
    let too_many = c.in_err-add.ensures.wide (ap Err fault) in
    leaping_wide game e S none ls c.args.at c.requires.leaping more met there.vertex_is too_many.0 too_many.1

pub returns-clause-still : goal.returns-clause-still
returns-clause-still c =
    let more : Look = record { vertex = c.in-Some.vertex; place = c.args.jump.number; parent = c.args.at } in
    still_there c.args.looks.now.looks.items c.add.new.self.looks.items more c.in_ok-add.ensures.added

pub returns-clause-leaping : goal.returns-clause-leaping
returns-clause-leaping c =
    let game = game_of c.args.self.now.game.now in
    let tables = c.args.self.now.tables.now in
    let index = c.args.index in
    let e = expression_at game index in
    let number = c.args.jump.number in
    let before = c.requires.before in
    let none = none_switches e c.requires.lacks in
    let ls = c.args.looks.now.looks.items in
    let S = at_vertex c.args.state.now (opened ls) in
    let from = c.args.jump.vertex in
    let to = c.in-Some.vertex in
    let step = c.in-Some.ensures.some in
    let met = met_by_before game e S none number from to before step in
    let T = c.index-self-index.result in
    let at_T = read_at tables index T c.requires.ready.within c.index-self-index.is in
    let lasts = c.deref.ensures.value ∙ ap (λ x. x.lasts.items) (sym c.index-self-index.is) in
    let mark = c.is_marked.ensures ∙ ap (λ xs. slice_index_or xs c.from.result false) lasts ∙ ap (λ k. slice_index_or T.lasts.items k false) c.from.ensures in
    let more : Look = record { vertex = to; place = number; parent = c.args.at } in
    let there = EffectAt-keeps game e number (at_vertex S from) (at_vertex S to) c.requires.ready.sound c.requires.ready.expression_is c.requires.inside step in
    let ls' = c.add.new.self.looks.items in
    let added = c.in_ok-add.ensures.added in
    let plain : ¬ IsLast e 1 number = λ last. let never : true ≡ false = sym
    (mark_by_last game tables index c.requires.ready T at_T number last) ∙ sym mark ∙ c.if-is_marked.false in absurd (cc) in (
      leaping_added game e S none ls c.args.at c.requires.leaping more met there.vertex_is ls' plain added,
      λ U step'. let same = EffectAt-functional game e 1 number (at_vertex S from) (at_vertex S to) U step step' in
          subst (λ X. IsLookAt ls' number X.vertex) same (added_there ls ls' more added),
    )
