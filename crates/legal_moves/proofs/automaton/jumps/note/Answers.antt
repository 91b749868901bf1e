use Rattle.std.proofs.Common.{◌≡◌, false, get_or, slice_index_or, refl, sym, ap, ◌∙◌, subst, arith}
use Rattle.std.proofs.lemmas.List.{length-map}
use Rattle.rbg_game.specs.Meaning.{game_of, vertex_of}
use Rattle.legal_moves.specs.Jumps.{IsShiftTo}
use Rattle.legal_moves.specs.lemmas.Configurations.{expression_at}
use Rattle.legal_moves.proofs.ActionLemmas.{neighbour_is}
use Rattle.legal_moves.proofs.automata.ReadyLemmas.{read_at, count_steps, label_there}
use Rattle.legal_moves.proofs.searches.HoldsLemmas.{last_by_mark, mark_by_last}
use Rattle.legal_moves.proofs.automata.RowLemmas.{on_ok_all, kept_other, noted_other, led_other, kept_shift, noted_shift, led_shift, noted_nowhere}
use Rattle.legal_moves.proofs.automaton.jumps.note.Goals as goal

pub step-requires-clause-upto : goal.step-requires-clause-upto
step-requires-clause-upto c =
    let game = game_of c.args.game.now in
    let tables = c.args.tables.now in
    let index = c.args.index in
    let T = c.index-tables-index.result in
    let at_T = read_at tables index T c.requires.ready.within c.index-tables-index.is in
    omega (arith, count_steps game tables index c.requires.ready T at_T, c.requires.upto)

pub returns-in_default-clause-kept : goal.returns-in_default-clause-kept
returns-in_default-clause-kept c =
    let game = game_of c.args.game.now in
    kept_other game (expression_at game c.args.index) c.args.walk.now _ c.args.vertex c.args.next c.in_ok-push.ensures.items refl refl

pub returns-in_default-clause-noted : goal.returns-in_default-clause-noted
returns-in_default-clause-noted c =
    let game = game_of c.args.game.now in
    let tables = c.args.tables.now in
    let index = c.args.index in
    let e = expression_at game index in
    let T = c.index-tables-index.result in
    let at_T = read_at tables index T c.requires.ready.within c.index-tables-index.is in
    let label = c.label.ensures ∙ label_there game tables index c.requires.ready T at_T c.args.next c.requires.from c.step.result.now c.step.ensures in
    noted_other game e c.args.walk.now _ c.args.vertex c.args.next c.in_ok-push.ensures.items refl refl (sym label ∙ c.in_default.is)

pub returns-in_default-clause-led : goal.returns-in_default-clause-led
returns-in_default-clause-led c =
    let game = game_of c.args.game.now in
    led_other game (expression_at game c.args.index) c.args.walk.now _ c.args.vertex c.args.next c.in_ok-push.ensures.items refl refl

pub returns-in_default-neighbour-clause-noted : goal.returns-in_default-neighbour-clause-noted
returns-in_default-neighbour-clause-noted c =
    let game = game_of c.args.game.now in
    let tables = c.args.tables.now in
    let index = c.args.index in
    let e = expression_at game index in
    let T = c.index-tables-index.result in
    let at_T = read_at tables index T c.requires.ready.within c.index-tables-index.is in
    let label = c.label.ensures ∙ label_there game tables index c.requires.ready T at_T c.args.next c.requires.from c.step.result.now c.step.ensures in
    let item = subst (λ i. c.index.result.now ≡ get_or c.args.game.now.vertices.items i c.index.result.now) c.from.ensures c.index.ensures in
    let leads = neighbour_is c.args.game.now c.args.vertex c.in-Some.label c.index.result.now
    (omega (arith, length-map c.args.game.now.vertices.items vertex_of, c.requires.inside)) item in
    noted_nowhere game e c.args.walk.now c.args.vertex c.args.next c.in-Some.label (sym label ∙ c.in-Some.is)
    (leads ∙ sym c.neighbour.ensures ∙ c.in_default-neighbour.is)

pub returns-clause-kept : goal.returns-clause-kept
returns-clause-kept c =
    let game = game_of c.args.game.now in
    let e = expression_at game c.args.index in
    on_ok_all c.come_to.result (kept_shift game e c.args.walk.now c.come_to.new.walk c.args.vertex c.args.next c.in-Some-neighbour.to c.is_marked-ends.result) c.come_to.ensures.met c.come_to.ensures.to c.come_to.ensures.ends

pub returns-clause-noted : goal.returns-clause-noted
returns-clause-noted c =
    let game = game_of c.args.game.now in
    let tables = c.args.tables.now in
    let index = c.args.index in
    let e = expression_at game index in
    let T = c.index-tables-index.result in
    let at_T = read_at tables index T c.requires.ready.within c.index-tables-index.is in
    let label = c.label.ensures ∙ label_there game tables index c.requires.ready T at_T c.args.next c.requires.from c.step.result.now c.step.ensures in
    let item = subst (λ i. c.index.result.now ≡ get_or c.args.game.now.vertices.items i c.index.result.now) c.from.ensures c.index.ensures in
    let leads = neighbour_is c.args.game.now c.args.vertex c.in-Some.label c.index.result.now
    (omega (arith, length-map c.args.game.now.vertices.items vertex_of, c.requires.inside)) item in
    let ends = c.is_marked-ends.ensures ∙ ap (λ xs. slice_index_or xs c.from-2.result false) c.deref.ensures.value
    ∙ ap (λ k. slice_index_or T.lasts.items k false) c.from-2.ensures in
    let s : IsShiftTo game e c.args.next c.args.vertex c.in-Some-neighbour.to =
    (c.in-Some.label, sym label ∙ c.in-Some.is, leads ∙ sym c.neighbour.ensures ∙ c.in-Some-neighbour.is) in
    on_ok_all c.come_to.result
    (λ met to same. noted_shift game e c.args.walk.now c.come_to.new.walk c.args.vertex c.args.next c.in-Some-neighbour.to c.is_marked-ends.result met to same s (λ last. ends ∙ mark_by_last game tables index c.requires.ready T at_T c.args.next last))
    c.come_to.ensures.met c.come_to.ensures.to c.come_to.ensures.ends

pub returns-clause-led : goal.returns-clause-led
returns-clause-led c =
    let game = game_of c.args.game.now in
    let tables = c.args.tables.now in
    let index = c.args.index in
    let e = expression_at game index in
    let T = c.index-tables-index.result in
    let at_T = read_at tables index T c.requires.ready.within c.index-tables-index.is in
    let label = c.label.ensures ∙ label_there game tables index c.requires.ready T at_T c.args.next c.requires.from c.step.result.now c.step.ensures in
    let item = subst (λ i. c.index.result.now ≡ get_or c.args.game.now.vertices.items i c.index.result.now) c.from.ensures c.index.ensures in
    let leads = neighbour_is c.args.game.now c.args.vertex c.in-Some.label c.index.result.now
    (omega (arith, length-map c.args.game.now.vertices.items vertex_of, c.requires.inside)) item in
    let ends = c.is_marked-ends.ensures ∙ ap (λ xs. slice_index_or xs c.from-2.result false) c.deref.ensures.value
    ∙ ap (λ k. slice_index_or T.lasts.items k false) c.from-2.ensures in
    let s : IsShiftTo game e c.args.next c.args.vertex c.in-Some-neighbour.to =
    (c.in-Some.label, sym label ∙ c.in-Some.is, leads ∙ sym c.neighbour.ensures ∙ c.in-Some-neighbour.is) in
    λ p v q led shifts next.
    on_ok_all c.come_to.result
    (λ met to same. led_shift game e c.args.walk.now c.come_to.new.walk c.args.vertex c.args.next c.in-Some-neighbour.to c.is_marked-ends.result met to same s (λ is. last_by_mark game tables index c.requires.ready T at_T c.args.next (sym ends ∙ is)) p v q led shifts next)
    c.come_to.ensures.met c.come_to.ensures.to c.come_to.ensures.ends
