use Rattle.std.proofs.Common.{◌≡◌, ℤ, w64, to_z, of_z, true, false, Some, None, refl, sym, ap, ◌∙◌, subst, arith, get_or}
use Rattle.std.proofs.lemmas.List.{length-map}
use Rattle.std.proofs.lemmas.Int.{to_z-of_z}
use mir.Val.{SFits}
use Rattle.rbg_game.specs.Expressions.{value_of}
use Rattle.legal_moves.specs.Plain.{IsPlain}
use Rattle.rbg_game.specs.declared.rules.Comparison.{Comparison}
use Rattle.rbg_game.specs.Meaning.{game_of, action_of, expression_of, vertex_of}
use Rattle.rbg_game.proofs.MeaningLemmas.{action_of-Shift, action_of-Comparison}
use Rattle.legal_moves.specs.Effects.{Compares, Effect}
use Rattle.legal_moves.specs.lemmas.VertexSearch.{at_vertex, IsLook}
use Rattle.legal_moves.specs.lemmas.Seen.{state_seen}
use Rattle.legal_moves.proofs.ActionLemmas.{neighbour_is}
use Rattle.legal_moves.proofs.effect.glance_where_seen.Goals as goal

-- the numbers as the machine has them
said : (op : Comparison) (x y : ℤ) → SFits w64 x → SFits w64 y → Compares op (to_z w64 (of_z w64 x)) (to_z w64 (of_z w64 y)) → Compares op x y
said op x y fits fits' h = subst (λ n. Compares op n y) (to_z-of_z w64 x fits) (subst (Compares op (to_z w64 (of_z w64 x))) (to_z-of_z w64 y fits') h)

asked : (op : Comparison) (x y : ℤ) → SFits w64 x → SFits w64 y → Compares op x y → Compares op (to_z w64 (of_z w64 x)) (to_z w64 (of_z w64 y))
asked op x y fits fits' h = subst (λ n. Compares op n (to_z w64 (of_z w64 y))) (sym (to_z-of_z w64 x fits))
    (subst (Compares op x) (sym (to_z-of_z w64 y fits')) h)

pub returns-in-Some : goal.returns-in-Some
returns-in-Some c =
    let game = c.args.game.now in
    let S = state_seen c.args.here in
    let action = ap action_of c.in-Shift.is ∙ action_of-Shift c.in-Shift.label in
    let item = subst (λ i. c.index.result.now ≡ get_or game.vertices.items i c.index.result.now) c.from.ensures c.index.ensures in
    let leads = neighbour_is game S.vertex c.in-Shift.label c.index.result.now
    (omega (arith, length-map game.vertices.items vertex_of, c.requires.state.vertex_is)) item in
    subst (λ a. Effect (game_of game) a S (at_vertex S c.in-Some.to) × IsLook (Some a)) (sym action)
    ((c.in-Some.to, leads ∙ sym c.neighbour.ensures ∙ c.in-Some.is, refl), (refl, refl))

pub returns-in-None : goal.returns-in-None
returns-in-None c =
    let game = c.args.game.now in
    let S = state_seen c.args.here in
    let action = ap action_of c.in-Shift.is ∙ action_of-Shift c.in-Shift.label in
    let item = subst (λ i. c.index.result.now ≡ get_or game.vertices.items i c.index.result.now) c.from.ensures c.index.ensures in
    let leads = neighbour_is game S.vertex c.in-Shift.label c.index.result.now
    (omega (arith, length-map game.vertices.items vertex_of, c.requires.state.vertex_is)) item in
    λ T h.
    let some = subst (λ a. Effect (game_of game) a S T) action h in
    let never : None ≡ Some some.0 = sym c.in-None.is ∙ c.neighbour.ensures ∙ sym leads ∙ some.1 in
    cc

pub returns-then-compares : goal.returns-then-compares
returns-then-compares c =
    let game = game_of c.args.game.now in
    let S = state_seen c.args.here in
    let left = c.in-Comparison.left in
    let op = c.in-Comparison.comparison in
    let right = c.in-Comparison.right in
    let action = ap action_of c.in-Comparison.is ∙ action_of-Comparison left op right in
    let x = c.value.ensures in
    let y = c.value-in-Comparison.ensures in
    let holds = said op c.value.result c.value-in-Comparison.result (record { sfits = c.value.type_inv })
    (record { sfits = c.value-in-Comparison.type_inv }) (c.compares.ensures.0 c.if-compares.true) in
    let compared = subst (λ n. Compares op n (value_of S.values.items (expression_of right))) x (subst (Compares op c.value.result) y holds) in
    subst (λ a. Effect game a S S × IsLook (Some a)) (sym action) ((refl, compared), (refl, refl))

pub returns-else-compares : goal.returns-else-compares
returns-else-compares c =
    let game = game_of c.args.game.now in
    let S = state_seen c.args.here in
    let left = c.in-Comparison.left in
    let op = c.in-Comparison.comparison in
    let right = c.in-Comparison.right in
    let action = ap action_of c.in-Comparison.is ∙ action_of-Comparison left op right in
    let x = c.value.ensures in
    let y = c.value-in-Comparison.ensures in
    λ T h.
    let effect = subst (λ a. Effect game a S T) action h in
    let holds = subst (λ n. Compares op n c.value-in-Comparison.result) (sym x)
    (subst (Compares op (value_of S.values.items (expression_of left))) (sym y) effect.1) in
    let never : true ≡ false =
    sym (c.compares.ensures.1 (asked op c.value.result c.value-in-Comparison.result (record { sfits = c.value.type_inv })
    (record { sfits = c.value-in-Comparison.type_inv }) holds)) ∙ c.if-compares.false in
    cc

pub value-requires-clause-names : goal.value-requires-clause-names
value-requires-clause-names c =
    let action = ap action_of c.in-Comparison.is ∙ action_of-Comparison c.in-Comparison.left c.in-Comparison.comparison c.in-Comparison.right in
    let plain = subst (IsPlain c.args.here.values.now) action c.requires.plain in
    plain.0.0

pub value-requires-clause-small : goal.value-requires-clause-small
value-requires-clause-small c =
    let action = ap action_of c.in-Comparison.is ∙ action_of-Comparison c.in-Comparison.left c.in-Comparison.comparison c.in-Comparison.right in
    let plain = subst (IsPlain c.args.here.values.now) action c.requires.plain in
    plain.0.1

pub value-requires-in-Comparison-clause-names : goal.value-requires-in-Comparison-clause-names
value-requires-in-Comparison-clause-names c =
    let action = ap action_of c.in-Comparison.is ∙ action_of-Comparison c.in-Comparison.left c.in-Comparison.comparison c.in-Comparison.right in
    let plain = subst (IsPlain c.args.here.values.now) action c.requires.plain in
    plain.1.0

pub value-requires-in-Comparison-clause-small : goal.value-requires-in-Comparison-clause-small
value-requires-in-Comparison-clause-small c =
    let action = ap action_of c.in-Comparison.is ∙ action_of-Comparison c.in-Comparison.left c.in-Comparison.comparison c.in-Comparison.right in
    let plain = subst (IsPlain c.args.here.values.now) action c.requires.plain in
    plain.1.1

pub index-requires : goal.index-requires
index-requires c =
    let game = c.args.game.now in
    omega (arith, length-map game.vertices.items vertex_of, c.requires.state.vertex_is, c.from.ensures, game.vertices.ok.0)
