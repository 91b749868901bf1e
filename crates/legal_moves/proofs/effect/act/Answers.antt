use Rattle.std.proofs.Common.{◌≡◌, ℕ, ℤ, Bool, true, false, List, nat_eq, Contains, Some, None, refl, sym, ap, ◌∙◌, subst, arith, get_or, slice_set, slice_index, length, pos, nat_abs, w64, to_z, of_z}
use Rattle.std.proofs.lemmas.List.{length-map}
use Rattle.rbg_game.specs.Meaning.{game_of, action_of, vertex_of, variable_of, expression_of}
use Rattle.legal_moves.specs.Effects.{Compares, Effect}
use Rattle.rbg_game.specs.declared.rules.Comparison.{Comparison}
use Rattle.rbg_game.specs.declared.position.SemiState.{SemiState}
use Rattle.rbg_game.proofs.MeaningLemmas.{action_of-Shift, action_of-On, action_of-Off, action_of-Assignment, action_of-Comparison, action_of-Switch}
use Rattle.legal_moves.proofs.ActionLemmas.{neighbour_is, bound_is, refill-set, contains, OnTrue-along, assigns, not_below, not_above}
use Rattle.legal_moves.specs.Plain.{IsPlain}
use Rattle.rbg_game.specs.Expressions.{value_of, NamesBelow, HasSmallParts}
use Rattle.std.specs.List.{refill, IsAnyAnswer}
use Rattle.std.specs.Bool.{OnTrue, OnFalse}
use Rattle.std.proofs.lemmas.Int.{to_z-of_z}
use Rattle.std.proofs.lemmas.Bool.{eqb-false}
use lib.Signed.{le_z}
use mir.Val.{SFits}
use Rattle.legal_moves.proofs.effect.act.Goals as goal
use Rattle.legal_moves.proofs.effect.act.Goals.{else-n-ge0-via-then-n-ge0+else-n-from, else-n-ge0-via-else-n-ge0}

-- what holds anyhow
anyhow : {P : Type 0} (r : Bool) → P → OnFalse r P
anyhow true h = tt
anyhow false h = h

-- what holds where the test says so
when_true : {P : Type 0} (r : Bool) → (r ≡ true → P) → OnTrue r P
when_true true h = h refl
when_true false h = tt

when_false : {P : Type 0} (r : Bool) → (r ≡ false → P) → OnFalse r P
when_false true h = tt
when_false false h = h refl

OnFalse-along : (r : Bool) (P Q : Type 0) → (P → Q) → OnFalse r P → OnFalse r Q
OnFalse-along true P Q f h = tt
OnFalse-along false P Q f h = f h

-- the numbers as the machine has them
said : (op : Comparison) (x y : ℤ) → SFits w64 x → SFits w64 y → Compares op (to_z w64 (of_z w64 x)) (to_z w64 (of_z w64 y)) → Compares op x y
said op x y fits fits' h = subst (λ n. Compares op n y) (to_z-of_z w64 x fits) (subst (Compares op (to_z w64 (of_z w64 x))) (to_z-of_z w64 y fits') h)

asked : (op : Comparison) (x y : ℤ) → SFits w64 x → SFits w64 y → Compares op x y → Compares op (to_z w64 (of_z w64 x)) (to_z w64 (of_z w64 y))
asked op x y fits fits' h = subst (λ n. Compares op n (to_z w64 (of_z w64 y))) (sym (to_z-of_z w64 x fits))
    (subst (Compares op x) (sym (to_z-of_z w64 y fits')) h)

lacks : (xs : List ℕ) (x : ℕ) (r : Bool) → IsAnyAnswer (λ y b. nat_eq y x ≡ b) xs r → OnFalse r (¬ Contains xs x)
lacks xs x true h = tt
lacks xs x false h = λ k. eqb-false (get_or xs k.0 x) x (h k.0 x (omega arith) k.1) k.2

pub returns-in-Some-clause-valid : goal.returns-in-Some-clause-valid
returns-in-Some-clause-valid c =
    let game = c.args.game.now in
    let S = c.args.state.now in
    let action = ap action_of c.in-Shift.is ∙ action_of-Shift c.in-Shift.label in
    let item = subst (λ i. c.index.result.now ≡ get_or game.vertices.items i c.index.result.now) c.from.ensures c.index.ensures in
    let leads = neighbour_is game S.vertex c.in-Shift.label c.index.result.now
    (omega (arith, length-map game.vertices.items vertex_of, c.requires.state.vertex_is)) item in
    subst (λ a. Effect (game_of game) a S (record S { vertex = c.in-Some.to })) (sym action)
    (c.in-Some.to, leads ∙ sym c.neighbour.ensures ∙ c.in-Some.is, refl)

pub returns-in-None-clause-refused : goal.returns-in-None-clause-refused
returns-in-None-clause-refused c =
    let game = c.args.game.now in
    let S = c.args.state.now in
    let action = ap action_of c.in-Shift.is ∙ action_of-Shift c.in-Shift.label in
    let item = subst (λ i. c.index.result.now ≡ get_or game.vertices.items i c.index.result.now) c.from.ensures c.index.ensures in
    let leads = neighbour_is game S.vertex c.in-Shift.label c.index.result.now
    (omega (arith, length-map game.vertices.items vertex_of, c.requires.state.vertex_is)) item in
    λ T h.
    let some = subst (λ a. Effect (game_of game) a S T) action h in
    let never : None ≡ Some some.0 = sym c.in-None.is ∙ c.neighbour.ensures ∙ sym leads ∙ some.1 in
    cc

pub returns-in-On-clause-valid : goal.returns-in-On-clause-valid
returns-in-On-clause-valid c =
    let game = c.args.game.now in
    let S = c.args.state.now in
    let action = ap action_of c.in-On.is ∙ action_of-On c.in-On.pieces in
    OnTrue-along c.contains.result (Contains c.deref.result.now (get_or c.deref-in-On.result.now c.from-in-On.result 0))
    (Effect (game_of game) (action_of c.args.action.now) S S)
    (λ h. subst (λ a. Effect (game_of game) a S S) (sym action) (
      refl,
      subst (λ xs. Contains xs (slice_index S.pieces.items S.vertex)) c.deref.ensures.value
          (subst (λ ys. Contains c.deref.result.now (get_or ys S.vertex 0)) c.deref-in-On.ensures.0
          (subst (λ i. Contains c.deref.result.now (get_or c.deref-in-On.result.now i 0)) c.from-in-On.ensures h)),
    ))
    (contains c.deref.result.now (get_or c.deref-in-On.result.now c.from-in-On.result 0) c.contains.result c.contains.ensures.cases)

pub returns-in-Off-clause-valid : goal.returns-in-Off-clause-valid
returns-in-Off-clause-valid c =
    let game = c.args.game.now in
    let S = c.args.state.now in
    let action = ap action_of c.in-Off.is ∙ action_of-Off c.in-Off.piece in
    let written = refill-set S.pieces.items c.deref_mut.result.now c.from-in-Off.result c.in-Off.piece c.deref_mut.ensures.value
    ∙ ap (λ i. slice_set S.pieces.items i c.in-Off.piece) c.from-in-Off.ensures in
    subst (λ xs. Effect (game_of game) (action_of c.args.action.now) S (record S { pieces = record { items = xs } })) (sym written)
    (subst (λ a. Effect (game_of game) a S (record S { pieces = record { items = slice_set S.pieces.items S.vertex c.in-Off.piece } })) (sym action) refl)

pub returns-then-n-from-clause-valid : goal.returns-then-n-from-clause-valid
returns-then-n-from-clause-valid c =
    let game = c.args.game.now in
    let S = c.args.state.now in
    let v = c.in-Assignment.variable in
    let e = expression_of c.in-Assignment.right in
    let action = ap action_of c.in-Assignment.is ∙ action_of-Assignment v c.in-Assignment.right in
    let fits : SFits w64 c.value-n.result = record { sfits = c.value-n.type_inv } in
    let is = c.value-n.ensures ∙ ap (λ xs. value_of xs e) c.deref-in-Assignment.ensures.0 in
    let plain = subst (IsPlain S.values.items) action c.requires.plain in
    let item = subst (λ i. c.index-in-Assignment.result.now ≡ get_or game.variables.items i c.index-in-Assignment.result.now) c.from-in-Assignment.ensures c.index-in-Assignment.ensures in
    let bound = bound_is game v c.index-in-Assignment.result.now
    (omega (arith, length-map game.variables.items variable_of, c.requires.state.values_fit, plain.0)) item in
    let cap_fits : SFits w64 c.from-then-n-ge0.result = record { sfits = c.from-then-n-ge0.type_inv } in
    let cap : to_z w64 (of_z w64 c.from-then-n-ge0.result) ≡ c.from-then-n-ge0.result = to_z-of_z w64 c.from-then-n-ge0.result cap_fits in
    let written = refill-set S.values.items c.deref_mut-then-n-from.result.now c.from-then-n-from.result
    (nat_abs (to_z w64 (of_z w64 c.value-n.result))) c.deref_mut-then-n-from.ensures.value
    ∙ ap (λ i. slice_set S.values.items i (nat_abs (to_z w64 (of_z w64 c.value-n.result)))) c.from-then-n-from.ensures in
    subst (λ a. Effect (game_of game) a S
    (record S {
      values = record {
        items = refill (length S.values.items) S.values.items
            (slice_set c.deref_mut-then-n-from.result.now c.from-then-n-from.result (nat_abs (to_z w64 (of_z w64 c.value-n.result))));
      };
    })) (sym action)
    (assigns (game_of game) S v e c.value-n.result c.from-then-n-ge0.result _ fits is c.if-n-ge0.true
    (subst (λ b. le_z (to_z w64 (of_z w64 c.value-n.result)) b ≡ true) cap c.if-n-from.true) (c.from-then-n-ge0.ensures ∙ ap pos (sym bound)) written)

pub returns-else-n-ge0-clause-refused : goal.returns-else-n-ge0-clause-refused
returns-else-n-ge0-clause-refused c =
    let game = c.args.game.now in
    let S = c.args.state.now in
    let v = c.in-Assignment.variable in
    let e = expression_of c.in-Assignment.right in
    let action = ap action_of c.in-Assignment.is ∙ action_of-Assignment v c.in-Assignment.right in
    let fits : SFits w64 c.value-n.result = record { sfits = c.value-n.type_inv } in
    let same : to_z w64 (of_z w64 c.value-n.result) ≡ c.value-n.result = to_z-of_z w64 c.value-n.result fits in
    let is = same ∙ c.value-n.ensures ∙ ap (λ xs. value_of xs e) c.deref-in-Assignment.ensures.0 in
    let plain = subst (IsPlain S.values.items) action c.requires.plain in
    let item = subst (λ i. c.index-in-Assignment.result.now ≡ get_or game.variables.items i c.index-in-Assignment.result.now) c.from-in-Assignment.ensures c.index-in-Assignment.ensures in
    let bound = bound_is game v c.index-in-Assignment.result.now
    (omega (arith, length-map game.variables.items variable_of, c.requires.state.values_fit, plain.0)) item in
    λ T h.
    let effect = subst (λ a. Effect (game_of game) a S T) action h in
    elim c.else-n-ge0.branch [
      | else-n-ge0-via-then-n-ge0+else-n-from w ↦ not_above (game_of game) S v e (to_z w64 (of_z w64 c.value-n.result)) T is effect
          (subst (λ b. le_z (to_z w64 (of_z w64 c.value-n.result)) b ≡ false)
          (to_z-of_z w64 w.from-then-n-ge0.result (record { sfits = w.from-then-n-ge0.type_inv }) ∙ w.from-then-n-ge0.ensures
          ∙ ap pos (sym bound)) w.if-n-from.false)
      | else-n-ge0-via-else-n-ge0 w ↦ not_below (game_of game) S v e (to_z w64 (of_z w64 c.value-n.result)) T is effect w.if-n-ge0.false
    ]

pub returns-in-Some-clause-unchanged : goal.returns-in-Some-clause-unchanged
returns-in-Some-clause-unchanged c = tt

pub returns-in-Some-clause-refused : goal.returns-in-Some-clause-refused
returns-in-Some-clause-refused c = tt

pub returns-in-Off-clause-unchanged : goal.returns-in-Off-clause-unchanged
returns-in-Off-clause-unchanged c = tt

pub returns-in-Off-clause-refused : goal.returns-in-Off-clause-refused
returns-in-Off-clause-refused c = tt

pub returns-then-n-from-clause-unchanged : goal.returns-then-n-from-clause-unchanged
returns-then-n-from-clause-unchanged c = tt

pub returns-then-n-from-clause-refused : goal.returns-then-n-from-clause-refused
returns-then-n-from-clause-refused c = tt

pub returns-in-Switch-clause-unchanged : goal.returns-in-Switch-clause-unchanged
returns-in-Switch-clause-unchanged c = tt

pub returns-in-Switch-clause-refused : goal.returns-in-Switch-clause-refused
returns-in-Switch-clause-refused c = tt

pub returns-in-None-clause-valid : goal.returns-in-None-clause-valid
returns-in-None-clause-valid c = tt

pub returns-in-None-clause-unchanged : goal.returns-in-None-clause-unchanged
returns-in-None-clause-unchanged c = refl

pub returns-else-n-ge0-clause-valid : goal.returns-else-n-ge0-clause-valid
returns-else-n-ge0-clause-valid c = tt

pub returns-else-n-ge0-clause-unchanged : goal.returns-else-n-ge0-clause-unchanged
returns-else-n-ge0-clause-unchanged c = refl

pub returns-in-On-clause-unchanged : goal.returns-in-On-clause-unchanged
returns-in-On-clause-unchanged c = anyhow c.contains.result refl

pub returns-in-Comparison-clause-unchanged : goal.returns-in-Comparison-clause-unchanged
returns-in-Comparison-clause-unchanged c = anyhow c.compares.result refl

pub returns-in-Switch-clause-valid : goal.returns-in-Switch-clause-valid
returns-in-Switch-clause-valid c =
    let game = c.args.game.now in
    let S = c.args.state.now in
    let action = ap action_of c.in-Switch.is ∙ action_of-Switch c.in-Switch.role in
    subst (λ a. Effect (game_of game) a S (record S { mover = c.in-Switch.role })) (sym action) refl

pub returns-in-Comparison-clause-valid : goal.returns-in-Comparison-clause-valid
returns-in-Comparison-clause-valid c =
    let game = c.args.game.now in
    let S = c.args.state.now in
    let left = c.in-Comparison.left in
    let op = c.in-Comparison.comparison in
    let right = c.in-Comparison.right in
    let action = ap action_of c.in-Comparison.is ∙ action_of-Comparison left op right in
    let x = c.value.ensures ∙ ap (λ vs. value_of vs (expression_of left)) c.deref-in-Comparison.ensures.0 in
    let y = c.value-in-Comparison.ensures ∙ ap (λ vs. value_of vs (expression_of right)) c.deref-in-Comparison-2.ensures.0 in
    when_true c.compares.result (λ is. subst (λ a. Effect (game_of game) a S S) (sym action) (
      refl,
      subst (λ n. Compares op n (value_of S.values.items (expression_of right))) x (subst (Compares op c.value.result) y
          (said op c.value.result c.value-in-Comparison.result (record { sfits = c.value.type_inv })
          (record { sfits = c.value-in-Comparison.type_inv }) (c.compares.ensures.0 is))),
    ))

pub returns-in-Comparison-clause-refused : goal.returns-in-Comparison-clause-refused
returns-in-Comparison-clause-refused c =
    let game = c.args.game.now in
    let S = c.args.state.now in
    let left = c.in-Comparison.left in
    let op = c.in-Comparison.comparison in
    let right = c.in-Comparison.right in
    let action = ap action_of c.in-Comparison.is ∙ action_of-Comparison left op right in
    let x = c.value.ensures ∙ ap (λ vs. value_of vs (expression_of left)) c.deref-in-Comparison.ensures.0 in
    let y = c.value-in-Comparison.ensures ∙ ap (λ vs. value_of vs (expression_of right)) c.deref-in-Comparison-2.ensures.0 in
    when_false c.compares.result (λ is T h.
    let effect = subst (λ a. Effect (game_of game) a S T) action h in
    let holds = subst (λ n. Compares op n c.value-in-Comparison.result) (sym x)
    (subst (Compares op (value_of S.values.items (expression_of left))) (sym y) effect.1) in
    let never : true ≡ false = sym (c.compares.ensures.1
    (asked op c.value.result c.value-in-Comparison.result (record { sfits = c.value.type_inv })
    (record { sfits = c.value-in-Comparison.type_inv }) holds)) ∙ is in
    cc)

pub returns-in-On-clause-refused : goal.returns-in-On-clause-refused
returns-in-On-clause-refused c =
    let game = c.args.game.now in
    let S = c.args.state.now in
    let action = ap action_of c.in-On.is ∙ action_of-On c.in-On.pieces in
    let piece = get_or c.deref-in-On.result.now c.from-in-On.result 0 in
    let here : piece ≡ slice_index S.pieces.items S.vertex = ap (λ ys. get_or ys c.from-in-On.result 0) c.deref-in-On.ensures.0
    ∙ ap (λ i. get_or S.pieces.items i 0) c.from-in-On.ensures in
    OnFalse-along c.contains.result (¬ Contains c.deref.result.now piece) ((T : SemiState) → ¬ Effect (game_of game) (action_of c.args.action.now) S T)
    (λ none T h. none (subst (Contains c.deref.result.now) (sym here)
    (subst (λ xs. Contains xs (slice_index S.pieces.items S.vertex)) (sym c.deref.ensures.value) (subst (λ a. Effect (game_of game) a S T) action h).1)))
    (lacks c.deref.result.now piece c.contains.result c.contains.ensures.cases)

pub value-requires-clause-names : goal.value-requires-clause-names
value-requires-clause-names c =
    let action = ap action_of c.in-Comparison.is ∙ action_of-Comparison c.in-Comparison.left c.in-Comparison.comparison c.in-Comparison.right in
    let plain = subst (IsPlain c.args.state.now.values.items) action c.requires.plain in
    subst (λ vs. NamesBelow (length vs) (expression_of c.in-Comparison.left)) (sym c.deref-in-Comparison.ensures.0) plain.0.0

pub value-requires-clause-small : goal.value-requires-clause-small
value-requires-clause-small c =
    let action = ap action_of c.in-Comparison.is ∙ action_of-Comparison c.in-Comparison.left c.in-Comparison.comparison c.in-Comparison.right in
    let plain = subst (IsPlain c.args.state.now.values.items) action c.requires.plain in
    subst (λ vs. HasSmallParts vs (expression_of c.in-Comparison.left)) (sym c.deref-in-Comparison.ensures.0) plain.0.1

pub value-requires-in-Comparison-clause-names : goal.value-requires-in-Comparison-clause-names
value-requires-in-Comparison-clause-names c =
    let action = ap action_of c.in-Comparison.is ∙ action_of-Comparison c.in-Comparison.left c.in-Comparison.comparison c.in-Comparison.right in
    let plain = subst (IsPlain c.args.state.now.values.items) action c.requires.plain in
    subst (λ vs. NamesBelow (length vs) (expression_of c.in-Comparison.right)) (sym c.deref-in-Comparison-2.ensures.0) plain.1.0

pub value-requires-in-Comparison-clause-small : goal.value-requires-in-Comparison-clause-small
value-requires-in-Comparison-clause-small c =
    let action = ap action_of c.in-Comparison.is ∙ action_of-Comparison c.in-Comparison.left c.in-Comparison.comparison c.in-Comparison.right in
    let plain = subst (IsPlain c.args.state.now.values.items) action c.requires.plain in
    subst (λ vs. HasSmallParts vs (expression_of c.in-Comparison.right)) (sym c.deref-in-Comparison-2.ensures.0) plain.1.1

pub value-n-requires-clause-names : goal.value-n-requires-clause-names
value-n-requires-clause-names c =
    let action = ap action_of c.in-Assignment.is ∙ action_of-Assignment c.in-Assignment.variable c.in-Assignment.right in
    let plain = subst (IsPlain c.args.state.now.values.items) action c.requires.plain in
    subst (λ vs. NamesBelow (length vs) (expression_of c.in-Assignment.right)) (sym c.deref-in-Assignment.ensures.0) plain.1

pub value-n-requires-clause-small : goal.value-n-requires-clause-small
value-n-requires-clause-small c =
    let action = ap action_of c.in-Assignment.is ∙ action_of-Assignment c.in-Assignment.variable c.in-Assignment.right in
    let plain = subst (IsPlain c.args.state.now.values.items) action c.requires.plain in
    subst (λ vs. HasSmallParts vs (expression_of c.in-Assignment.right)) (sym c.deref-in-Assignment.ensures.0) plain.2

pub index-requires : goal.index-requires
index-requires c =
    let game = c.args.game.now in
    omega (arith, length-map game.vertices.items vertex_of, c.requires.state.vertex_is, c.from.ensures, game.vertices.ok.0)
