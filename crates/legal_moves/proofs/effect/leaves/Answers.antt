use Rattle.std.proofs.Common.{◌≡◌, ◌≤◌, Bool, true, false, refl, sym, ap, ◌∙◌, subst, slice_index, pos, w64, to_z, of_z}
use Rattle.std.specs.Bool.{OnTrue}
use Rattle.std.proofs.lemmas.Bool.{eqb-true}
use Rattle.std.proofs.lemmas.Int.{to_z-of_z}
use Rattle.std.proofs.lemmas.List.{set-get_or}
use Rattle.rbg_game.specs.Expressions.{value_of}
use Rattle.rbg_game.specs.Games.{bound_of}
use Rattle.rbg_game.specs.Meaning.{game_of, action_of, expression_of}
use Rattle.rbg_game.proofs.MeaningLemmas.{action_of-Assignment}
use Rattle.legal_moves.specs.Effects.{Effect}
use Rattle.legal_moves.specs.Plain.{IsPlain}
use Rattle.legal_moves.specs.lemmas.Seen.{state_seen}
use Rattle.legal_moves.proofs.effect.leaves.Goals as goal

-- what holds where the test says so
when_true : {P : Type 0} (r : Bool) → (r ≡ true → P) → OnTrue r P
when_true true h = h refl
when_true false h = tt

pub returns-in-Assignment : goal.returns-in-Assignment
returns-in-Assignment c =
    let game = game_of c.args.game.now in
    let S = state_seen c.args.here in
    let v = c.in-Assignment.variable in
    let e = expression_of c.in-Assignment.right in
    let action = ap action_of c.in-Assignment.is ∙ action_of-Assignment v c.in-Assignment.right in
    let plain = subst (IsPlain S.values.items) action c.requires.plain in
    let n = slice_index S.values.items v in
    let x = c.value.result in
    let y = c.from-in-Assignment-2.result in
    when_true _ (λ is.
    let machine : of_z w64 x ≡ of_z w64 y = eqb-true (of_z w64 x) (of_z w64 y) is in
    let same : x ≡ y = sym (to_z-of_z w64 x (record { sfits = c.value.type_inv })) ∙ ap (to_z w64) machine
    ∙ to_z-of_z w64 y (record { sfits = c.from-in-Assignment-2.type_inv }) in
    let there : y ≡ pos n = c.from-in-Assignment-2.ensures ∙ ap (λ i. pos (slice_index S.values.items i)) c.from-in-Assignment.ensures in
    let value : value_of S.values.items e ≡ pos n = sym c.value.ensures ∙ same ∙ there in
    let bound : n ≤ bound_of game v = c.requires.state.values_are v plain.0 in
    subst (λ a. Effect game a S S) (sym action) (n, value, bound, ap (λ xs. record S { values = record { items = xs } }) (sym (set-get_or S.values.items v 0))))
