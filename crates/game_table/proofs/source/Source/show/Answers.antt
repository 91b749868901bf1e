use Rattle.std.proofs.Common.{◌≡◌, ◌∙◌, sym, ap, subst}
use Rattle.rbg_game.specs.Meaning.{game_of}
use Rattle.position_pack.specs.Packings.{form_of, IsPacked}
use Rattle.position_pack.specs.Texts.{text_of}
use Rattle.legal_moves.specs.Compiled.{compiled_game, packing_kind}
use Rattle.game_table.proofs.PositionText.{shown, packed_as}
use Rattle.game_table.proofs.source.Source.show.Goals as goal

pub returns-in_ok-show-in-Some-clause-some : goal.returns-in_ok-show-in-Some-clause-some
returns-in_ok-show-in-Some-clause-some c =
    let source = c.args.self.now in
    let here : game_of c.game-game.result.now ≡ compiled_game source = c.game-game.ensures ∙ ap (λ s. compiled_game s) c.self.view_is in
    let form : c.packing.result.now ≡ form_of (packing_kind source) (compiled_game source) = c.packing.ensures
    ∙ ap (λ s. form_of (packing_kind s) (compiled_game s)) c.self.view_is in
    let packed = subst (λ f. IsPacked f c.in-Some.at c.args.packed.now.items) form
    (subst (IsPacked c.packing.result.now c.in-Some.at) c.deref.ensures.0 c.in-Some.ensures) in
    shown (packing_kind source) (compiled_game source) c.in-Some.at c.args.packed.now.items c.in_ok-show-in-Some.field-0.items packed
    (c.in_ok-show-in-Some.ensures ∙ ap (λ g. text_of g c.in-Some.at) here)

pub returns-in-None-clause-none : goal.returns-in-None-clause-none
returns-in-None-clause-none c = λ text it.
    let source = c.args.self.now in
    let form : c.packing.result.now ≡ form_of (packing_kind source) (compiled_game source) = c.packing.ensures
    ∙ ap (λ s. form_of (packing_kind s) (compiled_game s)) c.self.view_is in
    let packed = packed_as (packing_kind source) (compiled_game source) c.args.packed.now.items text it in
    c.in-None.ensures it.at (subst (IsPacked c.packing.result.now it.at) (sym c.deref.ensures.0)
    (subst (λ f. IsPacked f it.at c.args.packed.now.items) (sym form) packed))
