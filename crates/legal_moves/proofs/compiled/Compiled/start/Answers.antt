use Rattle.std.proofs.Common.{◌≡◌, ◌<◌, ◌+◌, ℕ, List, [], ◌∷◌, ◌++◌, length, map, take, get_or, ◌∙◌, sym, ap, subst}
use Rattle.std.proofs.lemmas.List.{take_more, map-append}
use Rattle.rbg_game.specs.Meaning.{game_of}
use Rattle.rbg_game.specs.Positions.{IsPositionOf}
use Rattle.rbg_game.specs.declared.position.Position.{Position}
use Rattle.rbg_game.specs.declared.roles.Role.TheVariants.{Keeper}
use Rattle.legal_moves.specs.Moves.{start_of}
use Rattle.legal_moves.specs.Compiled.{compiled_game}
use Rattle.legal_moves.proofs.automata.CompiledLemmas.{start_position, start_is, taken_all}
use Rattle.legal_moves.proofs.compiled.Compiled.start.Goals as goal

map_take-more : {A : Type 0} (f : A → ℕ) (xs : List A) (i : ℕ) (x : A) → i < length xs → x ≡ get_or xs i x
    → map f (take (i + 1) xs) ≡ map f (take i xs) ++ f x ∷ []
map_take-more f xs i x less is =
    ap (map f) (take_more xs i x less ∙ ap (λ y. take i xs ++ y ∷ []) (sym is)) ∙ map-append f (take i xs) (x ∷ [])

pub returns-clause-start : goal.returns-clause-start
returns-clause-start c =
    let game = c.self.inside.game in
    let pieces = c.loop-vertex.invariant ∙ taken_all (λ v. v.piece) game.vertices.items c.deref-vertex-items.result.now c.loop-vertex.vertex-index c.deref-vertex-items.ensures.value c.loop-vertex-test.false in
    let values = c.loop-variable.invariant ∙ taken_all (λ v. 0) game.variables.items c.deref-variable-items.result.now c.loop-variable._variable-index c.deref-variable-items.ensures.value c.loop-variable-test.false in
    start_is game c.loop-vertex.pieces c.loop-variable.values pieces values ∙ ap (λ v. start_of (compiled_game v)) c.self.view_is

pub returns-clause-position : goal.returns-clause-position
returns-clause-position c =
    let game = c.self.inside.game in
    let pieces = c.loop-vertex.invariant ∙ taken_all (λ v. v.piece) game.vertices.items c.deref-vertex-items.result.now c.loop-vertex.vertex-index c.deref-vertex-items.ensures.value c.loop-vertex-test.false in
    let values = c.loop-variable.invariant ∙ taken_all (λ v. 0) game.variables.items c.deref-variable-items.result.now c.loop-variable._variable-index c.deref-variable-items.ensures.value c.loop-variable-test.false in
    let at = start_is game c.loop-vertex.pieces c.loop-variable.values pieces values in
    let it : Position = record { state = record { mover = Keeper; pieces = c.loop-vertex.pieces; values = c.loop-variable.values; vertex = 0 }; place = 0 } in
    subst (λ v. IsPositionOf (compiled_game v) it) c.self.view_is
    (subst (IsPositionOf (game_of game)) (sym at) (start_position (game_of game) c.self.invariant.sound))

pub loop-vertex-preserved : goal.loop-vertex-preserved
loop-vertex-preserved c =
    c.push.ensures.items ∙ ap (λ xs. xs ++ c.vertex-item.result.piece ∷ []) c.loop-vertex.invariant
    ∙ sym (map_take-more (λ v. v.piece) c.deref-vertex-items.result.now c.loop-vertex.vertex-index c.vertex-item.result c.loop-vertex-test.true c.vertex-item.is)

pub loop-variable-preserved : goal.loop-variable-preserved
loop-variable-preserved c =
    c.push-in-loop-variable.ensures.items ∙ ap (λ xs. xs ++ 0 ∷ []) c.loop-variable.invariant
    ∙ sym (map_take-more (λ v. 0) c.deref-variable-items.result.now c.loop-variable._variable-index c._variable-item.result c.loop-variable-test.true c._variable-item.is)
