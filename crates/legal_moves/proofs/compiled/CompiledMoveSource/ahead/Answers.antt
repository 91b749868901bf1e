use Rattle.std.proofs.Common.{◌≡◌, ◌+◌, length, sym, ap, ◌∙◌, arith}
use Rattle.std.proofs.lemmas.List.{length-map}
use Rattle.rbg_game.specs.Meaning.{vertex_of}
use Rattle.position_pack.specs.declared.kind.PackingKind.TheVariants.{Bytes, Bits}
use Rattle.position_pack.specs.Shape.{shape_of}
use Rattle.position_pack.specs.Bits.{field_at}
use Rattle.legal_moves.specs.Compiled.{compiled_game}
use Rattle.rbg_game.specs.Goals.{points_of}
use Rattle.legal_moves.specs.Sources.{leader, leader_in, value_in}
use Rattle.legal_moves.proofs.compiled.CompiledMoveSource.ahead.Goals as goal

pub returns-in-Bytes : goal.returns-in-Bytes
returns-in-Bytes c =
    let v = c.args.self.now in
    let game = compiled_game v in
    let own = c.self.inside.game in
    let x = c.args.at.now.items in
    let n = c.len-scores.result in
    let by : v.kind ≡ Bytes = sym (ap (λ w. w.kind) c.self.view_is) ∙ sym c.kind.ensures ∙ c.in-Bytes.is in
    let same = ap (λ w. length (compiled_game w).vertices) c.self.view_is in
    let many : n ≡ length game.vertices = omega (arith, length-map own.vertices.items vertex_of, same, c.len-scores.ensures, own.vertices.ok.0) in
    let first = c.value_at.ensures ∙ ap (λ xs. value_in xs n) c.deref.ensures.0 ∙ ap (value_in x) many in
    let second = c.value_at-in-Bytes.ensures ∙ ap (λ xs. value_in xs (n + 3)) c.deref-in-Bytes.ensures.0 ∙ ap (λ k. value_in x (k + 3)) many in
    let wanted : points_of c.self.inside.goal ≡ v.goal = ap (λ w. w.goal) c.self.view_is in
    c.leader_of.ensures ∙ ap (λ g. leader g c.value_at.result c.value_at-in-Bytes.result) wanted
    ∙ ap (λ k. leader v.goal k c.value_at-in-Bytes.result) first ∙ ap (leader v.goal (value_in x (length game.vertices))) second
    ∙ sym (ap (λ k. leader_in k v.goal game x) by)

pub returns-in-Bits : goal.returns-in-Bits
returns-in-Bits c =
    let v = c.args.self.now in
    let game = compiled_game v in
    let own = c.self.inside.game in
    let x = c.args.at.now.items in
    let n = c.len-scores.result in
    let by : v.kind ≡ Bits = sym (ap (λ w. w.kind) c.self.view_is) ∙ sym c.kind.ensures ∙ c.in-Bits.is in
    let shape = c.self.invariant.packing_is ∙ ap (λ w. shape_of (compiled_game w)) c.self.view_is in
    let same = ap (λ w. length (compiled_game w).vertices) c.self.view_is in
    let many : n ≡ length game.vertices = omega (arith, length-map own.vertices.items vertex_of, same, c.len-scores.ensures, own.vertices.ok.0) in
    let first = c.field.ensures ∙ ap (λ s. field_at s n c.deref-in-Bits.result.now) shape ∙ ap (field_at (shape_of game) n) c.deref-in-Bits.ensures.0
    ∙ ap (λ k. field_at (shape_of game) k x) many in
    let second = c.field-in-Bits.ensures ∙ ap (λ s. field_at s (n + 1) c.deref-in-Bits-2.result.now) shape
    ∙ ap (field_at (shape_of game) (n + 1)) c.deref-in-Bits-2.ensures.0
    ∙ ap (λ k. field_at (shape_of game) (k + 1) x) many in
    let wanted : points_of c.self.inside.goal ≡ v.goal = ap (λ w. w.goal) c.self.view_is in
    c.leader_of-in-Bits.ensures ∙ ap (λ g. leader g c.field.result c.field-in-Bits.result) wanted
    ∙ ap (λ k. leader v.goal k c.field-in-Bits.result) first ∙ ap (leader v.goal (field_at (shape_of game) (length game.vertices) x)) second
    ∙ sym (ap (λ k. leader_in k v.goal game x) by)
