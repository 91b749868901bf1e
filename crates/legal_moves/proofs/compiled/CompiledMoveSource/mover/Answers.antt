use Rattle.std.proofs.Common.{◌≡◌, ◌+◌, ◌*◌, length, slice_index, sym, ap, ◌∙◌, arith}
use Rattle.std.proofs.lemmas.List.{length-map}
use Rattle.rbg_game.specs.Meaning.{vertex_of, variable_of}
use Rattle.position_pack.specs.declared.kind.PackingKind.TheVariants.{Bytes, Bits}
use Rattle.position_pack.specs.Shape.{shape_of}
use Rattle.position_pack.specs.Bits.{field_at}
use Rattle.legal_moves.specs.Compiled.{compiled_game}
use Rattle.legal_moves.specs.Sources.{role_by, role_in}
use Rattle.legal_moves.proofs.compiled.CompiledMoveSource.mover.Goals as goal

pub returns-in-Bytes : goal.returns-in-Bytes
returns-in-Bytes c =
    let v = c.args.self.now in
    let game = compiled_game v in
    let own = c.self.inside.game in
    let x = c.args.at.now.items in
    let by : v.kind ≡ Bytes = sym (ap (λ w. w.kind) c.self.view_is) ∙ sym c.kind.ensures ∙ c.in-Bytes.is in
    let vertices = length-map own.vertices.items vertex_of in
    let variables = length-map own.variables.items variable_of in
    let same = ap (λ w. length (compiled_game w).vertices) c.self.view_is in
    let same' = ap (λ w. length (compiled_game w).variables) c.self.view_is in
    let n = c.len-vertices.result + 3 * c.len-variables.result + 1 in
    let index : n ≡ length game.vertices + 3 * length game.variables + 1 = omega
    (arith, vertices, variables, same, same', c.len-vertices.ensures, c.len-variables.ensures, own.vertices.ok.0, own.variables.ok.0) in
    c.role_with.ensures ∙ ap role_by (c.from.ensures ∙ c.byte_at.ensures ∙ ap (λ xs. slice_index xs n) c.deref.ensures.0 ∙ ap (slice_index x) index)
    ∙ sym (ap (λ k. role_in k game x) by)

pub returns-in-Bits : goal.returns-in-Bits
returns-in-Bits c =
    let v = c.args.self.now in
    let game = compiled_game v in
    let own = c.self.inside.game in
    let x = c.args.at.now.items in
    let by : v.kind ≡ Bits = sym (ap (λ w. w.kind) c.self.view_is) ∙ sym c.kind.ensures ∙ c.in-Bits.is in
    let shape = c.self.invariant.packing_is ∙ ap (λ w. shape_of (compiled_game w)) c.self.view_is in
    let vertices = length-map own.vertices.items vertex_of in
    let variables = length-map own.variables.items variable_of in
    let same = ap (λ w. length (compiled_game w).vertices) c.self.view_is in
    let same' = ap (λ w. length (compiled_game w).variables) c.self.view_is in
    let n = c.len-vertices.result + c.len-variables.result + 1 in
    let index : n ≡ length game.vertices + length game.variables + 1 = omega
    (arith, vertices, variables, same, same', c.len-vertices.ensures, c.len-variables.ensures, own.vertices.ok.0, own.variables.ok.0) in
    c.role_with-in-Bits.ensures ∙ ap role_by
    (c.field.ensures ∙ ap (λ s. field_at s n c.deref-in-Bits.result.now) shape ∙ ap (field_at (shape_of game) n) c.deref-in-Bits.ensures.0
    ∙ ap (λ i. field_at (shape_of game) i x) index) ∙ sym (ap (λ k. role_in k game x) by)
