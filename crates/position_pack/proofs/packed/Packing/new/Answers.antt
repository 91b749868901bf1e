use Rattle.std.proofs.Common.{◌≡◌, ap, map, sym, ◌∙◌, subst, length, arith}
use Rattle.std.proofs.lemmas.List.{take_all, length-map}
use Rattle.rbg_game.specs.Meaning.{game_of, regex_of}
use Rattle.rbg_game.proofs.CountLemmas.{count_within}
use Rattle.position_pack.specs.declared.kind.PackingKind.{PackingKind}
use Rattle.position_pack.specs.Shape.{Shape, IsSmall}
use Rattle.position_pack.specs.Bits.{greatest_of}
use Rattle.position_pack.specs.Packings.{Form}
use Rattle.position_pack.proofs.ShapeLemmas.{shape, bounds_are, same_shape, small_shape, some_pieces}
use Rattle.position_pack.proofs.packed.Packing.new.Goals as goal

abbrev form : PackingKind → Shape → Form
form kind s = record { kind = kind; shape = s }

pub action_count-actions-requires : goal.action_count-actions-requires
action_count-actions-requires c = omega (arith, count_within (regex_of c.args.game.now.rules), c.requires.few_actions)

pub overflow_cast-actions : goal.overflow_cast-actions
overflow_cast-actions c = omega (arith, count_within (regex_of c.args.game.now.rules), c.requires.few_actions, c.action_count-actions.ensures)

pub invariant_of-result : goal.invariant_of-result
invariant_of-result c =
    let game = game_of c.args.game.now in
    let all = take_all c.loop-variable.variable-index c.deref-variable-items.result.now (omega arith) in
    let bounds = c.loop-variable.invariant ∙ ap (map (λ v. v.bound)) (all ∙ c.deref-variable-items.ensures.value)
    ∙ bounds_are c.args.game.now.variables.items in
    let pieces : c.len-pieces.result ≡ length game.pieces = c.len-pieces.ensures ∙ c.args.game.now.pieces.ok.0
    ∙ sym (length-map c.args.game.now.pieces.items _) in
    let vertices : c.len-vertices.result ≡ length game.vertices = c.len-vertices.ensures ∙ c.args.game.now.vertices.ok.0
    ∙ sym (length-map c.args.game.now.vertices.items _) in
    let same = same_shape pieces bounds vertices c.action_count-actions.ensures in
    let greatest = ap (λ bs. greatest_of (shape c.len-pieces.result bs c.len-vertices.result c.action_count-actions.result)) c.deref.ensures.0 in (
      c.greatest_of-greatest.ensures ∙ greatest,
      (
        subst IsSmall (sym same) (small_shape game c.requires),
        (
          omega (arith, pieces, some_pieces game c.requires),
          (omega (arith, vertices, c.requires.has_vertex), tt),
        ),
      ),
    )

pub returns : goal.returns
returns c =
    let game = game_of c.args.game.now in
    let all = take_all c.loop-variable.variable-index c.deref-variable-items.result.now (omega arith) in
    let bounds = c.loop-variable.invariant ∙ ap (map (λ v. v.bound)) (all ∙ c.deref-variable-items.ensures.value)
    ∙ bounds_are c.args.game.now.variables.items in
    let pieces : c.len-pieces.result ≡ length game.pieces = c.len-pieces.ensures ∙ c.args.game.now.pieces.ok.0
    ∙ sym (length-map c.args.game.now.pieces.items _) in
    let vertices : c.len-vertices.result ≡ length game.vertices = c.len-vertices.ensures ∙ c.args.game.now.vertices.ok.0
    ∙ sym (length-map c.args.game.now.vertices.items _) in
    ap (λ s. form c.args.kind s) (same_shape pieces bounds vertices c.action_count-actions.ensures)
