use Rattle.std.proofs.Common.{◌≡◌, sym, ap, ◌∙◌, subst, map}
use Rattle.std.specs.Prelude.{IfOk}
use Rattle.rbg_game.specs.Positions.{IsPositionOf}
use Rattle.position_pack.specs.declared.kind.PackingKind.TheVariants.{Bytes}
use Rattle.position_pack.specs.Packings.{form_of}
use Rattle.session_lines.specs.Lines.{line_of}
use Rattle.legal_moves.specs.Compiled.{compiled_game}
use Rattle.session_lines.proofs.LineLemmas.{packed_at, position_of, bytes_are, line_is}
use Rattle.session_lines.proofs.move_lines.line_at.Goals as goal

pub unreachable-requires : goal.unreachable-requires
unreachable-requires c =
    let game = compiled_game c.args.compiled.now in
    let form = c.new-packing.ensures ∙ ap (λ g. form_of Bytes g) c.game.ensures in
    let there = packed_at game c.args.moves.now c.args.k c.successor.result.now.items c.deref.result.now c.new-packing.result c.requires.positions c.requires.index c.successor.ensures c.deref.ensures.0 form in
    c.in_default.ensures there.0 there.1

pub move_line-requires-clause-position : goal.move_line-requires-clause-position
move_line-requires-clause-position c =
    let game = compiled_game c.args.compiled.now in
    let form = c.new-packing.ensures ∙ ap (λ g. form_of Bytes g) c.game.ensures in
    let packed = c.in-Some.ensures in
    subst (λ g. IsPositionOf g c.in-Some.next) (sym c.game-2.ensures) (position_of game c.new-packing.result c.in-Some.next c.deref.result.now form packed)

pub returns : goal.returns
returns c =
    let game = compiled_game c.args.compiled.now in
    let form = c.new-packing.ensures ∙ ap (λ g. form_of Bytes g) c.game.ensures in
    let packed = c.in-Some.ensures in
    let position = position_of game c.new-packing.result c.in-Some.next c.deref.result.now form packed in
    let word = c.in_ok-word.ensures in
    let next = c.in-Some.next in
    let one = subst (λ g. IfOk c.move_line.result
    (λ line. line.items ≡ line_of g (map (λ m. (m.number, m.vertex)) c.deref-2.result.now) next)) c.game-2.ensures c.move_line.ensures in
    let two = subst (λ ws. IfOk c.move_line.result (λ line. line.items ≡ line_of game (map (λ m. (m.number, m.vertex)) ws) next)) c.deref-2.ensures one in
    line_is game _ c.successor.result.now.items _ next c.move_line.result c.successor.ensures word position
    (sym c.deref.ensures.0 ∙ bytes_are game c.new-packing.result c.in-Some.next c.deref.result.now form packed) two
