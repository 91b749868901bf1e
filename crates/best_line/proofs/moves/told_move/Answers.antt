use Rattle.std.proofs.Common.{◌∙◌, ap, subst, sym}
use Rattle.rbg_game.specs.Games.{Game}
use Rattle.rbg_game.specs.Positions.{IsPositionOf}
use Rattle.rbg_game.specs.Sound.{IsSoundGame}
use Rattle.position_pack.specs.Packings.{Form, packed_by}
use Rattle.position_pack.specs.Texts.{text_of}
use Rattle.retrograde.specs.Stored.{view_of}
use Rattle.legal_moves.specs.Compiled.{compiled_game, packing_kind}
use Rattle.best_line.proofs.FoundLemmas.{position_found, told_is}
use Rattle.best_line.proofs.moves.told_move.Goals as goal

pub show-requires-clause-sound : goal.show-requires-clause-sound
show-requires-clause-sound g c = subst IsSoundGame (sym c.game.ensures) c.requires.compiled.sound

pub show-requires-clause-position : goal.show-requires-clause-position
show-requires-clause-position g c =
    subst (λ (game : Game). IsPositionOf game c.successor_of-next.result) (sym c.game.ensures)
    (position_found (compiled_game c.args.compiled.now) c.args.moves.now c.args.k c.successor_of-next.result c.requires.index c.successor_of-next.ensures)

pub returns-clause-told : goal.returns-clause-told
returns-clause-told g c = λ honest table.
    let game = compiled_game c.args.compiled.now in
    told_is (packing_kind c.args.compiled.now) game (view_of (g.T.Table.stored c.args.table.now)) _ c.successor_of-next.result _ c.successor_of-next.ensures
    c.in_ok-word.ensures (c.pack-packed.ensures ∙ ap (λ (f : Form). packed_by f.kind f.shape c.successor_of-next.result) c.packing.ensures)
    (c.in_ok-text.ensures ∙ ap (λ (g : Game). text_of g c.successor_of-next.result) c.game.ensures) (c.in_ok-told.ensures.told honest table)
