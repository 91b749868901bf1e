use Rattle.std.proofs.Common.{◌∙◌, ap}
use Rattle.legal_moves.specs.Compiled.{compiled_game, packing_kind}
use Rattle.position_pack.specs.Packings.{form_of}
use Rattle.game_table.proofs.Packed.{positions_if_packed}
use Rattle.game_table.proofs.source.Source.are_positions.Goals as goal

pub returns-clause-are : goal.returns-clause-are
returns-clause-are g c = λ honest.
    positions_if_packed (packing_kind c.args.self.now) (compiled_game c.args.self.now) c.packing.result.now
    (g.T.Table.stored c.args.table.now) c.are_packed.result
    (c.packing.ensures ∙ ap (λ s. form_of (packing_kind s) (compiled_game s)) c.self.view_is) (c.are_packed.ensures.are honest)
