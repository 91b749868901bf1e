use Rattle.std.proofs.Common.{subst}
use Rattle.legal_moves.specs.Compiled.{compiled_game, packing_kind}
use Rattle.legal_moves.specs.Sources.{IsPositionBytes}
use Rattle.game_table.specs.lemmas.Laws.{positions_have_one_length}
use Rattle.game_table.proofs.source.Source.start.Goals as goal

pub returns-clause-long : goal.returns-clause-long
returns-clause-long c =
    positions_have_one_length (packing_kind c.args.self.now) (compiled_game c.args.self.now) c.start.result.items
    (subst (λ s. IsPositionBytes (packing_kind s) (compiled_game s) c.start.result.items) c.self.view_is c.start.ensures.position)
