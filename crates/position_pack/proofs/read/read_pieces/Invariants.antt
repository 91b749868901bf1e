use Rattle.std.proofs.Common.{◌<◌, length}
use Rattle.rbg_game.specs.Meaning.{game_of}
use Rattle.position_pack.specs.Texts.{piece_name}
use Rattle.position_pack.proofs.ListedLemmas.{IsReadTo}
use Rattle.position_pack.proofs.read.read_pieces.Given as goal

abbrev pub invariant-loop-index : goal.invariant-loop-index
invariant-loop-index l =
    IsReadTo (piece_name (game_of l.game)) (λ _ x. x < length (game_of l.game).pieces) (length (game_of l.game).vertices) l.bytes l._index l.pieces.items l.rest
