use Rattle.std.proofs.Common.{◌≡◌, ◌++◌, take, map}
use Rattle.rbg_game.specs.Meaning.{game_of}
use Rattle.position_pack.specs.Texts.{piece_name}
use Rattle.position_pack.specs.Texts.{with_commas}
use Rattle.position_pack.proofs.text.put_pieces.Given as goal

abbrev pub invariant-loop-index : goal.invariant-loop-index
invariant-loop-index l = l.text.items ≡ l.fn.text.items ++ with_commas (map (piece_name (game_of l.game)) (take l.index l.pieces))
