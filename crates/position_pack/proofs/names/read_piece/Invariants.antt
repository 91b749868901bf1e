use Rattle.std.proofs.Common.{◌≢◌, ◌<◌, ℕ}
use Rattle.rbg_game.specs.Meaning.{game_of}
use Rattle.position_pack.specs.Texts.{piece_name}
use Rattle.position_pack.proofs.names.read_piece.Given as goal

abbrev pub invariant-loop-piece : goal.invariant-loop-piece
invariant-loop-piece l = (k : ℕ) → k < l.piece → l.bytes ≢ piece_name (game_of l.game) k
