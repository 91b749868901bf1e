use Rattle.rbg_read.proofs.OneGame.{one_game}
use Rattle.rbg_read.proofs.laws.a_text_reads_to_one_game.Goals as goal

pub returns : goal.returns
returns c = one_game
