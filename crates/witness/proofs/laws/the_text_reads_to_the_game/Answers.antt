use Rattle.witness.proofs.TextReads.{witness_read}
use Rattle.witness.proofs.laws.the_text_reads_to_the_game.Goals as goal

pub returns : goal.returns
returns c = witness_read
