use Rattle.rbg_read.proofs.EveryText.{answered}
use Rattle.rbg_read.proofs.laws.a_text_reads_or_has_a_fault.Goals as goal

pub returns : goal.returns
returns c = answered
