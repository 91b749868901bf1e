use Rattle.rbg_read.proofs.OneGame.{one_fault}
use Rattle.rbg_read.proofs.laws.a_text_has_one_fault.Goals as goal

pub returns : goal.returns
returns c = one_fault
