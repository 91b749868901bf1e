use Rattle.rbg_read.proofs.OneGame.{no_fault}
use Rattle.rbg_read.proofs.laws.what_is_read_has_no_fault.Goals as goal

pub returns : goal.returns
returns c = no_fault
