use Rattle.rbg_read.proofs.ProperNames.{proper}
use Rattle.rbg_read.proofs.laws.what_is_read_has_proper_names.Goals as goal

pub returns : goal.returns
returns c = proper
