use Rattle.std.proofs.Common.{ap, not}
use Rattle.rbg_read.proofs.Lists.{any_map}
use Rattle.rbg_read.proofs.names.is_unknown.Goals as goal

pub returns : goal.returns
returns c = rw any_map (ap not c.is_among.ensures)
