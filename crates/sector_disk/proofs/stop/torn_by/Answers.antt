use Rattle.std.proofs.Common.{rules}
use Rattle.sector_disk.specs.Stops.{torn}
use Rattle.sector_disk.proofs.stop.torn_by.Goals as goal

pub returns-in-0 : goal.returns-in-0
unfolding torn
returns-in-0 c = search rules

pub returns-in-1 : goal.returns-in-1
unfolding torn
returns-in-1 c = search rules

pub returns-in-2 : goal.returns-in-2
unfolding torn
returns-in-2 c = search rules

pub returns-in_default : goal.returns-in_default
unfolding torn
returns-in_default c = search rules
