use Rattle.std.proofs.Common.{rules, arith}
use Rattle.std.proofs.lemmas.Grind.{common_steps}
use Rattle.rbg_read.proofs.Lists.{position_map}
use Rattle.rbg_read.proofs.names.place.Goals as goal

pub returns : goal.returns
returns c = rw position_map (first_of (search rules, grind (arith, common_steps)))
