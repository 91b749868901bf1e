use Rattle.position_pack.proofs.NumberLemmas.{field_is}
use Rattle.position_pack.proofs.laws.fields_are_read.Goals as goal

pub returns : goal.returns
returns c = field_is
