use Rattle.position_pack.proofs.PackingLemmas.{as_many}
use Rattle.position_pack.proofs.laws.bytes_are_as_many.Goals as goal

pub returns : goal.returns
returns c = as_many
