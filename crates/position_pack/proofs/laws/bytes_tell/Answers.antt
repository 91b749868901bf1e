use Rattle.position_pack.proofs.PackingLemmas.{packed_tell}
use Rattle.position_pack.proofs.laws.bytes_tell.Goals as goal

pub returns : goal.returns
returns c = packed_tell
