use Rattle.position_pack.proofs.PackingLemmas.{packed_order}
use Rattle.position_pack.proofs.laws.bytes_order.Goals as goal

pub returns : goal.returns
returns c = packed_order
