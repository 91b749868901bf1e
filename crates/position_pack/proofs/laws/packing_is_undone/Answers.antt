use Rattle.position_pack.proofs.PackingLemmas.{undone}
use Rattle.position_pack.proofs.laws.packing_is_undone.Goals as goal

pub returns : goal.returns
returns c = undone
