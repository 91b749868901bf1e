use Rattle.page_store.specs.lemmas.Carried.{stop_leaves}
use Rattle.page_store.proofs.laws.stop_leaves.Goals as goal

pub returns : goal.returns
returns g c = stop_leaves
