use Rattle.page_store.specs.lemmas.Carried.{opened_stands}
use Rattle.page_store.proofs.laws.opened_stands.Goals as goal

pub returns : goal.returns
returns g c = opened_stands
