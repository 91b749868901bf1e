use Rattle.page_store.specs.lemmas.Carried.{hold_stands}
use Rattle.page_store.proofs.laws.hold_stands.Goals as goal

pub returns : goal.returns
returns g c = hold_stands
