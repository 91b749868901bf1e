use Rattle.page_store.specs.lemmas.Carried.{hold_stands_held}
use Rattle.page_store.proofs.laws.hold_stands_held.Goals as goal

pub returns : goal.returns
returns g c = hold_stands_held
