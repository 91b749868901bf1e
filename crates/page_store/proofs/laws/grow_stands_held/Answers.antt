use Rattle.page_store.specs.lemmas.Carried.{grow_stands_held}
use Rattle.page_store.proofs.laws.grow_stands_held.Goals as goal

pub returns : goal.returns
returns g c = grow_stands_held
