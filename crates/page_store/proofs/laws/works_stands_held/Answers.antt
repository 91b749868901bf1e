use Rattle.page_store.specs.lemmas.Carried.{works_stands_held}
use Rattle.page_store.proofs.laws.works_stands_held.Goals as goal

pub returns : goal.returns
returns g c = works_stands_held
