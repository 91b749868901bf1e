use Rattle.page_store.specs.lemmas.Carried.{works_stands}
use Rattle.page_store.proofs.laws.works_stands.Goals as goal

pub returns : goal.returns
returns g c = works_stands
