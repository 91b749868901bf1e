use Rattle.page_store.specs.lemmas.Carried.{sealed_stands}
use Rattle.page_store.proofs.laws.sealed_stands.Goals as goal

pub returns : goal.returns
returns g c = sealed_stands
