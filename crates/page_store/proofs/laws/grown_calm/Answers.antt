use Rattle.page_store.specs.lemmas.Carried.{grown_calm}
use Rattle.page_store.proofs.laws.grown_calm.Goals as goal

pub returns : goal.returns
returns c = grown_calm
