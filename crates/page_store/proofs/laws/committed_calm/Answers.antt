use Rattle.page_store.specs.lemmas.Carried.{committed_calm}
use Rattle.page_store.proofs.laws.committed_calm.Goals as goal

pub returns : goal.returns
returns c = committed_calm
