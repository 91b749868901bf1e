use Rattle.page_store.specs.lemmas.Carried.{let_go_calm}
use Rattle.page_store.proofs.laws.let_go_calm.Goals as goal

pub returns : goal.returns
returns c = let_go_calm
