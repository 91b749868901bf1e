use Rattle.page_store.specs.lemmas.Carried.{let_go_stands}
use Rattle.page_store.proofs.laws.let_go_stands.Goals as goal

pub returns : goal.returns
returns g c = let_go_stands
