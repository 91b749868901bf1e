use Rattle.page_store.specs.lemmas.Carried.{let_go_stands_held}
use Rattle.page_store.proofs.laws.let_go_stands_held.Goals as goal

pub returns : goal.returns
returns g c = let_go_stands_held
