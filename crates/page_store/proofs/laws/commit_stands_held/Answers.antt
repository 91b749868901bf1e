use Rattle.page_store.specs.lemmas.Carried.{commit_stands_held}
use Rattle.page_store.proofs.laws.commit_stands_held.Goals as goal

pub returns : goal.returns
returns g c = commit_stands_held
