use Rattle.page_store.specs.lemmas.Carried.{commit_carries}
use Rattle.page_store.proofs.laws.commit_carries.Goals as goal

pub returns : goal.returns
returns g c = commit_carries
