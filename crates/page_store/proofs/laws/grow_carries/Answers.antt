use Rattle.page_store.specs.lemmas.Carried.{grow_carries}
use Rattle.page_store.proofs.laws.grow_carries.Goals as goal

pub returns : goal.returns
returns g c = λ root pages old new honest safe sound more calm stands grows. grow_carries root pages old new honest safe sound more calm stands grows
