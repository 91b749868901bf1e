use Rattle.page_store.specs.lemmas.Carried.{nothing_stays_without_a_hold}
use Rattle.page_store.proofs.laws.nothing_stays_without_a_hold.Goals as goal

pub returns : goal.returns
returns c = nothing_stays_without_a_hold
