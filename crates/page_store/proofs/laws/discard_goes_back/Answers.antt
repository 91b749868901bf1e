use Rattle.page_store.specs.lemmas.Carried.{discard_goes_back}
use Rattle.page_store.proofs.laws.discard_goes_back.Goals as goal

pub returns : goal.returns
returns c = discard_goes_back
