use Rattle.page_store.specs.lemmas.Carried.{what_is_held_is_not_free}
use Rattle.page_store.proofs.laws.what_is_held_is_not_free.Goals as goal

pub returns : goal.returns
returns c = what_is_held_is_not_free
