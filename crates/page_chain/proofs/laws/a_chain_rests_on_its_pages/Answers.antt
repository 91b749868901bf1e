use Rattle.page_chain.specs.lemmas.EveryChain.{a_chain_rests_on_its_pages}
use Rattle.page_chain.proofs.laws.a_chain_rests_on_its_pages.Goals as goal

pub returns : goal.returns
returns c = a_chain_rests_on_its_pages
