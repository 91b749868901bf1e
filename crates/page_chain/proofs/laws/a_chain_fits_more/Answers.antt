use Rattle.page_chain.specs.lemmas.EveryChain.{a_chain_fits_more}
use Rattle.page_chain.proofs.laws.a_chain_fits_more.Goals as goal

pub returns : goal.returns
returns c = a_chain_fits_more
