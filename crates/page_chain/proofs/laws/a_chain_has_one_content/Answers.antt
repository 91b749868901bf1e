use Rattle.page_chain.specs.lemmas.EveryChain.{a_chain_has_one_content}
use Rattle.page_chain.proofs.laws.a_chain_has_one_content.Goals as goal

pub returns : goal.returns
returns c = a_chain_has_one_content
