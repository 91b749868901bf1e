use Rattle.legal_moves.proofs.searches.ChainLemmas.{chained_none}
use Rattle.legal_moves.proofs.search.chains.Chains.new.Goals as goal

pub returns : goal.returns
returns c = chained_none _ (c.in_ok-vec.ensures.items_if_clones_equal (λ y h. h)) c.in_ok-with_capacity.ensures.items
