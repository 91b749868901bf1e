use Rattle.legal_moves.proofs.searches.ChainLemmas.{IsAlong}
use Rattle.legal_moves.specs.lemmas.Boards.{boards_in, IsSameBoard}
use Rattle.legal_moves.specs.lemmas.Buckets.{bucket_of_board}
use Rattle.legal_moves.proofs.search.found.Found.like.Given as goal

abbrev pub invariant-loop-at : goal.invariant-loop-at
invariant-loop-at l = IsAlong bucket_of_board (boards_in l.self.boards) (λ A. IsSameBoard A l.state) (bucket_of_board l.state) l.at

abbrev pub decreases-loop-at : goal.decreases-loop-at
decreases-loop-at l = l.at
