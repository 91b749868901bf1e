use Rattle.legal_moves.specs.lemmas.Stands.{bucket_at, IsSameStand}
use Rattle.legal_moves.proofs.searches.ChainLemmas.{IsAlong}
use Rattle.legal_moves.proofs.search.found.Found.has.Given as goal

abbrev pub invariant-loop-at : goal.invariant-loop-at
invariant-loop-at l = IsAlong bucket_at l.self.stands.items (λ s. IsSameStand s l.stand) (bucket_at l.stand) l.at

abbrev pub decreases-loop-at : goal.decreases-loop-at
decreases-loop-at l = l.at
