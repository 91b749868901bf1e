use Rattle.std.proofs.Common.{◌≡◌, fold, take}
use Rattle.legal_moves.specs.lemmas.Buckets.{stirred_eight}
use Rattle.legal_moves.proofs.search.bucket.hash_of_eights.Given as goal

abbrev pub invariant-loop-eight : goal.invariant-loop-eight
invariant-loop-eight l = (l.hash ≡ fold stirred_eight l.before (take l.eight-index l.eights))
