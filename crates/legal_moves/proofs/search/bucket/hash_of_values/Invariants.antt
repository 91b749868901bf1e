use Rattle.std.proofs.Common.{◌≡◌, fold, take}
use Rattle.legal_moves.specs.lemmas.Buckets.{stirred}
use Rattle.legal_moves.proofs.search.bucket.hash_of_values.Given as goal

abbrev pub invariant-loop-value : goal.invariant-loop-value
invariant-loop-value l = (l.hash ≡ fold stirred 0 (take l.value-index l.values))
