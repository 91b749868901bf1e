use Rattle.std.proofs.Common.{◌≡◌, fold, take}
use Rattle.legal_moves.specs.lemmas.Buckets.{stirred}
use Rattle.legal_moves.proofs.search.bucket.hash_of_few.Given as goal

abbrev pub invariant-loop-piece : goal.invariant-loop-piece
invariant-loop-piece l = (l.hash ≡ fold stirred l.before (take l.piece-index l.pieces))
