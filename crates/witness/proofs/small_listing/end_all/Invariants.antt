use Rattle.std.proofs.Common.{vec_len}
use Rattle.witness.proofs.small_listing.end_all.Given as goal

abbrev pub decreases-loop-listing : goal.decreases-loop-listing
decreases-loop-listing g l = vec_len l.listings
