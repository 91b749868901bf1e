use Rattle.std.proofs.Common.{ℕ, ◌<◌, get_or}
use Rattle.arrayvec.specs.ArrayVec.{ArrayVec}
use Rattle.certificate.specs.Lists.{HasRankedLine}
use Rattle.certificate.specs.Strategies.{RanksBelow}
use Rattle.certificate.proofs.going.each_below.Given as goal

abbrev pub invariant-loop-next : goal.invariant-loop-next
invariant-loop-next l = (k : ℕ) (d : ArrayVec ℕ) → k < l.next-index → RanksBelow (HasRankedLine l.list) l.rank (get_or l.found k d).items
