use Rattle.std.proofs.Common.{length}
use Rattle.certificate.specs.Format.{lines}
use Rattle.certificate.specs.lemmas.Parts.{AreOfPositions, AreReadLines}
use Rattle.certificate.proofs.lists.ranked_in.Given as goal

abbrev pub invariant-loop-line : goal.invariant-loop-line
invariant-loop-line l = AreReadLines l.manner (lines l.bytes) l.list.items (lines l.rest) × AreOfPositions l.packing l.list.items

abbrev pub decreases-loop-line : goal.decreases-loop-line
decreases-loop-line l = length l.rest
