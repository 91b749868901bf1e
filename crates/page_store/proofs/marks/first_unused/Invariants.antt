use Rattle.std.proofs.Common.{◌≤◌, length}
use Rattle.page_store.specs.Marks.{AreFreeFrom}
use Rattle.page_store.proofs.marks.first_unused.Given as goal

abbrev pub invariant-loop-unused : goal.invariant-loop-unused
invariant-loop-unused l = record { low : l.unused ≤ length l.marks; free : AreFreeFrom l.unused l.marks }

abbrev pub decreases-loop-unused : goal.decreases-loop-unused
decreases-loop-unused l = l.unused
