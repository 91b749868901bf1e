use Rattle.table.proofs.OrderMarks.{IsListed}
use Rattle.table.proofs.fitting.listed.Given as goal

abbrev pub invariant-loop-place : goal.invariant-loop-place
invariant-loop-place l = IsListed l.processed l.records l.order l.place l.marks.items
