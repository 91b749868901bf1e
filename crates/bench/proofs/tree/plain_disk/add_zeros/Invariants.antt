use Rattle.std.proofs.Common.{◌≡◌, ◌+◌, length}
use Rattle.bench.proofs.tree.plain_disk.add_zeros.Given as goal

abbrev pub invariant-loop : goal.invariant-loop
invariant-loop l = length l.contents.items ≡ length l.fn.contents.items + l.counter
