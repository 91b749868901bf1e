use Rattle.std.specs.Prelude.{◌≡◌, ◌++◌, replicate}
use Rattle.byte_disk.proofs.disk.add_zeros.Given as goal

abbrev pub invariant-loop : goal.invariant-loop
invariant-loop l = l.contents.items ≡ l.fn.contents.items ++ replicate l.counter (replicate 512 0)
