use Rattle.std.proofs.Common.{◌≡◌, take, min}
use Rattle.rbg_read.specs.Means.{decimal}
use Rattle.rbg_read.proofs.numbers.number.Given as goal

abbrev pub invariant-loop-digit : goal.invariant-loop-digit
invariant-loop-digit l = l.number ≡ min (decimal (take l.digit-index l.digits)) 1000001
