use Rattle.std.proofs.Common.{◌≡◌, ◌++◌, take, map}
use Rattle.rbg_read.specs.Means.{decimal}
use Rattle.rbg_read.proofs.limits.add_bounds.Given as goal

abbrev pub invariant-loop-declaration : goal.invariant-loop-declaration
invariant-loop-declaration l =
    l.bounds.items ≡ l.initial.bounds.items ++ map (λ d. decimal d.bound.now) (take l.declaration-index l.declarations)
