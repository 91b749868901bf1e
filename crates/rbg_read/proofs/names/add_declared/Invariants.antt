use Rattle.std.proofs.Common.{◌≡◌, ◌++◌, take, map}
use Rattle.rbg_read.proofs.names.add_declared.Given as goal

abbrev pub invariant-loop-declaration : goal.invariant-loop-declaration
invariant-loop-declaration l =
    map (λ w. w.now) l.names.items ≡ map (λ w. w.now) l.initial.names.items ++ map (λ d. d.name.now) (take l.declaration-index l.declarations)
