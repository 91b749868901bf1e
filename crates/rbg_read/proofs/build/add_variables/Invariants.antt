use Rattle.std.proofs.Common.{◌≡◌, ◌++◌, take, map}
use Rattle.rbg_text.specs.Said.{declaration_view}
use Rattle.rbg_game.specs.Meaning.{variable_of}
use Rattle.rbg_read.specs.Means.{declared}
use Rattle.rbg_read.proofs.build.add_variables.Given as goal

abbrev pub invariant-loop-declaration : goal.invariant-loop-declaration
invariant-loop-declaration l =
    map variable_of l.variables.items
    ≡ map variable_of l.initial.variables.items ++ map (λ d. declared (declaration_view d)) (take l.declaration-index l.declarations)
