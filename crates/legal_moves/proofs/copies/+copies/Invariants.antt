use Rattle.std.proofs.Common.{◌≡◌, map, take}
use Rattle.rbg_game.specs.Meaning.{expression_of}
use Rattle.legal_moves.proofs.copies.+copies.Given as goal

abbrev pub invariant-copied_expressions-loop-expr : goal.invariant-copied_expressions-loop-expr
invariant-copied_expressions-loop-expr l =
    map expression_of l.copies.items ≡ map expression_of (take l.expr-index l.exprs)
