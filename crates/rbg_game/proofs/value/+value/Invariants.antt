use Rattle.std.proofs.Common.{◌≡◌, take, map, fold}
use Rattle.rbg_game.specs.Expressions.{number, sum, product, value_of}
use Rattle.rbg_game.specs.Meaning.{expression_of}
use Rattle.rbg_game.proofs.value.+value.Given as goal

abbrev pub decreases-value : goal.decreases-value
decreases-value l = goal.size-value l

abbrev pub invariant-loop-term : goal.invariant-loop-term
invariant-loop-term l =
    l.total ≡ value_of l.values (fold sum (number 0) (take l.term-index (map expression_of l.term-items)))

abbrev pub invariant-loop-factor : goal.invariant-loop-factor
invariant-loop-factor l =
    l.total ≡ value_of l.values (fold product (number 1) (take l.factor-index (map expression_of l.factor-items)))
