use Rattle.std.proofs.Common.{◌≡◌, map, take}
use Rattle.rbg_game.specs.Meaning.{expression_of}
use Rattle.legal_moves.proofs.automaton.same.+numbers.Given as goal

abbrev pub invariant-are_all_same_numbers-loop-at : goal.invariant-are_all_same_numbers-loop-at
invariant-are_all_same_numbers-loop-at l = take l.at (map expression_of l.left) ≡ take l.at (map expression_of l.right)
