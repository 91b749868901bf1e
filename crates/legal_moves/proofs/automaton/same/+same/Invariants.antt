use Rattle.std.proofs.Common.{◌≡◌, map, take}
use Rattle.rbg_game.specs.Meaning.{regex_of}
use Rattle.legal_moves.proofs.automaton.same.+same.Given as goal

abbrev pub invariant-are_all_same-loop-at : goal.invariant-are_all_same-loop-at
invariant-are_all_same-loop-at l = take l.at (map regex_of l.left) ≡ take l.at (map regex_of l.right)
