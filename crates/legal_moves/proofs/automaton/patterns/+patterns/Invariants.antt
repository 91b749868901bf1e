use Rattle.std.proofs.Common.{◌≡◌, ◌++◌, map, take, flat_map}
use Rattle.rbg_game.specs.Meaning.{regex_of}
use Rattle.legal_moves.specs.Tables.{inner_of}
use Rattle.legal_moves.proofs.automaton.patterns.+patterns.Given as goal

abbrev pub invariant-list_patterns_of-loop-part : goal.invariant-list_patterns_of-loop-part
invariant-list_patterns_of-loop-part l =
    map (λ r. regex_of r.now) l.list.items ≡ map (λ r. regex_of r.now) l.initial.list.items ++ flat_map inner_of (take l.part-index (map regex_of l.parts))
