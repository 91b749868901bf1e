use Rattle.std.proofs.Common.{◌≡◌, ◌<◌, ◌++◌, map, reverse, length}
use Rattle.legal_moves.specs.Shown.{shown_to}
use Rattle.legal_moves.specs.lemmas.Boards.{boards_in}
use Rattle.legal_moves.specs.lemmas.Stands.{stood}
use Rattle.legal_moves.proofs.moves.Moves.word.Given as goal

abbrev pub invariant-loop-at : goal.invariant-loop-at
invariant-loop-at l = record {
  shown : shown_to (map (stood (boards_in l.self-inside.boards)) l.self-inside.stands.items) l.at l.at
      ++ reverse (map (λ m. (m.number, m.vertex)) l.word.items) ≡ shown_to
      (map (stood (boards_in l.self-inside.boards)) l.self-inside.stands.items) l.initial.at l.initial.at;
  within : l.at < length l.self-inside.stands.items;
}

abbrev pub decreases-loop-at : goal.decreases-loop-at
decreases-loop-at l = l.at
