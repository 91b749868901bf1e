use Rattle.std.proofs.Common.{◌≡◌, map, take}
use Rattle.legal_moves.specs.lemmas.Boards.{boards_in}
use Rattle.legal_moves.specs.lemmas.Ends.{ends_packed}
use Rattle.legal_moves.specs.lemmas.Stands.{stood}
use Rattle.legal_moves.proofs.ends.packed_ends.Given as goal

abbrev pub invariant-loop-stand : goal.invariant-loop-stand
invariant-loop-stand l = map (λ p. p.items) l.ends.items ≡ ends_packed l.packing (take l.stand-index (map (stood (boards_in l.boards)) l.stands))
