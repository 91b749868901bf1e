use Rattle.std.proofs.Common.{map}
use Rattle.legal_moves.specs.lemmas.Boards.{boards_in}
use Rattle.legal_moves.specs.lemmas.Configurations.{AreEnds}
use Rattle.legal_moves.specs.lemmas.Stands.{stood}
use Rattle.legal_moves.proofs.moves.ends_by_bytes.Given as goal

abbrev pub invariant-loop-index : goal.invariant-loop-index
invariant-loop-index l = AreEnds (map (stood (boards_in l.boards)) l.stands) l.index l.ends
