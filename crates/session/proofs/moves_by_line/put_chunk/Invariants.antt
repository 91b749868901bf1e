use Rattle.std.proofs.Common.{ℕ, List, ◌++◌, take, Option}
use Rattle.legal_moves.specs.Compiled.{compiled_game}
use Rattle.session.specs.ByLine.{ArePositionsUnderWay}
use Rattle.session.proofs.moves_by_line.put_chunk.Given as goal

abbrev pub invariant-loop-byte : goal.invariant-loop-byte
invariant-loop-byte g l = (bytes : List ℕ) (before : Option (List ℕ))
    → ArePositionsUnderWay (compiled_game l.book) bytes before l.fn.line (g.W.Write.contents l.fn.out)
    → ArePositionsUnderWay (compiled_game l.book) (bytes ++ take l.byte-index l.chunk) before l.line (g.W.Write.contents l.out)
