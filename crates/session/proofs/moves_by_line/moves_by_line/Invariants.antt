use Rattle.std.proofs.Common.{ℕ, List}
use Rattle.std.specs.Io.KnownBytes.{Consumes}
use Rattle.legal_moves.specs.Compiled.{compiled_game}
use Rattle.session.specs.ByLine.{ArePositionsUnderWay}
use Rattle.session.proofs.moves_by_line.moves_by_line.Given as goal

abbrev pub invariant-loop-turn : goal.invariant-loop-turn
invariant-loop-turn g l = (bytes : List ℕ) × Consumes (g.R.Read.remaining l.fn.input) (g.R.Read.remaining l.input) bytes
    × ArePositionsUnderWay (compiled_game l.book) bytes (g.W.Write.contents l.fn.out) l.line (g.W.Write.contents l.out)
