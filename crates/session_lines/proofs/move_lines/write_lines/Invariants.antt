use Rattle.std.proofs.Common.{ℕ, List, take}
use Rattle.std.specs.Io.KnownBytes.{Appends}
use Rattle.legal_moves.specs.Compiled.{compiled_game}
use Rattle.session_lines.specs.Lines.{AreLinesOfMoves}
use Rattle.session_lines.proofs.move_lines.write_lines.Given as goal

abbrev pub invariant-loop-k : goal.invariant-loop-k
invariant-loop-k g l =
    (written : List ℕ) × AreLinesOfMoves (compiled_game l.compiled) (take l.k l.moves) written
    × Appends (g.W.Write.contents l.fn.out) (g.W.Write.contents l.out) written
