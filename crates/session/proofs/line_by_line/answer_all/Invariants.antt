use Rattle.std.proofs.Common.{ℕ, List, []}
use Rattle.std.specs.Prelude.{IsTrue}
use Rattle.std.specs.Io.KnownBytes.{Consumes}
use Rattle.solver.specs.Solvers.{state, IsReady}
use Rattle.session.specs.Cut.{HasRead}
use Rattle.session.specs.Seen.{seen}
use Rattle.session.specs.Sessions.{IsUnderWay, session_state}
use Rattle.session.proofs.line_by_line.answer_all.Given as goal

abbrev pub invariant-loop-turn : goal.invariant-loop-turn
invariant-loop-turn g l =
    (IsReady l.fn.solver → IsReady l.solver)
    × (IsReady l.fn.solver → IsTrue (state l.fn.solver).disk.honest → IsTrue (state l.solver).disk.honest)
    × (IsReady l.fn.solver → IsTrue (state l.fn.solver).disk.honest → HasRead l.fn.dialogue.line [] → (bytes : List ℕ)
    × Consumes (g.R.Read.remaining l.fn.input) (g.R.Read.remaining l.input) bytes
    × IsUnderWay g.F.GameFile.stores g.F.GameFile.state g.F.Versions.is_version g.F.Versions.are_two g.F.Versions.is_used_up g.F.GameFile.lasts bytes
    (session_state l.fn.solver.file l.fn.dialogue.manner) (seen state g.W.Write.contents l.fn.out l.fn.moments) (session_state l.solver.file l.dialogue.manner)
    l.dialogue.line
    (seen state g.W.Write.contents l.out l.moments))
