use Rattle.std.proofs.Common.{ℕ, List, ◌++◌, take}
use Rattle.std.specs.Prelude.{IsTrue}
use Rattle.solver.specs.Solvers.{state, IsReady}
use Rattle.session.specs.Seen.{Seen, seen}
use Rattle.session.specs.Sessions.{SessionState, IsUnderWay, session_state}
use Rattle.session.proofs.line_by_line.answer_chunk.Given as goal

abbrev pub invariant-loop-byte : goal.invariant-loop-byte
invariant-loop-byte g l =
    (IsReady l.fn.solver → IsReady l.solver)
    × (IsReady l.fn.solver → IsTrue (state l.fn.solver).disk.honest → IsTrue (state l.solver).disk.honest)
    × (IsReady l.fn.solver → IsTrue (state l.fn.solver).disk.honest
    → (bytes : List ℕ) (begins : SessionState g.row.F.Denot g.row.F-Version.Denot) (before : Seen)
    → IsUnderWay g.F.GameFile.stores g.F.GameFile.state g.F.Versions.is_version g.F.Versions.are_two g.F.Versions.is_used_up g.F.GameFile.lasts bytes begins before
    (session_state l.fn.solver.file l.fn.dialogue.manner) l.fn.dialogue.line (seen state g.W.Write.contents l.fn.out l.fn.moments)
    → IsUnderWay g.F.GameFile.stores g.F.GameFile.state g.F.Versions.is_version g.F.Versions.are_two g.F.Versions.is_used_up g.F.GameFile.lasts (bytes ++ take l.byte-index l.chunk)
    begins before (session_state l.solver.file l.dialogue.manner) l.dialogue.line (seen state g.W.Write.contents l.out l.moments))
