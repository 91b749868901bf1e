use Rattle.std.proofs.Common.{◌≡◌, vec_len}
use Rattle.std.specs.Prelude.{IsTrue}
use Rattle.solver.specs.Solvers.{state, IsReady}
use Rattle.session.proofs.dialogue.give_back.Given as goal

abbrev pub decreases-loop-listing : goal.decreases-loop-listing
decreases-loop-listing g l = vec_len l.listings

abbrev pub invariant-loop-listing : goal.invariant-loop-listing
invariant-loop-listing g l =
    (IsReady l.fn.solver → IsReady l.solver) × (IsReady l.fn.solver → IsTrue (state l.fn.solver).disk.honest → state l.solver ≡ state l.fn.solver)
