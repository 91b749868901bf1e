use Rattle.std.proofs.Common.{◌≡◌, ◌+◌, ◌-◌, ◌≤◌, length, take}
use Rattle.std.specs.Vec.{vec_len, vec_capacity}
use Rattle.solver.specs.Frames.{IsLeft}
use Rattle.solver.specs.Runs.{IsRun}
use Rattle.game_file.specs.State.{GoesAhead}
use Rattle.solver.specs.Solvers.{state, IsReady}
use Rattle.solver.proofs.commands.FileSolver.run.Given as goal

abbrev pub invariant-loop-command : goal.invariant-loop-command
invariant-loop-command g l =
    record {
      room : vec_len l.replies + (length l.fn.commands - l.command-index) ≤ vec_capacity l.replies;
      many : length l.replies.items ≡ length l.fn.replies.items + l.command-index;
      left : IsLeft l.fn.self l.self GoesAhead;
      run : IsReady l.fn.self
          → IsRun g.F.GameFile.stores (take l.command-index l.fn.commands) l.fn.replies.items l.replies.items (state l.fn.self) (state l.self);
    }
