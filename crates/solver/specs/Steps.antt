-- What a command on a solver does, by what it answers.
use Rattle.std.specs.Prelude.{◌≡◌, ◌≢◌, ℕ}
use Rattle.game_file.specs.Kept.{Layout}
use Rattle.game_file.specs.State.{State}
use Rattle.solver.specs.declared.fault.SolverFault.{SolverFault}
use Rattle.solver.specs.declared.fault.SolverFault.TheVariants.{Disk}
use Rattle.solver.specs.declared.replies.Reply.{Reply}
use Rattle.solver.specs.declared.replies.Reply.TheVariants.{Refused}
use Rattle.solver.specs.Machine.{Command, MayDo, Step}
use Rattle.solver.specs.Stops.{StopsDone, StopsRefused}

module _ (Stores : ℕ → Layout) where
  -- the command is done with this reply
  pub record IsDone (command : Command) (reply : Reply) (old new : State) : Type 0 where
    pub step : Step command old reply new
    pub stops : StopsDone Stores old new

  -- the command is refused for this fault; only a disk that failed closes the solver
  pub record IsRefused (command : Command) (old new : State) (fault : SolverFault) : Type 0 where
    pub step : Step command old (Refused fault) new
    pub stops : StopsRefused Stores (MayDo command old.kept) old new
    pub still : fault ≢ Disk → new.closed ≡ old.closed
