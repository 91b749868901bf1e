-- A refusal that changes nothing.
use Rattle.std.proofs.Common.{◌≡◌, ℕ, Bool, false, true, refl}
use Rattle.std.specs.Prelude.{IsTrue}
use Rattle.sector_disk.specs.lemmas.Moments.{leaves_now}
use Rattle.game_file.specs.Kept.{Layout}
use Rattle.game_file.specs.State.{State}
use Rattle.game_file.specs.Stops.{LeavesNow}
use Rattle.solver.specs.declared.fault.SolverFault.{SolverFault}
use Rattle.solver.specs.declared.replies.Reply.TheVariants.{Refused}
use Rattle.solver.specs.Machine.{Command, Step}
use Rattle.solver.specs.Steps.{IsRefused}

pub apart : (b : Bool) → b ≡ false → b ≡ true → ⊥
apart b one other = cc

-- what was kept is, and a stop leaves it
pub nothing_done : (Stores : ℕ → Layout) (command : Command) (state : State) (fault : SolverFault)
    → (IsTrue state.disk.honest → state.closed ≡ false → LeavesNow (Stores state.capacity) state.disk state.kept) → Step command state (Refused fault) state
    → IsRefused Stores command state state fault
nothing_done Stores command state fault leaves step = record {
  step = step;
  stops = record {
    commits = refl;
    counts = refl;
    text = refl;
    packing = refl;
    goal = refl;
    same = λ honest. refl;
    since = λ honest is_open. leaves_now state.disk (leaves honest is_open);
    failed = λ honest was is. absurd (apart state.closed was is);
  };
  still = λ other. refl;
}
