-- Games that no limit keeps from being solved, and what else may.
use Rattle.std.specs.Prelude.{◌≡◌, ◌^◌, ℕ, true, List}
use Rattle.sector_disk.specs.Disk.{Grew}
use Rattle.retrograde.specs.Expands.{IsChoice}
use Rattle.retrograde.specs.Graph.{Graph, IsReachable}
use Rattle.game_file.specs.State.{State}
use Rattle.solver.specs.Machine.{IsUnfinished}
use Rattle.solver.specs.declared.fault.SolverFault.{SolverFault}
use Rattle.solver.specs.declared.fault.SolverFault.TheVariants.{Disk, TableFull, OutOfMemory, Closed}
use Rattle.progress.specs.Enough.{HasAtMost}

-- play comes to no position whose moves are a search that is too wide, to none where the keeper has a choice, and to 2^24 at most
pub record IsWithinLimits (graph : Graph (List ℕ)) (IsWide : List ℕ → Type 0) : Type 0 where
  pub narrow : (x : List ℕ) → IsReachable graph x → ¬ IsWide x
  pub forced : (x : List ℕ) → IsReachable graph x → ¬ IsChoice graph x
  pub few : HasAtMost graph (2 ^ 24)

-- a call of the disk has failed; or no page was free, and something is left to do; or memory is short; or the solver was closed
abbrev pub WantsRoom : State → State → SolverFault → Type 0
WantsRoom old new Disk = Grew old.failures new.failures
WantsRoom old new TableFull = IsUnfinished old.kept
WantsRoom old new OutOfMemory = Unit {0}
WantsRoom old new Closed = old.closed ≡ true
WantsRoom old new _ = ⊥
