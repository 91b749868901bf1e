-- How a table is kept between two calls.
use Rattle.std.specs.Prelude.{◌≡◌, ◌<◌, ◌≤◌, ℕ, IsTrue}
use Rattle.sector_disk.specs.Disk.{Disk}
use Rattle.game_file.specs.Kept.{Layout}
use Rattle.game_file.specs.State.{State}
use Rattle.session.specs.Commands.{GivesBack, IsUnopened}
use Rattle.solver.specs.Opened.{IsOpened}
use Rattle.solver.specs.Solvers.{state, IsReady}
use Rattle.solver.specs.declared.fault.SolverFault.{SolverFault}
use Rattle.byte_disk.specs.InMemory.{disk_in}
use Rattle.in_process.specs.declared.kept.Kept.{Kept}
use Rattle.in_process.specs.declared.kept.Kept.TheVariants as kept

-- as it is kept, or of the solver that is open
abbrev pub disk_kept : Kept → Disk
disk_kept (kept.Disk disk) = disk_in disk
disk_kept (kept.Open solver) = (state solver).disk

-- a solver is open on the table in this state
abbrev pub IsOpenOn : State → Kept → Type 0
IsOpenOn is (kept.Disk disk) = ⊥
IsOpenOn is (kept.Open solver) = state solver ≡ is

-- lines can be answered on it: its disk is honest, and a solver that is open is ready
abbrev pub IsAskable : Kept → Type 0
IsAskable (kept.Disk disk) = IsTrue (disk_in disk).honest
IsAskable (kept.Open solver) = IsReady solver × IsTrue (state solver).disk.honest

-- lines leave it open in this state, or, with a status that ends a session, as the disk of this state
abbrev pub IsLeftIn : State → ℕ → Kept → Type 0
IsLeftIn is status (kept.Disk disk) = (1 < status) × GivesBack is (disk_in disk) disk.failures
IsLeftIn is status (kept.Open solver) = (status ≤ 1) × (state solver ≡ is)

module _ (Stores : ℕ → Layout) where
  -- the state in which lines find it: that of its solver, or of the table that is opened on its disk
  abbrev pub IsFoundIn : State → Kept → Type 0
  IsFoundIn is (kept.Disk disk) = IsOpened Stores (disk_in disk) disk.failures is
  IsFoundIn is (kept.Open solver) = state solver ≡ is

  -- no table could be opened on its disk, which is kept
  abbrev pub IsKeptUnopened : SolverFault → Kept → Kept → Type 0
  IsKeptUnopened why (kept.Disk disk) (kept.Disk back) = IsUnopened Stores (disk_in disk) disk.failures why (disk_in back) back.failures
  IsKeptUnopened why _ _ = ⊥
