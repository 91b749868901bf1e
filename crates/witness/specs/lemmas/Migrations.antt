-- What is known of a disk in the course of migrations of a table of the small game.
use Rattle.std.specs.Prelude.{◌⊎◌, ℕ, [], Option, IsTrue}
use Rattle.sector_disk.specs.Disk.{Image, Shown, Disk, MayLeave}
use Rattle.game_file.specs.Kept.{Kept, Layout, in_any}
use Rattle.earlier_layouts.specs.Held.{Stores}
use Rattle.tree_table.specs.Held.{StoresTrees}
use Rattle.recover.specs.Migrations.{EitherLayout, AreMigrations, IsMigrated, IsCurrent, IsNotMigrated}
use Rattle.solver.specs.declared.fault.SolverFault.{SolverFault}
use Rattle.solver.specs.Held.{IsSound}
use Rattle.solver.specs.Histories.{HistoryFrom}
use Rattle.witness.specs.lemmas.Sittings.{IsItFinished}

-- every stop of an honest disk leaves this table of the small game, which is finished
pub record IsLeftFinished (Layouts : ℕ → Layout) (disk : Disk) : Type 0 where
  pub honest : IsTrue disk.honest
  pub kept : Option Kept
  pub sound : IsSound kept
  pub finished : IsItFinished kept
  pub leaves : (image : Image) → MayLeave disk.now image → in_any Layouts image kept

-- the layouts before today's
abbrev pub EarlierLayouts : ℕ → Layout
EarlierLayouts = EitherLayout Stores (StoresTrees 2)

-- an honest disk as it is found in the course of migrations of a table of the small game, which was finished before the
-- first of them
pub record IsInMigrations (disk : Disk) : Type 0 where
  pub honest : IsTrue disk.honest
  pub kept : Option Kept
  pub sound : IsSound kept
  pub finished : IsItFinished kept
  pub before : Shown
  pub going : AreMigrations EarlierLayouts (StoresTrees 3) kept before
  pub as_left : (image : Image) → MayLeave disk.now image → MayLeave before image

-- a migration has begun with the one disk, and the other is what it left, whatever it answered
abbrev pub WasBegun : (ℕ → Layout) → (ℕ → Layout) → Disk → ℕ → Disk → ℕ → Type 0
WasBegun Earlier Today disk count back now = IsMigrated Earlier Today disk count back now
    ⊎ (IsCurrent Earlier Today disk count back now
    ⊎ ((why : SolverFault) × IsNotMigrated Earlier Today disk count back now why))

-- a history of a finished table of the small game has come to what the disk shows
pub record GoesOnFinished (disk : Disk) : Type 0 where
  pub honest : IsTrue disk.honest
  pub kept : Option Kept
  pub sound : IsSound kept
  pub finished : IsItFinished kept
  pub history : HistoryFrom (StoresTrees 3) kept [] disk.now
