-- Listings that are open.
use Rattle.std.specs.Prelude.{◌≡◌, ◌+◌, ℕ, List, [], ◌∷◌, ◌++◌, length, true, false, None, IsTrue}
use Rattle.sector_disk.specs.Disk.{Grew}
use Rattle.retrograde.specs.Stored.{Stored, IsTable, view_of}
use Rattle.table.specs.declared.fault.TableFault.{TableFault}
use Rattle.table.specs.declared.fault.TableFault.TheVariants as table
use Rattle.best_line.specs.declared.answers.Row.{Row}
use Rattle.best_line.specs.Rows.{AreRows}
use Rattle.game_file.specs.State.{State}
use Rattle.solver.specs.declared.fault.SolverFault.{SolverFault}
use Rattle.solver.specs.declared.fault.SolverFault.TheVariants.{Disk, Damaged, OutOfMemory, Closed, NoGame, ListingsUsedUp}

-- why none is begun: the solver is closed, no game is loaded, or as many are open as there can be
abbrev pub BeginCause : State → Type 0 → SolverFault → Type 0
BeginCause old UsedUp Closed = old.closed ≡ true
BeginCause old UsedUp NoGame = (old.closed ≡ false) × (old.kept ≡ None)
BeginCause old UsedUp ListingsUsedUp = UsedUp
BeginCause old UsedUp _ = ⊥

-- why the rows of a version are not given: the disk failed; there is none such; memory ran out; or the file is closed
abbrev pub RowsCause : State → State → TableFault → Type 0
RowsCause old new table.Disk = Grew old.failures new.failures
RowsCause old new table.Damaged = Unit {0}
RowsCause old new table.TableFull = ⊥
RowsCause old new table.OutOfMemory = Unit {0}
RowsCause old new table.Closed = old.closed ≡ true

-- why the next rows of an open listing are not given: the disk failed, or is not honest; memory ran out; or the solver is closed
abbrev pub NextCause : State → State → SolverFault → Type 0
NextCause old new Disk = Grew old.failures new.failures
NextCause old new Damaged = ¬ IsTrue old.disk.honest
NextCause old new OutOfMemory = Unit {0}
NextCause old new Closed = old.closed ≡ true
NextCause old new _ = ⊥

-- one `list_next` that was answered: the file before and after it, the place of the listing, how many rows were asked for, and the rows
pub record Given (F : Type 0) : Type 0 where
  pub old : F
  pub new : F
  pub place : ℕ
  pub count : ℕ
  pub rows : List Row

-- how many rows were asked for in all
abbrev pub asked_in : {F : Type 0} → List (Given F) → ℕ
asked_in [] = 0
asked_in (given ∷ rest) = given.count + asked_in rest

-- and all that were given
abbrev pub rows_in : {F : Type 0} → List (Given F) → List Row
rows_in [] = []
rows_in (given ∷ rest) = given.rows ++ rows_in rest

module _ {F Version : Type 0} (state : F → State) (IsVersion : Version → Stored (List ℕ) → F → Type 0) where
  -- from the one file to the other this version is kept, whichever table it is, and the disk goes on keeping its word
  abbrev pub IsKeptOver : Version → F → F → Type 0
  IsKeptOver version old new = (t : Stored (List ℕ)) → IsTrue (state old).disk.honest → IsVersion version t old
      → IsTrue (state new).disk.honest × IsVersion version t new

  -- what `list_next` says of the rows, and that the version is kept over it
  pub record IsGiven (version : Version) (given : Given F) : Type 0 where
    pub rows_are : (t : Stored (List ℕ)) → IsTrue (state given.old).disk.honest → IsTable t → IsVersion version t given.old
        → AreRows (view_of t) given.place given.count given.rows
    pub kept : IsKeptOver version given.old given.new

  -- these were given of a listing one after the other, first from this file and place on, and each from the place where the one before
  -- ended; between two of them whatever was asked kept the version
  abbrev pub IsListed : Version → F → ℕ → List (Given F) → Type 0
  IsListed version file place [] = Unit {0}
  IsListed version file place (given ∷ rest) =
      IsKeptOver version file given.old × IsGiven version given × (given.place ≡ place)
      × IsListed version given.new (place + length given.rows) rest
