-- What the calls on a solver leave of it, and why they are refused: a record for each.
use Rattle.std.specs.Prelude.{◌≡◌, ◌≢◌, ℕ, List, [], true, false, Option, None, Some, IsSome, IsTrue}
use Rattle.std.specs.Prelude.{Result, IsOk, IfErr, OnErr, IsErrOf}
use Rattle.sector_disk.specs.Disk.{Disk}
use Rattle.sector_disk.specs.declared.disk.SectorDisk.{Ghosts as OfDisk}
use Rattle.table.specs.declared.table.Table.{Ghosts as OfTable}
use Rattle.retrograde.specs.Stored.{Stored}
use Rattle.game_file.specs.Calls.{IsAsked, IsNotOpened}
use Rattle.game_file.specs.Growth.{IsNoGrowth, IsNotGrown}
use Rattle.game_file.specs.Kept.{Kept, Layout, Older, in_any}
use Rattle.game_file.specs.State.{State}
use Rattle.game_file.specs.Stops.{LeavesNow}
use Rattle.game_file.specs.declared.file.GameFile.{Ghosts as OfFile}
use Rattle.solver.specs.declared.commands.FileSolver.{FileSolver}
use Rattle.solver.specs.declared.fault.SolverFault.{SolverFault}
use Rattle.solver.specs.declared.fault.SolverFault.TheVariants as faults
use Rattle.solver.specs.declared.replies.Command.{Command as Asked}
use Rattle.solver.specs.declared.replies.Reply.{Reply}
use Rattle.solver.specs.Growth.{GrowthCause}
use Rattle.solver.specs.Headline.{IsUnlucky}
use Rattle.solver.specs.Held.{Holds, IsSound}
use Rattle.solver.specs.Listings.{BeginCause, NextCause}
use Rattle.solver.specs.Machine.{load, work, IsShortOfPages}
use Rattle.solver.specs.Opened.{IsOpened, LayoutCause, OpenCause}
use Rattle.solver.specs.Solvers.{state, IsReady}
use Rattle.solver.specs.Steps.{IsRefused}

-- a game is loaded, and the solver is open
pub record HasGame (state : State) : Type 0 where
  pub is_open : state.closed ≡ false
  pub some : IsSome state.kept

-- of a closed solver E9 is the answer, and else of one in which no game is loaded S1
pub record NeedsGame {X : Type 0} (result : Result X SolverFault) (state : State) : Type 0 where
  pub closed : state.closed ≡ true → IsErrOf result faults.Closed
  pub no_game : state.closed ≡ false → state.kept ≡ None → IsErrOf result faults.NoGame

-- no game is loaded, and the solver is open
pub record HasNoGame (state : State) : Type 0 where
  pub is_open : state.closed ≡ false
  pub none : state.kept ≡ None

-- of a closed solver E9 is the answer, and else of one in which a game is loaded S2
pub record NeedsNoGame {X : Type 0} (result : Result X SolverFault) (state : State) : Type 0 where
  pub closed : state.closed ≡ true → IsErrOf result faults.Closed
  pub already : state.closed ≡ false → IsSome state.kept → IsErrOf result faults.GameAlready

-- why `open` gives a disk back: one that holds a table is refused for want of luck alone
pub record IsNotOpenedFor (Stores : ℕ → Layout) (IsOlder : Older) (on : Disk) (count : ℕ) (back : Disk) (now : ℕ)
    (why : SolverFault) : Type 0 where
  pub unlucky : (kept : Option Kept) → IsTrue on.honest → Holds (in_any Stores) on.now.contents kept
      → IsUnlucky count now why
  pub refused : IsNotOpened on count back now
  pub cause : OpenCause Stores on count now why
  pub older : LayoutCause IsOlder on why

module _ {F Device : Type 0} {file : OfFile F Device} {table : OfTable F} {disk : OfDisk Device} where
  -- a solver as `open` gives it: one that holds a table gives that table
  pub record IsOpenedOn (on : Disk) (count : ℕ) (solver : FileSolver F Device file table disk) : Type 0 where
    pub ready : IsReady solver
    pub opened : IsOpened file.stores on count (state solver)
    pub gives : (kept : Option Kept) → IsTrue on.honest → Holds (in_any file.stores) on.now.contents kept
        → ((state solver).kept ≡ kept) × LeavesNow (file.stores (state solver).capacity) (state solver).disk kept

  module _ (old new : FileSolver F Device file table disk) where
    -- what a question leaves, answered or refused: nothing is changed, neither in memory nor of what a stop leaves
    pub record IsOnlyAsked : Type 0 where
      pub ready : IsReady old → IsReady new
      pub lasts : file.lasts old.file new.file
      pub asked : IsReady old → IsAsked file.stores (state old) (state new)

    -- why a question is refused: E9 first, then S1, and else for a cause of its own
    pub record IsUntold {X : Type 0} (Cause : State → State → SolverFault → Type 0) (result : Result X SolverFault)
        : Type 0 where
      pub cause : IsReady old → IfErr result (Cause (state old) (state new))
      pub closed : (state old).closed ≡ true → IsErrOf result faults.Closed × (new ≡ old)
      pub no_game : (state old).closed ≡ false → (state old).kept ≡ None → IsErrOf result faults.NoGame × (new ≡ old)

    -- what a command or a growth leaves, done or refused: a later state of the solver, as ready, and its table as sound
    pub record IsLeft (Ahead : State → State → Type 0) : Type 0 where
      pub ready : IsReady old → IsReady new
      pub lasts : file.lasts old.file new.file
      pub ahead : Ahead (state old) (state new)
      pub sound : IsReady old → IsTrue (state old).disk.honest → IsSound (state old).kept → IsSound (state new).kept

    -- why `load` is refused: E9 first, then S2
    pub record IsNotLoaded {X : Type 0} (text : List ℕ) (goal : Option ℕ) (result : Result X SolverFault) : Type 0 where
      pub refused : IsReady old → IfErr result (IsRefused file.stores (load text goal) (state old) (state new))
      pub closed : (state old).closed ≡ true → IsErrOf result faults.Closed × (new ≡ old)
      pub already : (state old).closed ≡ false → IsSome (state old).kept
          → IsErrOf result faults.GameAlready × (new ≡ old)

    -- why `work` is refused: E9 first, then S1; and E7 only where no more pages are free than the units may take
    pub record IsNotWorked {X : Type 0} (units free : ℕ) (result : Result X SolverFault) : Type 0 where
      pub refused : IsReady old → IfErr result (IsRefused file.stores (work units) (state old) (state new))
      pub closed : (state old).closed ≡ true → IsErrOf result faults.Closed × (new ≡ old)
      pub no_game : (state old).closed ≡ false → (state old).kept ≡ None → IsErrOf result faults.NoGame × (new ≡ old)
      pub full : IsReady old → IsTrue (state old).disk.honest
          → IfErr result (λ why. why ≡ faults.TableFull → IsShortOfPages units free (state old).kept)

    -- why `grow` is refused: E9 first, then E6; and only a disk that failed closes the solver
    pub record IsNotGrownFor {X : Type 0} (pages : ℕ) (result : Result X SolverFault) : Type 0 where
      pub refused : IsReady old → OnErr result (IsNotGrown file.stores pages (state old) (state new))
      pub cause : IfErr result (GrowthCause pages (state old) (state new))
      pub closed : (state old).closed ≡ true → IsErrOf result faults.Closed × (new ≡ old)
      pub small : (state old).closed ≡ false → IsNoGrowth pages (state old).capacity
          → IsErrOf result faults.TooSmall × (new ≡ old)
      pub still : IfErr result (λ why. why ≢ faults.Disk → (state new).closed ≡ (state old).closed)

    -- why a run is refused: memory is short, and then nothing is done or answered. A run of no commands never is
    pub record IsNotRun {X : Type 0} (commands : List Asked) (before after : List Reply) (result : Result X SolverFault)
        : Type 0 where
      pub fault : IfErr result (λ why. why ≡ faults.OutOfMemory)
      pub refused : OnErr result (new ≡ old)
      pub unanswered : OnErr result (after ≡ before)
      pub none : commands ≡ [] → IsOk result × (new ≡ old) × (after ≡ before)

    -- what beginning and ending a listing leave: on an honest disk all that is said of a solver
    pub record IsSameFor : Type 0 where
      pub ready : IsReady old → IsReady new
      pub state : IsReady old → IsTrue (state old).disk.honest → state new ≡ state old

    module _ {Version : Type 0} (IsVersion : Version → Stored (List ℕ) → F → Type 0) where
      -- this version of the table of the last commit is kept, from number 0 on, and the others that were are still
      pub record IsBegun (AreTwo : Version → Version → Type 0) (version : Version) (next : ℕ) : Type 0 where
        pub begun : IsReady old → IsTrue (state old).disk.honest → (kept : Kept) → (state old).kept ≡ Some kept
            → IsVersion version kept.table new.file
        pub first : next ≡ 0
        pub others : (other : Version) (it : Stored (List ℕ)) → IsVersion other it old.file
            → AreTwo other version × IsVersion other it new.file

      -- why none is begun: E9 first, then S1, then S9; what was kept still is
      pub record IsNotBegun {X : Type 0} (IsUsedUp : F → Type 0) (result : Result X SolverFault) : Type 0 where
        pub refused : OnErr result (state new ≡ state old)
        pub left : (other : Version) (it : Stored (List ℕ)) → IsVersion other it old.file
            → OnErr result (IsVersion other it new.file)
        pub cause : IfErr result (BeginCause (state old) (IsUsedUp old.file))
        pub closed : (state old).closed ≡ true → IsErrOf result faults.Closed
        pub no_game : (state old).closed ≡ false → (state old).kept ≡ None → IsErrOf result faults.NoGame
        pub fifth : (state old).closed ≡ false → IsSome (state old).kept → IsUsedUp old.file
            → IsErrOf result faults.ListingsUsedUp

      -- why the next rows of the listing of a version are not given: E9 first
      pub record IsNotGiven {X : Type 0} (version : Version) (result : Result X SolverFault) : Type 0 where
        pub cause : (it : Stored (List ℕ)) → IsReady old → IsVersion version it old.file
            → IfErr result (NextCause (state old) (state new))
        pub closed : (state old).closed ≡ true → IsErrOf result faults.Closed × (new ≡ old)
