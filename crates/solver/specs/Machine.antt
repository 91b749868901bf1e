-- The machine: which reply and which next table may follow which command.
use Rattle.std.specs.Prelude.{◌≡◌, ◌≢◌, ℕ, ◌<◌, true, List, Option, None, Some, IsSome, IsTrue}
use Rattle.sector_disk.specs.Disk.{Grew}
use Rattle.rbg_game.specs.Games.{Game}
use Rattle.rbg_read.specs.Reads.{Reads, Fault}
use Rattle.rbg_read.specs.declared.fault.GameFault.{GameFault}
use Rattle.rbg_read.specs.declared.fault.GameFault.TheVariants as game_fault
use Rattle.position_pack.specs.declared.kind.PackingKind.TheVariants.{Bits}
use Rattle.legal_moves.specs.Sources.{graph_of}
use Rattle.retrograde.specs.declared.records.Counts.{Counts}
use Rattle.retrograde.specs.Changes.{counts_of}
use Rattle.retrograde.specs.Sound.{IsLocallySound}
use Rattle.retrograde.specs.Stored.{loaded, view_of}
use Rattle.retrograde.specs.View.{IsFinished}
use Rattle.frontier.specs.declared.fault.StepFault.{StepFault}
use Rattle.frontier.specs.declared.fault.StepFault.TheVariants as step
use Rattle.game_table.specs.Entries.{WantsPages}
use Rattle.game_table.specs.Work.{AreDone, StopsWith}
use Rattle.game_file.specs.Kept.{Kept}
use Rattle.game_file.specs.State.{State}
use Rattle.solver.specs.declared.fault.SolverFault.{SolverFault}
use Rattle.solver.specs.declared.fault.SolverFault.TheVariants.{Disk, Damaged, TableFull, OutOfMemory, Closed, Game as BadGame, NoGame}
use Rattle.solver.specs.declared.fault.SolverFault.TheVariants.{GameAlready, KeeperChooses, TooWide, TooManyPositions, Inconsistent}
use Rattle.solver.specs.declared.replies.Reply.{Reply}
use Rattle.solver.specs.declared.replies.Reply.TheVariants.{Loaded, Worked, Refused}
use Rattle.solver.specs.Held.{IsSound, graph_in, wide_in}
use Rattle.solver.specs.State.{IsOfOtherOrigin}

-- what changes the table
pub data Command : Type 0 where
  load : (text : List ℕ) (goal : Option ℕ) → Command
  work : (units : ℕ) → Command

-- no game was loaded, and now the game that the text reads to is, with this goal, its positions packed by bits, and its start known
-- and no more
pub record Loads (text : List ℕ) (goal : Option ℕ) (old new : Option Kept) : Type 0 where
  pub none : old ≡ None
  pub game : Game
  pub reads : Reads text game
  pub is : new ≡ Some (record { text = text; packing = Bits; goal = goal; table = loaded (graph_of Bits goal game).start })

-- this many units were asked of the old table and these were done, fewer only if the new one is finished; these are its counts. Nothing is said
-- of a table that is not sound
pub record WorksOnTable (units : ℕ) (old : Option Kept) (done : ℕ) (counts : Counts) (new : Option Kept) : Type 0 where
  pub was : Kept
  pub loaded : old ≡ Some was
  pub is : Kept
  pub worked : new ≡ Some is
  pub same_text : is.text ≡ was.text
  pub same_packing : is.packing ≡ was.packing
  pub same_goal : is.goal ≡ was.goal
  pub work : (game : Game) → Reads was.text game → IsLocallySound (graph_in game was) (wide_in game was) was.table
      → AreDone (graph_in game was) (wide_in game was) units was.table done is.table
  pub counted : counts ≡ counts_of is.table

-- what a command with this reply does to the table: it is done where the reply says so, and a refusal leaves the table
abbrev pub Does : Reply → Command → Option Kept → Option Kept → Type 0
Does Loaded (load text goal) old new = Loads text goal old new
Does (Worked done counts) (work units) old new = WorksOnTable units old done counts new
Does (Refused fault) command old new = new ≡ old
Does _ _ old new = ⊥

-- what it may do: it is done or leaves the table
abbrev pub MayDo : Command → Option Kept → Option Kept → Type 0
MayDo command old new = (reply : Reply) × Does reply command old new

-- fewer units than were asked lead to a table whose next unit has this fault with its cause
abbrev pub StopsAt : ℕ → Option Kept → StepFault → Type 0
StopsAt units None fault = ⊥
StopsAt units (Some kept) fault =
    (game : Game) → Reads kept.text game → IsLocallySound (graph_in game kept) (wide_in game kept) kept.table
    → StopsWith (graph_in game kept) (wide_in game kept) kept.table units fault

-- the first fault of a text; out of memory needs no cause
abbrev pub TextCause : List ℕ → GameFault → Type 0
TextCause text fault = fault ≢ game_fault.OutOfMemory → Fault text fault

-- why `load` is refused
abbrev pub LoadCause : List ℕ → State → State → SolverFault → Type 0
LoadCause text old new Disk = Grew old.failures new.failures
LoadCause text old new Damaged = ¬ IsTrue old.disk.honest
LoadCause text old new TableFull = (old.capacity < 24) × ((game : Game) × Reads text game)
LoadCause text old new OutOfMemory = Unit {0}
LoadCause text old new Closed = old.closed ≡ true
LoadCause text old new (BadGame fault) = TextCause text fault
LoadCause text old new GameAlready = IsSome old.kept
LoadCause text old new _ = ⊥

-- a game is loaded, and something is left to do in its table; nothing is said of one that is not sound
abbrev pub IsUnfinished : Option Kept → Type 0
IsUnfinished None = ⊥
IsUnfinished (Some kept) = IsSound (Some kept) → ¬ IsFinished (view_of kept.table)

-- a game is loaded, and no more pages are free than 49 for each entry of the trees that so many units may write; nothing is said of a table
-- that is not sound
abbrev pub IsShortOfPages : ℕ → ℕ → Option Kept → Type 0
IsShortOfPages units free None = ⊥
IsShortOfPages units free (Some kept) =
    (game : Game) → Reads kept.text game → IsLocallySound (graph_in game kept) (wide_in game kept) kept.table
    → WantsPages (graph_in game kept) (wide_in game kept) kept.table units free

-- for a command: of one that works; of another nothing is said
abbrev pub IsCommandShort : Command → ℕ → Option Kept → Type 0
IsCommandShort (load text goal) free kept = Unit {0}
IsCommandShort (work units) free kept = IsShortOfPages units free kept

-- why `work` is refused; how few pages are free then, `full` of the call says
abbrev pub WorkCause : ℕ → State → State → SolverFault → Type 0
WorkCause units old new Disk = Grew old.failures new.failures
WorkCause units old new Damaged = ¬ IsTrue old.disk.honest
WorkCause units old new TableFull = IsTrue old.disk.honest → IsUnfinished old.kept
WorkCause units old new OutOfMemory = Unit {0}
WorkCause units old new Closed = old.closed ≡ true
WorkCause units old new NoGame = old.kept ≡ None
WorkCause units old new (KeeperChooses number) = IsTrue old.disk.honest → StopsAt units old.kept (step.KeeperChooses number)
WorkCause units old new TooWide = IsTrue old.disk.honest → StopsAt units old.kept step.TooWide
WorkCause units old new TooManyPositions = IsTrue old.disk.honest → StopsAt units old.kept step.TooManyPositions
WorkCause units old new Inconsistent = IsOfOtherOrigin old
WorkCause units old new _ = ⊥

-- a command has such a reply, and where it is refused a cause of that
abbrev pub HasReason : Reply → Command → State → State → Type 0
HasReason Loaded (load text goal) old new = Unit {0}
HasReason (Worked done counts) (work units) old new = Unit {0}
HasReason (Refused fault) (load text goal) old new = LoadCause text old new fault
HasReason (Refused fault) (work units) old new = WorkCause units old new fault
HasReason _ _ old new = ⊥

-- from the one state to the other by this command with this reply. What is said of what is kept is said of an honest disk
pub record Step (command : Command) (old : State) (reply : Reply) (new : State) : Type 0 where
  pub does : IsTrue old.disk.honest → Does reply command old.kept new.kept
  pub reason : HasReason reply command old new
