-- The headline: what a stop of the power leaves of a table in the course of many commands, and what that says of the game.
use Rattle.std.specs.Prelude.{◌≡◌, ◌⊎◌, ◌↔◌, ℕ, ◌≤◌, ◌<◌, true, false, List, [], ◌∷◌, Option, None, Some, IsTrue}
use Rattle.sector_disk.specs.Disk.{Image, Shown, Disk, MayLeave, StopsIn, Grew}
use Rattle.rbg_game.specs.Games.{Game}
use Rattle.rbg_game.specs.declared.roles.Player.{Player}
use Rattle.rbg_read.specs.Reads.{Reads}
use Rattle.retrograde.specs.Graph.{IsReachable}
use Rattle.retrograde.specs.Stored.{view_of}
use Rattle.retrograde.specs.Values.{WonIn, Drawn}
use Rattle.retrograde.specs.View.{IsKnown, HasNumber, HasValue, IsFinished}
use Rattle.game_file.specs.Kept.{Kept, Layout, in_any}
use Rattle.game_file.specs.State.{State}
use Rattle.game_file.specs.Stops.{LeavesNow}
use Rattle.solver.specs.declared.fault.SolverFault.{SolverFault}
use Rattle.solver.specs.declared.fault.SolverFault.TheVariants.{Disk as DiskFailed, OutOfMemory}
use Rattle.solver.specs.Held.{Holds, graph_in}
use Rattle.solver.specs.Histories.{Sitting, LeadTo, IsSitting}
use Rattle.solver.specs.declared.replies.Reply.{Reply}
use Rattle.solver.specs.Machine.{Command}
use Rattle.solver.specs.Opened.{IsOpened, OpenCause}
use Rattle.solver.specs.Runs.{IsTurnWithCause, Turns}

-- what the table says is so by the rules of the game that its text reads to: each settled position is won by the named player in
-- exactly the named number of moves, and where the table says finished, its positions are those that play can come to, and the
-- unsettled are exactly the drawn
pub record SaysWhatIs (kept : Kept) (game : Game) : Type 0 where
  pub reads : Reads kept.text game
  pub won : (x : List ℕ) (w : Player) (n : ℕ) → HasValue (view_of kept.table) x w n → WonIn (graph_in game kept) w n x
  pub all : IsFinished (view_of kept.table) → (x : List ℕ) → IsKnown (view_of kept.table) x ↔ IsReachable (graph_in game kept) x
  pub drawn : IsFinished (view_of kept.table) → (i : ℕ) (x : List ℕ) → HasNumber (view_of kept.table) i x
      → ((view_of kept.table).value i ≡ None) ↔ Drawn (graph_in game kept) x

-- no game is loaded, or what the table says is so
abbrev pub IsExact : Option Kept → Type 0
IsExact None = Unit {0}
IsExact (Some kept) = (game : Game) × SaysWhatIs kept game

-- E1 where the count of failures grew, or E8
abbrev pub IsUnlucky : ℕ → ℕ → SolverFault → Type 0
IsUnlucky before now fault = ((fault ≡ DiskFailed) × Grew before now) ⊎ (fault ≡ OutOfMemory)

module _ (Stores : ℕ → Layout) where
  -- reopening gives this table: an honest disk that reads as the image is opened with it, and every stop then leaves it; or `open`
  -- is refused because the disk failed or memory ran out, and for nothing else
  pub record Reopens (image : Image) (kept : Option Kept) : Type 0 where
    pub holds : Holds (in_any Stores) image kept
    pub gives : (disk : Disk) (count : ℕ) (state : State) → IsTrue disk.honest → disk.now.contents ≡ image
        → IsOpened Stores disk count state → (state.kept ≡ kept) × LeavesNow (Stores state.capacity) state.disk kept
    pub fails : (disk : Disk) (before now : ℕ) (fault : SolverFault) → IsTrue disk.honest → disk.now.contents ≡ image
        → OpenCause Stores disk before now fault → IsUnlucky before now fault

  -- whenever the power stops after these sittings, the table that reopening gives is the one that the last of them reached behind its last
  -- answer, or what the command in doubt may do to that; each began with what the one before left so; and what the table says is so
  abbrev pub HeadlineFrom : Option Kept → List Sitting → Image → Type 0
  HeadlineFrom begins sittings image = (kept : Option Kept) × LeadTo sittings begins kept × Reopens image kept × IsExact kept

  -- the headline of a table that begins empty
  abbrev pub Headline : List Sitting → Image → Type 0
  Headline = HeadlineFrom None

  -- what of a run is answered at this moment: the first of its commands, each with its reply, in states of the run that come no later;
  -- and where there is a next command, it is in doubt: it is answered later, or a write or a sync fails in it, which closes the solver
  abbrev pub IsAnsweredBy : ℕ → List (Command × Reply) → Option Command → List Command → List Reply → State → State → Type 0
  IsAnsweredBy moment [] None [] [] was is = is ≡ was
  IsAnsweredBy moment [] (Some asked) (command ∷ commands) (reply ∷ replies) was is =
      (asked ≡ command) × ((mid : State) × IsTurnWithCause Stores command reply was mid
      × ((moment < mid.disk.clock) ⊎ (mid.closed ≡ true)) × Turns Stores commands replies mid is)
  IsAnsweredBy moment ((asked, said) ∷ answered) in_doubt (command ∷ commands) (reply ∷ replies) was is =
      (asked ≡ command) × (said ≡ reply) × ((mid : State) × IsTurnWithCause Stores command reply was mid
      × (mid.disk.clock ≤ moment) × (mid.closed ≡ false) × IsAnsweredBy moment answered in_doubt commands replies mid is)
  IsAnsweredBy _ _ _ _ _ _ _ = ⊥

  -- a stop at any moment of the run, or behind the last, ends a sitting with the first of the commands: all that were
  -- answered by then, and perhaps the next, in doubt; what it leaves holds a table that they lead to, and what that
  -- says is so
  abbrev pub LeavesAPrefix : List Command → List Reply → State → State → Type 0
  LeavesAPrefix commands replies old new =
      (moment : ℕ) (left : Shown) → StopsIn old.disk new.disk moment left
      → (sitting : Sitting) × IsAnsweredBy moment sitting.answered sitting.in_doubt commands replies old new
      × IsSitting Stores old sitting left
      × ((image : Image) → MayLeave left image
      → (kept : Option Kept) × LeadTo (sitting ∷ []) old.kept kept × Holds (Stores old.capacity) image kept × IsExact kept)
