-- Many commands, one after another, and what a stop leaves in the course of each.
use Rattle.std.specs.Prelude.{◌≡◌, ℕ, true, false, List, [], ◌∷◌, ◌++◌, map, Option, IsTrue}
use Rattle.rbg_game.specs.Goals.{points_of}
use Rattle.game_file.specs.Kept.{Kept, Layout}
use Rattle.game_file.specs.State.{State, GoesAhead}
use Rattle.game_file.specs.Stops.{LeavesNow, LeavesEither}
use Rattle.solver.specs.declared.fault.SolverFault.TheVariants.{Disk as DiskFailed, Closed}
use Rattle.solver.specs.declared.replies.Command.{Command as Asked}
use Rattle.solver.specs.declared.replies.Command.TheVariants as asked
use Rattle.solver.specs.declared.replies.Reply.{Reply}
use Rattle.solver.specs.declared.replies.Reply.TheVariants.{Refused}
use Rattle.solver.specs.Machine.{Command, load, work, Does, MayDo, HasReason}
use Rattle.solver.specs.Units.{units_in}

-- what a command of a list asks
abbrev pub command_of : Asked → Command
command_of (asked.Load text goal) = load text.items (points_of goal)
command_of (asked.Work units) = work (units_in units)

module _ (Stores : ℕ → Layout) where
  -- a write or a sync has failed in this command: it is answered E1, and a stop since it began leaves the table before it or one
  -- that it may have come to
  pub record HasFailed (command : Command) (reply : Reply) (was is : State) : Type 0 where
    pub reply_is : reply ≡ Refused DiskFailed
    pub leaves : IsTrue was.disk.honest → (next : Option Kept) × MayDo command was.kept next
        × LeavesEither (Stores was.capacity) was.disk is.disk was.kept next

  -- one command of a run, from the state of the solver before it to the one after it. It does what its reply says. A stop between
  -- the two moments leaves the table before or the one after, and a stop at the second the one after; where a write or a sync fails
  -- in it, the solver is closed. A closed solver answers E9 and stays as it is.
  pub record IsTurn (command : Command) (reply : Reply) (was is : State) : Type 0 where
    pub does : IsTrue was.disk.honest → Does reply command was.kept is.kept
    pub ahead : GoesAhead was is
    pub between : IsTrue was.disk.honest → was.closed ≡ false → is.closed ≡ false → LeavesEither (Stores was.capacity) was.disk is.disk was.kept is.kept
    pub at : IsTrue was.disk.honest → was.closed ≡ false → is.closed ≡ false → LeavesNow (Stores is.capacity) is.disk is.kept
    pub failed : was.closed ≡ false → is.closed ≡ true → HasFailed command reply was is
    pub shut : was.closed ≡ true → (reply ≡ Refused Closed) × (is ≡ was)

  -- such a turn, and where the command is refused, a cause of that
  pub record IsTurnWithCause (command : Command) (reply : Reply) (was is : State) : Type 0 where
    pub turn : IsTurn command reply was is
    pub reason : HasReason reply command was is

  -- the commands are answered one after another, each with its reply
  abbrev pub Turns : List Command → List Reply → State → State → Type 0
  Turns [] [] was is = is ≡ was
  Turns (command ∷ commands) (reply ∷ replies) was is = (mid : State) × IsTurnWithCause command reply was mid
      × Turns commands replies mid is
  Turns _ _ was is = ⊥

  -- there are replies after those that were there, one for each command, as the commands are answered one after another; a stop at
  -- the first moment leaves the table that was there
  pub record IsRun (commands : List Asked) (before after : List Reply) (was is : State) : Type 0 where
    pub added : List Reply
    pub replies_are : after ≡ before ++ added
    pub begins : IsTrue was.disk.honest → was.closed ≡ false → LeavesNow (Stores was.capacity) was.disk was.kept
    pub turns : Turns (map command_of commands) added was is
