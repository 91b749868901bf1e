-- Which commands a session tells, and what of them was told when a stop came.
use Rattle.std.specs.Prelude.{ℕ, List, [], ◌∷◌, ◌++◌, Option, Some, nat_le, if◌then◌else◌}
use Rattle.sector_disk.specs.Disk.{Disk}
use Rattle.game_file.specs.Kept.{Layout}
use Rattle.game_file.specs.State.{State}
use Rattle.retrograde.specs.Stored.{Stored}
use Rattle.solver.specs.Machine.{Command, load, work}
use Rattle.solver.specs.Units.{units_in}
use Rattle.solver.specs.declared.fault.SolverFault.TheVariants.{Disk as DiskFailed}
use Rattle.solver.specs.declared.listing.Listing.{Listing}
use Rattle.solver.specs.declared.replies.Reply.{Reply}
use Rattle.solver.specs.declared.replies.Reply.TheVariants.{Refused}
use Rattle.session_lines.specs.declared.input.Asked.{Asked}
use Rattle.session_lines.specs.declared.input.Asked.TheVariants as asked
use Rattle.rbg_game.specs.Goals.{points_of}
use Rattle.session.specs.Commands.{Came, replied}
use Rattle.session.specs.Seen.{Moment, Seen}
use Rattle.session.specs.Sessions.{SessionState, IsLineAnswered, AnswersIn, AnswersLines, EndsWithin, IsSession}
use Rattle.session.specs.Sessions.{IsSessionOver, AsItIs, WithEnd}
use Rattle.session.specs.declared.commands.FileCommand.{FileCommand}
use Rattle.session.specs.declared.commands.FileCommand.TheVariants as file
use Rattle.session.specs.declared.line_by_line.Lines.{Lines}

-- a command that was answered with this reply, which began at this moment
pub record Answer : Type 0 where
  pub command : Command
  pub reply : Reply
  pub moment : Moment

-- the command and its reply; E1 does not tell whether it was done
abbrev pub told : Command → Reply → List (Command × Reply)
told command (Refused DiskFailed) = []
told command reply = (command, reply) ∷ []

-- what was told when the clock of the disk showed this: the replies had begun by then
abbrev pub told_by : ℕ → List Answer → List (Command × Reply)
told_by clock [] = []
told_by clock (answer ∷ others) =
    (if nat_le answer.moment.disk.clock clock then told answer.command answer.reply else []) ++ told_by clock others

-- what a command on a file answered: a load has a reply, and any other tells of no unit and of no game
abbrev pub command_done : FileCommand → Came → Moment → List Answer
command_done (file.Load text goal) (replied reply) moment =
    record { command = load text.items (points_of goal); reply = reply; moment = moment } ∷ []
command_done _ _ moment = []

module _ {F Version : Type 0} (Stores : ℕ → Layout) (state : F → State)
    (IsVersion : Version → Stored (List ℕ) → F → Type 0) (AreTwo : Version → Version → Type 0) (IsUsedUp : F → Type 0)
    (Lasts : F → F → Type 0) where
  -- the command that a line asked for, if it asked for one, with its reply
  abbrev pub command_in : {old new : F} {before after : List (Listing Version)} {status : ℕ} {text : List ℕ}
      {about : Asked} → Moment
      → IsLineAnswered Stores state IsVersion AreTwo IsUsedUp Lasts old new before after status text about → List Answer
  command_in moment (IsLineAnswered.plain (asked.Work units) needs is lasts same) =
      record { command = work (units_in units); reply = is.reply; moment = moment } ∷ []
  command_in moment _ = []

  -- the command that a line by its bytes gives and tells; of a session that only looks there is none
  abbrev pub command_of : (Says : List ℕ → List ℕ → Type 0) (bytes : List ℕ) (old new : F)
      (before after : Option (List (Listing Version))) (status : ℕ) (text : List ℕ) → Moment
      → AnswersIn Stores state IsVersion AreTwo IsUsedUp Lasts Says bytes old new before after status text → List Answer
  command_of Says bytes old new (Some before) (Some after) status text moment (line, says, about, asks, is) =
      command_in moment is
  command_of Says bytes old new _ _ status text moment _ = []

  -- the commands of lines, in their order
  abbrev pub commands_of : {begins : SessionState F Version} {before : Option (List ℕ)} {ends : SessionState F Version}
      {each : List (List ℕ)} {text : List ℕ} {moments : List Moment}
      → AnswersLines Stores state IsVersion AreTwo IsUsedUp Lasts begins before each text moments ends → List Answer
  commands_of AnswersLines.none = []
  commands_of (AnswersLines.more {old = old} {new = new} line status reply moment answers is low begun) =
      commands_of answers ++ command_of WithEnd line old.file new.file old.listings new.listings status reply moment is

  -- the commands of a session
  abbrev pub commands_within : {bytes : List ℕ} {begins new : SessionState F Version} {before after : Seen} {status : ℕ}
      → EndsWithin Stores state IsVersion AreTwo IsUsedUp Lasts bytes begins new before after status → List Answer
  commands_within (EndsWithin.quits each line behind text moments are answers asks wrote) = commands_of answers
  commands_within {new = new}
      (EndsWithin.refuses each line behind text reply moments moment old status are answers is high begun wrote) =
      commands_of answers ++ command_of WithEnd line old.file new.file old.listings new.listings status reply moment is
  commands_within (EndsWithin.no_memory each rest text moments are answers wrote) = commands_of answers
  commands_within {new = new}
      (EndsWithin.unwritten each line behind text reply moments moment old status are answers is begun part) =
      commands_of answers ++ command_of WithEnd line old.file new.file old.listings new.listings status reply moment is
  commands_within (EndsWithin.untold each rest text moments are answers part) = commands_of answers

  abbrev pub commands_in : {bytes : List ℕ} {begins new : SessionState F Version} {left : Option (List ℕ)}
      {before after : Seen} {status : ℕ}
      → IsSession Stores state IsVersion AreTwo IsUsedUp Lasts bytes begins new left before after status → List Answer
  commands_in (IsSession.within status within) = commands_within within
  commands_in {new = new}
      (IsSession.at_end each rest text reply moments moment old status are one end answers is begun wrote) =
      commands_of answers ++ command_of AsItIs rest old.file new.file old.listings new.listings status reply moment is
  commands_in (IsSession.last_quits each rest text moments are one end answers asks wrote) = commands_of answers
  commands_in {new = new}
      (IsSession.last_unwritten each rest text reply moments moment old status are one end answers is begun part) =
      commands_of answers ++ command_of AsItIs rest old.file new.file old.listings new.listings status reply moment is
  commands_in (IsSession.unread each rest text moments are one answers wrote) = commands_of answers

  -- the commands of a session that is over; where the table was not opened, none
  abbrev pub commands_over : {which : Lines} {disk : Disk} {count : ℕ} {bytes : List ℕ} {left : Option (List ℕ)}
      {before after : Seen} {status : ℕ} {back : Disk} {now : ℕ}
      → IsSessionOver Stores state IsVersion AreTwo IsUsedUp Lasts which disk count bytes left before after status back
      now → List Answer
  commands_over (IsSessionOver.opened begins ends opened session gives) = commands_in session
  commands_over (IsSessionOver.unopened why unopened none printed same) = []
