-- What a command on a table's file does, prints and answers.
use Rattle.std.specs.Prelude.{◌≡◌, ◌≢◌, ◌⊎◌, ℕ, List, [], ◌∷◌, ◌++◌, codes, Option, None, Some}
use Rattle.std.specs.Io.KnownBytes.{Appends}
use Rattle.sector_disk.specs.Disk.{Disk}
use Rattle.rbg_game.specs.Goals.{points_of}
use Rattle.retrograde.specs.declared.records.Counts.{Counts}
use Rattle.recover.specs.declared.migration.Migration.{Migration}
use Rattle.recover.specs.declared.migration.Migration.TheVariants.{Migrated, Current}
use Rattle.recover.specs.Migrations.{EitherLayout, IsCurrent, IsMigrated, IsNotMigrated, MigrateCause}
use Rattle.audit.specs.declared.verdict.Verdict.{Verdict}
use Rattle.audit.specs.declared.verdict.Verdict.TheVariants.{Right, Wrong}
use Rattle.game_file.specs.Calls.{IsAsked, IsNotCreated, IsNotOpened}
use Rattle.game_file.specs.Growth.{IsGrownFile, IsNotGrown}
use Rattle.game_file.specs.Kept.{Layout, text_kept}
use Rattle.game_file.specs.State.{State}
use Rattle.solver.specs.declared.fault.SolverFault.{SolverFault}
use Rattle.solver.specs.declared.fault.SolverFault.TheVariants as fault
use Rattle.solver.specs.declared.replies.Reply.{Reply}
use Rattle.solver.specs.declared.replies.Reply.TheVariants as reply
use Rattle.solver.specs.Audits.{HasVerdict, IsSoInGame, AuditCause}
use Rattle.solver.specs.Growth.{GrowthCause, IsGrowth}
use Rattle.solver.specs.Machine.{load}
use Rattle.solver.specs.Opened.{IsCreated, IsOpened, OpenCause, CreateCause}
use Rattle.solver.specs.Queries.{Tells}
use Rattle.solver.specs.Runs.{IsTurnWithCause}
use Rattle.session_lines.specs.Verdicts.{IsVerdictLine}
use Rattle.session_lines.specs.Answered.{status_of_reply}
use Rattle.solver.specs.Faults.{status_of}
use Rattle.session_lines.specs.Parts.{AppendsPart}
use Rattle.session_lines.specs.Told.{fault_line, IsReplyLine}
use Rattle.session.specs.declared.commands.FileCommand.{FileCommand}
use Rattle.session.specs.declared.commands.FileCommand.TheVariants as asked
use Rattle.session.specs.declared.told.Told.{Told}
use Rattle.session.specs.declared.told.Told.TheVariants as tells

-- what came of a command: the empty table was made; it was refused; it has this reply; the game has this text; the table has this verdict and
-- these counts; it is about another game than the one that was meant; it was brought into today's layout, which it had before or not; or it has
-- got more pages
pub data Came : Type 0 where
  made : Came
  refused : (why : SolverFault) → Came
  replied : (said : Reply) → Came
  told_text : (text : List ℕ) → Came
  audited : (verdict : Verdict) (counts : Counts) → Came
  another : Came
  brought : (which : Migration) → Came
  grown : Came

-- what is told of a command is what came of it
abbrev pub came_of : Told → Came
came_of tells.Made = made
came_of (tells.Refused why) = refused why
came_of (tells.Replied reply) = replied reply
came_of (tells.Audited verdict counts) = audited verdict counts
came_of tells.Another = another
came_of (tells.Brought which) = brought which
came_of tells.Grown = grown

-- the exit status of a verdict
abbrev pub status_of_verdict : Verdict → ℕ
status_of_verdict Right = 0
status_of_verdict (Wrong number reason) = 1

-- the word for a table that was brought into today's layout
abbrev pub word_of_migration : Migration → List ℕ
word_of_migration Migrated = codes "migrated"
word_of_migration Current = codes "current"

-- the exit status that belongs to it
abbrev pub status_of_came : Came → ℕ
status_of_came made = 0
status_of_came (refused why) = status_of why
status_of_came (replied said) = status_of_reply said
status_of_came (told_text text) = 0
status_of_came (audited verdict counts) = status_of_verdict verdict
status_of_came another = 1
status_of_came (brought which) = 0
status_of_came grown = 0

-- the line that tells it; of a text it is the text itself
abbrev pub IsLineOf : Came → List ℕ → Type 0
IsLineOf made line = line ≡ codes "created" ++ 10 ∷ []
IsLineOf (refused why) line = line ≡ fault_line why
IsLineOf (replied said) line = IsReplyLine said line
IsLineOf (told_text text) line = line ≡ text
IsLineOf (audited verdict counts) line = IsVerdictLine counts verdict line
IsLineOf another line = line ≡ codes "audit wrong game" ++ 10 ∷ []
IsLineOf (brought which) line = line ≡ word_of_migration which ++ 10 ∷ []
IsLineOf grown line = line ≡ codes "grown" ++ 10 ∷ []

-- why the reply refuses, if it does
abbrev pub refusal_in : Reply → Option SolverFault
refusal_in (reply.Refused why) = Some why
refusal_in _ = None

-- why the command was refused, if it was
abbrev pub refusal_of : Came → Option SolverFault
refusal_of made = None
refusal_of (refused why) = Some why
refusal_of (replied said) = refusal_in said
refusal_of (told_text text) = None
refusal_of (audited verdict counts) = None
refusal_of another = None
refusal_of (brought which) = None
refusal_of grown = None

-- it is told with this status: its line is printed and the status is its own, or the output failed, a part of the line is printed, from its
-- start on, and the status is 4
pub data IsPrinted (before after : Option (List ℕ)) (came : Came) (status : ℕ) : Type 0 where
  told : (line : List ℕ) → IsLineOf came line → Appends before after line → status ≡ status_of_came came → IsPrinted before after came status
  untold : (line : List ℕ) → IsLineOf came line → AppendsPart before after line → status ≡ 4 → IsPrinted before after came status

-- the disk that is given back is that of the table in this state
pub record GivesBack (state : State) (back : Disk) (now : ℕ) : Type 0 where
  pub disk : back ≡ state.disk
  pub failures : now ≡ state.failures

-- the table is about this text, or about another one
abbrev pub IsAbout : List ℕ → State → Type 0
IsAbout text was = text_kept was.kept ≡ Some text

abbrev pub IsAboutAnother : List ℕ → State → Type 0
IsAboutAnother text was = (other : List ℕ) × IsAbout other was × (other ≢ text)

-- the table was audited, and has this verdict and these counts
pub record HasCome (was : State) (verdict : Verdict) (counts : Counts) : Type 0 where
  pub counted : was.counts ≡ Some counts
  pub has : Tells (HasVerdict verdict) was
  pub so : verdict ≡ Right → Tells IsSoInGame was

module _ (Stores : ℕ → Layout) where
  -- the empty table was made, or none was
  abbrev pub IsCreate : Disk → ℕ → Came → Disk → ℕ → Type 0
  IsCreate disk count made back now = (state : State) × IsCreated Stores disk count state × GivesBack state back now
  IsCreate disk count (refused why) back now = IsNotCreated Stores disk count back now × CreateCause disk count now why
  IsCreate disk count _ back now = ⊥

  -- the table could not be opened
  abbrev pub IsUnopened : Disk → ℕ → SolverFault → Disk → ℕ → Type 0
  IsUnopened disk count why back now = IsNotOpened disk count back now × OpenCause Stores disk count now why

  -- the table was opened, and the game loaded in one turn with this goal, if there is one, or refused
  abbrev pub IsLoad : List ℕ → Option ℕ → Disk → ℕ → Came → Disk → ℕ → Type 0
  IsLoad text goal disk count (replied said) back now =
      (was : State) × (is : State) × IsOpened Stores disk count was × GivesBack is back now
      × IsTurnWithCause Stores (load text goal) said was is
  IsLoad text goal disk count (refused why) back now = IsUnopened disk count why back now
  IsLoad text goal disk count _ back now = ⊥

  -- the table was opened and audited, which changes nothing, or either was refused
  abbrev pub IsAudit : Disk → ℕ → Came → Disk → ℕ → Type 0
  IsAudit disk count (audited verdict counts) back now =
      (was : State) × (is : State) × IsOpened Stores disk count was × IsAsked Stores was is × GivesBack is back now × HasCome was verdict counts
  IsAudit disk count (refused why) back now =
      ((was : State) × (is : State) × IsOpened Stores disk count was × IsAsked Stores was is × GivesBack is back now × AuditCause was is why)
      ⊎ IsUnopened disk count why back now
  IsAudit disk count _ back now = ⊥

  -- the table was opened, and the text of its game told, which leaves it as it was; or there was no game, or it was not opened
  abbrev pub IsTextTold : Disk → ℕ → Came → Disk → ℕ → Type 0
  IsTextTold disk count (told_text text) back now = (was : State) × IsOpened Stores disk count was × GivesBack was back now × IsAbout text was
  IsTextTold disk count (refused why) back now =
      ((was : State) × IsOpened Stores disk count was × GivesBack was back now × (was.kept ≡ None) × (why ≡ fault.NoGame))
      ⊎ IsUnopened disk count why back now
  IsTextTold disk count _ back now = ⊥

  -- the table was opened, and is about this text and was audited, or is about another text; or there was no game, or any of it was refused
  abbrev pub IsAuditOf : List ℕ → Disk → ℕ → Came → Disk → ℕ → Type 0
  IsAuditOf text disk count (audited verdict counts) back now =
      (was : State) × (is : State) × IsOpened Stores disk count was × IsAsked Stores was is × GivesBack is back now
      × IsAbout text was × HasCome was verdict counts
  IsAuditOf text disk count another back now =
      (was : State) × (is : State) × IsOpened Stores disk count was × IsAsked Stores was is × GivesBack is back now × IsAboutAnother text was
  IsAuditOf text disk count (refused why) back now =
      ((was : State) × (is : State) × IsOpened Stores disk count was × IsAsked Stores was is × GivesBack is back now × AuditCause was is why)
      ⊎ IsUnopened disk count why back now
  IsAuditOf text disk count _ back now = ⊥

  -- the table was opened, and has got this many pages, or either was refused
  abbrev pub IsGrow : ℕ → Disk → ℕ → Came → Disk → ℕ → Type 0
  IsGrow pages disk count grown back now =
      (was : State) × (is : State) × IsOpened Stores disk count was × GivesBack is back now × IsGrowth Stores pages was is
      × IsGrownFile Stores pages was is
  IsGrow pages disk count (refused why) back now =
      ((was : State) × (is : State) × IsOpened Stores disk count was × GivesBack is back now × IsGrowth Stores pages was is
      × IsNotGrown Stores pages was is × GrowthCause pages was is why) ⊎ IsUnopened disk count why back now
  IsGrow pages disk count _ back now = ⊥

  -- what is done for a command on the table of a disk, what comes of it, and the disk as it is given back
  abbrev pub IsDoneOnFile : FileCommand → Disk → ℕ → Came → Disk → ℕ → Type 0
  IsDoneOnFile asked.Create = IsCreate
  IsDoneOnFile (asked.Load text goal) = IsLoad text.items (points_of goal)
  IsDoneOnFile asked.Audit = IsAudit
  IsDoneOnFile (asked.Grow pages) = IsGrow pages

-- what comes of an audit of an open table
abbrev pub IsAudited : State → State → Came → Type 0
IsAudited was is (audited verdict counts) = HasCome was verdict counts
IsAudited was is (refused why) = AuditCause was is why
IsAudited was is _ = ⊥

-- what comes of an audit of an open table that is to be about this text
abbrev pub IsAuditedAbout : List ℕ → State → State → Came → Type 0
IsAuditedAbout text was is (audited verdict counts) = IsAbout text was × HasCome was verdict counts
IsAuditedAbout text was is another = IsAboutAnother text was
IsAuditedAbout text was is (refused why) = AuditCause was is why
IsAuditedAbout text was is _ = ⊥

-- what comes of asking an open table for the text of its game
abbrev pub IsTextOf : State → Came → Type 0
IsTextOf was (told_text text) = IsAbout text was
IsTextOf was (refused why) = (was.kept ≡ None) × (why ≡ fault.NoGame)
IsTextOf was _ = ⊥

-- what comes of bringing a table into today's layout, where it has that one or the first or the second, and the disk as it is given back
abbrev pub IsBrought : (ℕ → Layout) → (ℕ → Layout) → (ℕ → Layout) → Disk → ℕ → Came → Disk → ℕ → Type 0
IsBrought First Second Today disk count (brought Migrated) back now = IsMigrated (EitherLayout First Second) Today disk count back now
IsBrought First Second Today disk count (brought Current) back now = IsCurrent (EitherLayout First Second) Today disk count back now
IsBrought First Second Today disk count (refused why) back now =
    IsNotMigrated (EitherLayout First Second) Today disk count back now why × MigrateCause First Second Today disk count now why
IsBrought First Second Today disk count _ back now = ⊥
