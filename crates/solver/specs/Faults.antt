-- What a fault of a layer below is here, and the code and the exit status of each.
use Rattle.std.specs.Prelude.{ℕ, List, codes}
use Rattle.rbg_read.specs.Codes.{fault_code}
use Rattle.rbg_read.specs.declared.fault.GameFault.TheVariants as game
use Rattle.table.specs.declared.fault.TableFault.{TableFault}
use Rattle.table.specs.declared.fault.TableFault.TheVariants as table
use Rattle.frontier.specs.declared.fault.StepFault.{StepFault}
use Rattle.frontier.specs.declared.fault.StepFault.TheVariants as step
use Rattle.game_file.specs.declared.fault.FileFault.{FileFault}
use Rattle.game_file.specs.declared.fault.FileFault.TheVariants as file
use Rattle.best_line.specs.declared.fault.LineFault.{LineFault}
use Rattle.best_line.specs.declared.fault.LineFault.TheVariants as line
use Rattle.best_line.specs.declared.known_fault.KnownMovesFault.{KnownMovesFault}
use Rattle.best_line.specs.declared.known_fault.KnownMovesFault.TheVariants as moves
use Rattle.audit.specs.declared.fault.AuditFault.{AuditFault}
use Rattle.audit.specs.declared.fault.AuditFault.TheVariants as audit
use Rattle.solver.specs.declared.fault.SolverFault.{SolverFault}
use Rattle.solver.specs.declared.fault.SolverFault.TheVariants.{Disk, NotATable, AlreadyATable, Damaged, OldLayout, TooSmall, TableFull}
use Rattle.solver.specs.declared.fault.SolverFault.TheVariants.{OutOfMemory, Closed, Game, NoGame, GameAlready, KeeperChooses, TooWide}
use Rattle.solver.specs.declared.fault.SolverFault.TheVariants.{TooManyPositions, Inconsistent, NoSuchPosition, NotSettled, ListingsUsedUp, BadPosition}

abbrev pub file_fault : FileFault → SolverFault
file_fault file.Disk = Disk
file_fault file.NotATable = NotATable
file_fault file.AlreadyATable = AlreadyATable
file_fault file.Damaged = Damaged
file_fault file.OldLayout = OldLayout
file_fault file.TooSmall = TooSmall
file_fault file.TableFull = TableFull
file_fault file.OutOfMemory = OutOfMemory
file_fault file.Closed = Closed
file_fault file.Inconsistent = Inconsistent

abbrev pub table_fault : TableFault → SolverFault
table_fault table.Disk = Disk
table_fault table.Damaged = Damaged
table_fault table.TableFull = TableFull
table_fault table.OutOfMemory = OutOfMemory
table_fault table.Closed = Closed

abbrev pub step_fault : StepFault → SolverFault
step_fault step.TooWide = TooWide
step_fault (step.KeeperChooses number) = KeeperChooses number
step_fault step.TooManyPositions = TooManyPositions
step_fault step.Inconsistent = Inconsistent
step_fault step.OutOfMemory = OutOfMemory
step_fault (step.Table fault) = table_fault fault

abbrev pub line_fault : LineFault → SolverFault
line_fault line.NotSettled = NotSettled
line_fault line.Inconsistent = Inconsistent
line_fault line.TooWide = TooWide
line_fault line.OutOfMemory = OutOfMemory
line_fault (line.Table fault) = table_fault fault

abbrev pub moves_fault : KnownMovesFault → SolverFault
moves_fault moves.Inconsistent = Inconsistent
moves_fault moves.TooWide = TooWide
moves_fault moves.OutOfMemory = OutOfMemory
moves_fault (moves.Table fault) = table_fault fault

abbrev pub audit_fault : AuditFault → SolverFault
audit_fault audit.TooWide = TooWide
audit_fault audit.OutOfMemory = OutOfMemory
audit_fault (audit.Table fault) = table_fault fault

-- the code that is printed
abbrev pub code_of : SolverFault → List ℕ
code_of Disk = codes "E1"
code_of NotATable = codes "E2"
code_of AlreadyATable = codes "E3"
code_of Damaged = codes "E4"
code_of OldLayout = codes "E5"
code_of TooSmall = codes "E6"
code_of TableFull = codes "E7"
code_of OutOfMemory = codes "E8"
code_of Closed = codes "E9"
code_of (Game fault) = fault_code fault
code_of NoGame = codes "S1"
code_of GameAlready = codes "S2"
code_of (KeeperChooses number) = codes "S3"
code_of TooWide = codes "S4"
code_of TooManyPositions = codes "S5"
code_of Inconsistent = codes "S6"
code_of NoSuchPosition = codes "S7"
code_of NotSettled = codes "S8"
code_of ListingsUsedUp = codes "S9"
code_of BadPosition = codes "S10"

-- the exit status: 3 for a damaged table, 4 where the device failed, 5 for want of memory, and else 1
abbrev pub status_of : SolverFault → ℕ
status_of Damaged = 3
status_of Disk = 4
status_of OutOfMemory = 5
status_of (Game game.OutOfMemory) = 5
status_of _ = 1
