-- What an audit of the table says, and why it says nothing.
use Rattle.rbg_game.specs.Games.{Game}
use Rattle.rbg_read.specs.Reads.{Reads}
use Rattle.retrograde.specs.Stored.{view_of}
use Rattle.audit.specs.Answers.{IsAnswer, IsTableSo}
use Rattle.audit.specs.Causes.{HasWide}
use Rattle.audit.specs.declared.verdict.Verdict.{Verdict}
use Rattle.game_file.specs.Kept.{Kept}
use Rattle.game_file.specs.State.{State}
use Rattle.solver.specs.declared.fault.SolverFault.{SolverFault}
use Rattle.solver.specs.declared.fault.SolverFault.TheVariants.{TooWide}
use Rattle.solver.specs.Held.{graph_in, wide_in}
use Rattle.solver.specs.Queries.{Tells, AskCause}

-- the answer is the verdict of the table that is kept, by the game that its text reads to
abbrev pub HasVerdict : Verdict → Kept → Type 0
HasVerdict verdict kept = (game : Game) → Reads kept.text game → IsAnswer (graph_in game kept) (wide_in game kept) kept.table verdict

-- what the table says is so in that game: each settled position is won by the named player in exactly the named number of moves, and
-- where it is finished, its positions are those that play can come to, and the unsettled ones are the drawn
abbrev pub IsSoInGame : Kept → Type 0
IsSoInGame kept = (game : Game) → Reads kept.text game → IsTableSo (graph_in game kept) (view_of kept.table)

-- some expanded position is too wide
abbrev pub HasWidePosition : Kept → Type 0
HasWidePosition kept = (game : Game) → Reads kept.text game → HasWide (wide_in game kept) kept.table

-- why `audit` gives no verdict
abbrev pub AuditCause : State → State → SolverFault → Type 0
AuditCause old new TooWide = Tells HasWidePosition old
AuditCause old new fault = AskCause old new fault
