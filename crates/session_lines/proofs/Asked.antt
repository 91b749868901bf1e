-- What is told of the moves of a position is the answer to the game text, or to the text of the position.
use Rattle.std.proofs.Common.{◌≡◌, ℕ, List, Option, sym, subst}
use Rattle.rbg_game.specs.Games.{Game}
use Rattle.rbg_game.specs.declared.position.Position.{Position}
use Rattle.rbg_text.specs.Token.{Text}
use Rattle.rbg_read.specs.Reads.{Reads}
use Rattle.position_pack.specs.Spelled.{IsSpelled}
use Rattle.session_lines.specs.Answers.{TellsMoves, TellsMovesAt, TellsRefusal, IsTextRefused, IsMovesAnswer}
use Rattle.session_lines.specs.Parts.{IsTextWritten}
use Rattle.session_lines.proofs.PartLemmas.{written_as}
use Rattle.session_lines.specs.Told.{fault_line}
use Rattle.solver.specs.Faults.{status_of}
use Rattle.solver.specs.declared.fault.SolverFault.{SolverFault}
use Rattle.solver.specs.declared.fault.SolverFault.TheVariants.{BadPosition}

pub told_of : (text : Text) (Tells : Game → ℕ → List ℕ → Type 0) (game : Game) (status : ℕ) (old new : Option (List ℕ)) → Reads text game
    → IsTextWritten (Tells game) old new status → IsTextWritten (IsMovesAnswer text Tells) old new status
told_of text Tells game status old new reads = written_as (λ own lines tells. IsMovesAnswer.told game own lines reads tells)

-- a refusal
pub refusal_as : (why : SolverFault) (Others : ℕ → List ℕ → Type 0) (status : ℕ) (old new : Option (List ℕ)) → Others (status_of why) (fault_line why)
    → IsTextWritten (TellsRefusal why) old new status → IsTextWritten Others old new status
refusal_as why Others status old new is =
    written_as (λ own text tells. subst (λ n. Others n text) (sym tells.0) (subst (Others (status_of why)) (sym tells.1) is))

pub refused_of : (text : Text) (Tells : Game → ℕ → List ℕ → Type 0) (why : SolverFault) (status : ℕ) (old new : Option (List ℕ)) → IsTextRefused text why
    → IsTextWritten (TellsRefusal why) old new status → IsTextWritten (IsMovesAnswer text Tells) old new status
refused_of text Tells why status old new is = refusal_as why (IsMovesAnswer text Tells) status old new (IsMovesAnswer.refused why is)

pub spelled_of : (game read : Game) (position : List ℕ) (at : Position) (status : ℕ) (old new : Option (List ℕ)) → read ≡ game → IsSpelled read at position
    → IsTextWritten (TellsMoves game at) old new status → IsTextWritten (TellsMovesAt game position) old new status
spelled_of game read position at status old new same is =
    written_as (λ own lines tells. TellsMovesAt.spelled at own lines (subst (λ g. IsSpelled g at position) same is) tells)

pub unspelled_of : (game read : Game) (position : List ℕ) (status : ℕ) (old new : Option (List ℕ)) → read ≡ game
    → ((at : Position) → IsSpelled read at position → ⊥)
    → IsTextWritten (TellsRefusal BadPosition) old new status → IsTextWritten (TellsMovesAt game position) old new status
unspelled_of game read position status old new same none =
    refusal_as BadPosition (TellsMovesAt game position) status old new
    (TellsMovesAt.bad_position (subst (λ g. (at : Position) → IsSpelled g at position → ⊥) same none))
