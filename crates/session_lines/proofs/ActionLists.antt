-- What is told of the actions of a game is the answer to its text.
use Rattle.std.proofs.Common.{◌≡◌, ◌≢◌, ◌∙◌, ℕ, List, Option, sym, subst}
use Rattle.rbg_game.specs.Games.{Game}
use Rattle.rbg_text.specs.Token.{Text}
use Rattle.rbg_read.specs.Reads.{Reads, Fault}
use Rattle.rbg_read.specs.declared.fault.GameFault.{GameFault}
use Rattle.rbg_read.specs.declared.fault.GameFault.TheVariants as faults
use Rattle.numbered_actions.specs.Listed.{ListsActions}
use Rattle.session_lines.specs.Answers.{TellsRefusal, IsTextRefused, IsMovesAnswer}
use Rattle.session_lines.specs.Parts.{IsTextWritten}
use Rattle.session_lines.specs.Actions.{TellsActions}
use Rattle.solver.specs.declared.fault.SolverFault.TheVariants.{Game as GameRefused}
use Rattle.session_lines.proofs.Asked.{refused_of}
use Rattle.session_lines.proofs.PartLemmas.{written_as}

pub actions_listed : (text : Text) (status : ℕ) (old new : Option (List ℕ)) (lines shown : List ℕ) → shown ≡ lines
    → (game : Game) × Reads text game × ListsActions text game lines → IsTextWritten (λ own told. (own ≡ 0) × (told ≡ shown)) old new status
    → IsTextWritten (IsMovesAnswer text (TellsActions text)) old new status
actions_listed text status old new lines shown same listed =
    written_as (λ own told is. IsMovesAnswer.told listed.0 own told listed.1 (is.0, subst (ListsActions text listed.0) (sym (is.1 ∙ same)) listed.2))

is_refused : (text : Text) (fault : GameFault) → (fault ≢ faults.OutOfMemory → Fault text fault) → IsTextRefused text (GameRefused fault)
is_refused text faults.OutOfMemory cause = tt
is_refused text fault cause = cause (λ is. absurd (cc))

pub text_refused : (text : Text) (fault : GameFault) (status : ℕ) (old new : Option (List ℕ)) → (fault ≢ faults.OutOfMemory → Fault text fault)
    → IsTextWritten (TellsRefusal (GameRefused fault)) old new status → IsTextWritten (IsMovesAnswer text (TellsActions text)) old new status
text_refused text fault status old new cause =
    refused_of text (TellsActions text) (GameRefused fault) status old new (is_refused text fault cause)
