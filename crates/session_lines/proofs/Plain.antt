-- What is written to a line, by what it asks.
use Rattle.std.proofs.Common.{◌≡◌, ◌≢◌, ◌⊎◌, ℕ, List, [], ◌∷◌, ◌++◌, Result, Ok, Err, refl, sym, subst, inl, inr}
use Rattle.std.specs.Global.{Vec}
use Rattle.std.specs.Prelude.{IfOk, IfErr, codes}
use Rattle.game_file.specs.Kept.{Kept, Layout}
use Rattle.game_file.specs.State.{State}
use Rattle.solver.specs.Queries.{Tells}
use Rattle.solver.specs.declared.fault.SolverFault.{SolverFault}
use Rattle.solver.specs.declared.replies.Units.{Units}
use Rattle.session_lines.specs.Answered.{IsAnsweredOrRefused, IsNoCall, IsReplied, IsTextOrRefusal}
use Rattle.solver.specs.Faults.{status_of}
use Rattle.session_lines.specs.Asked.{in_look}
use Rattle.session_lines.specs.Told.{fault_line}
use Rattle.session_lines.specs.declared.input.Asked.{Asked}
use Rattle.session_lines.specs.declared.input.Asked.TheVariants as asked
use Rattle.session_lines.specs.declared.input.ListingLine.{ListingLine}
use Rattle.session_lines.specs.declared.input.Question.{Question}

-- a text that was found, or a refusal with its cause
pub text_or_refusal : (P : List ℕ → Type 0) (Cause : SolverFault → Type 0) (r : Result (Vec ℕ) SolverFault) → IfOk r (λ text. P text.items) → IfErr r Cause
    → (status : ℕ) (line : List ℕ) → IsTextOrRefusal r status line
    → ((status ≡ 0) × P line) ⊎ ((why : SolverFault) × (status ≡ status_of why) × (line ≡ fault_line why) × Cause why)
text_or_refusal P Cause (Ok text) tells cause status line (same, is) = inl (same, subst P (sym is) tells)
text_or_refusal P Cause (Err why) tells cause status line (same, is) = inr (why, same, is, cause)

pub text_answers : (Answers : List ℕ → Kept → Type 0) (Cause : SolverFault → Type 0) (old : State) (r : Result (Vec ℕ) SolverFault)
    → IfOk r (λ text. Tells (Answers text.items) old) → IfErr r Cause → (status : ℕ) (line : List ℕ) → IsTextOrRefusal r status line
    → IsAnsweredOrRefused Answers Cause old status line
text_answers Answers Cause old = text_or_refusal (λ line. Tells (Answers line) old) Cause

-- a line that neither works nor asks about positions
pub is_plain : (about : Asked) → ((units : Units) → about ≢ asked.Work units) → ((question : Question) → about ≢ asked.Question question) → IsNoCall about
is_plain asked.Nothing work question = tt
is_plain asked.Quit work question = tt
is_plain asked.Usage work question = tt
is_plain (asked.Listing line) work question = tt
is_plain asked.Help work question = tt
is_plain asked.Status work question = tt
is_plain asked.Pages work question = tt
is_plain asked.Game work question = tt
is_plain (asked.Work units) work question = absurd (work units refl)
is_plain (asked.Question about) work question = absurd (question about refl)

-- one that is no command, or is about listings where none are kept
pub no_command : (Stores : ℕ → Layout) (about : Asked) (now : State) → about ≢ asked.Nothing → about ≢ asked.Quit → about ≢ asked.Help → about ≢ asked.Status
    → about ≢ asked.Pages → about ≢ asked.Game → IsNoCall about
    → IsReplied Stores about now now 0 (codes "usage" ++ 10 ∷ [])
no_command Stores asked.Nothing now nothing quit help status pages game plain = absurd (nothing refl)
no_command Stores asked.Quit now nothing quit help status pages game plain = absurd (quit refl)
no_command Stores asked.Usage now nothing quit help status pages game plain = (refl, refl, refl)
no_command Stores (asked.Listing line) now nothing quit help status pages game plain = (refl, refl, refl)
no_command Stores asked.Help now nothing quit help status pages game plain = absurd (help refl)
no_command Stores asked.Status now nothing quit help status pages game plain = absurd (status refl)
no_command Stores asked.Pages now nothing quit help status pages game plain = absurd (pages refl)
no_command Stores asked.Game now nothing quit help status pages game plain = absurd (game refl)
no_command Stores (asked.Work units) now nothing quit help status pages game plain = absurd plain
no_command Stores (asked.Question about) now nothing quit help status pages game plain = absurd plain

-- the same in a look where a line asks
pub in_look_too : (about : Asked) → ((units : Units) → about ≢ asked.Work units) → ((line : ListingLine) → about ≢ asked.Listing line) → in_look about ≡ about
in_look_too asked.Nothing work listing = refl
in_look_too asked.Quit work listing = refl
in_look_too asked.Usage work listing = refl
in_look_too (asked.Listing line) work listing = absurd (listing line refl)
in_look_too asked.Help work listing = refl
in_look_too asked.Status work listing = refl
in_look_too asked.Pages work listing = refl
in_look_too asked.Game work listing = refl
in_look_too (asked.Work units) work listing = absurd (work units refl)
in_look_too (asked.Question about) work listing = refl
