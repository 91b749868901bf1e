-- A fault is passed on.
use Rattle.std.proofs.Common.{◌≡◌, ◌≢◌, Result, Ok, Err}
use Rattle.std.specs.Result.{IsErr, IfOk, IfErr, IsErrAnd, MatchResult}

-- of an answer that is none nothing is said
pub none_answered : {X E : Type 0} (Such : X → Type 0) (r : Result X E) → IsErr r → IfOk r Such
none_answered Such (Ok x) is = absurd (cc)
none_answered Such (Err f) is = tt

-- of the fault that says nothing of the text nothing is asked
pub memory_ended : {X E : Type 0} (Fine : X → Type 0) (Cause : E → Type 0) (memory : E) (r : Result X E) → IsErr r × IsErrAnd r (λ f. f ≡ memory)
    → MatchResult r Fine (λ f. f ≢ memory → Cause f)
memory_ended Fine Cause memory (Ok x) is = absurd (cc)
memory_ended Fine Cause memory (Err f) is = λ other. absurd (other is.1)

pub memory_fault : {X E : Type 0} (Cause : E → Type 0) (memory : E) (r : Result X E) → IsErr r × IsErrAnd r (λ f. f ≡ memory)
    → IfErr r (λ f. f ≢ memory → Cause f)
memory_fault Cause memory (Ok x) is = absurd (cc)
memory_fault Cause memory (Err f) is = λ other. absurd (other is.1)

-- what is said of the fault
pub of_fault : {X E : Type 0} (Such : E → Type 0) (r : Result X E) → IsErr r × IsErrAnd r Such → IfErr r Such
of_fault Such (Ok x) is = absurd (cc)
of_fault Such (Err f) is = is.1
