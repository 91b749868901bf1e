-- What a call gives is told of what is made of it.
use Rattle.std.proofs.Common.{◌≡◌, Result, Ok, Err, sym, subst}
use Rattle.std.specs.Result.{IsErr, IfOk, IfErr, IsErrAnd}

-- what the fault has as its cause, its like above has
pub passed_on : {X E : Type 0} (Cause : E → Type 0) (r : Result X E) (fault : E) → IsErr r × IsErrAnd r (λ f. f ≡ fault) → Cause fault → IfErr r Cause
passed_on Cause (Ok x) fault is cause = tt
passed_on Cause (Err f) fault is cause = subst Cause (sym is.1) cause

-- what follows of each value
pub ok_more : {X E : Type 0} {Such More : X → Type 0} → ((x : X) → Such x → More x) → (r : Result X E) → IfOk r Such → IfOk r More
ok_more more (Ok x) such = more x such
ok_more more (Err f) such = tt

-- what follows of each fault
pub err_more : {X E : Type 0} {Such More : E → Type 0} → ((f : E) → Such f → More f) → (r : Result X E) → IfErr r Such → IfErr r More
err_more more (Ok x) such = tt
err_more more (Err f) such = more f such
