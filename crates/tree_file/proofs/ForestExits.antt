-- A result is passed on.
use Rattle.std.proofs.Common.{◌≡◌, Result, Ok, Err, sym, subst}
use Rattle.std.specs.Result.{IsErr, IfErr, IsErrAnd, OnOk}

pub passed_on : {X E : Type 0} (Cause : E → Type 0) (r : Result X E) (fault : E) → IsErr r × IsErrAnd r (λ f. f ≡ fault) → Cause fault → IfErr r Cause
passed_on Cause (Ok x) fault is cause = tt
passed_on Cause (Err f) fault is cause = subst Cause (sym is.1) cause

pub if_err : {X E : Type 0} (P Q : E → Type 0) (r : Result X E) → ((f : E) → P f → Q f) → IfErr r P → IfErr r Q
if_err P Q (Ok x) then cause = tt
if_err P Q (Err f) then cause = then f cause

pub on_ok : {X E : Type 0} (P Q : Type 0) (r : Result X E) → (P → Q) → OnOk r P → OnOk r Q
on_ok P Q (Ok x) then holds = then holds
on_ok P Q (Err f) then holds = tt
