-- Of an answer that hands a fault on: nothing is said that is said of what is done, and of the fault what was said where it arose.
use Rattle.std.proofs.Common.{◌≡◌, ◌∙◌, Result, Ok, Err, OnOk, sym, subst}
use Rattle.std.specs.Result.{IsErr, IfErr, IfOk, IsErrAnd}

-- what is so of the fault is so of what is answered
pub passed_on : {X E : Type 0} (Such : E → Type 0) (r : Result X E) (fault : E) → IsErr r × IsErrAnd r (λ f. f ≡ fault) → Such fault → IfErr r Such
passed_on Such (Ok x) fault is such = tt
passed_on Such (Err f) fault is such = subst Such (sym is.1) such

-- a fault that is answered is the one that was handed on
pub not_this : {X E : Type 0} (r : Result X E) (fault other : E) → IsErr r × IsErrAnd r (λ f. f ≡ fault) → r ≡ Err other → fault ≡ other
not_this (Ok x) fault other is same = absurd is.1
not_this (Err f) fault other is same = let here : f ≡ other = cc in sym is.1 ∙ here

pub none_done : {X E : Type 0} (Done : Type 0) (r : Result X E) → IsErr r → OnOk r Done
none_done Done (Ok x) is = absurd (cc)
none_done Done (Err f) is = tt

pub none_answered : {X E : Type 0} (Such : X → Type 0) (r : Result X E) → IsErr r → IfOk r Such
none_answered Such (Ok x) is = absurd (cc)
none_answered Such (Err f) is = tt

-- what follows of what is done, and of a fault
pub done_then : {X E Was Is : Type 0} (r : Result X E) → (Was → Is) → OnOk r Was → OnOk r Is
done_then (Ok x) then was = then was
done_then (Err f) then was = tt

pub fault_then : {X E : Type 0} {Was Is : E → Type 0} (r : Result X E) → ((f : E) → Was f → Is f) → IfErr r Was → IfErr r Is
fault_then (Ok x) then was = tt
fault_then (Err f) then was = then f was
