-- What holds where a function leaves with an error, or with none.
use Rattle.std.proofs.Common.{◌≡◌, Ok, Err, Result}
use Rattle.std.specs.Result.{IfOk, IsErrAnd, IsOk}

-- nothing is said of a value
pub refused : {T E : Type 0} (Q : E → Type 0) (r : Result T E) (P : T → Type 0) → IsErrAnd r Q → IfOk r P
refused Q (Ok x) P is = absurd is
refused Q (Err e) P is = tt

-- it is no value
pub not_ok : {T E : Type 0} (Q : E → Type 0) (r : Result T E) {P : Type 0} → IsErrAnd r Q → IsOk r → P
not_ok Q (Ok x) is ok = absurd is
not_ok Q (Err e) is ok = absurd (cc)

-- a value is no error
pub no_error : {T E : Type 0} {x : T} {e : E} {P : Type 0} → Ok x ≡ Err e → P
no_error is = absurd (cc)
