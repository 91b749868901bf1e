-- A fault is passed on.
use Rattle.std.proofs.Common.{◌≡◌, Result, Ok, Err, true, sym, subst}
use Rattle.std.specs.Result.{IsErr, IfErr, IsErrAnd, OnErr, is_err}
use Rattle.page_store.specs.declared.fault.PageFault.{PageFault}
use Rattle.btree.specs.declared.walk.fault.WalkFault.{WalkFault}
use Rattle.btree.specs.declared.walk.fault.WalkFault.TheVariants.{Store}

pub passed_on : {X E : Type 0} (Cause : E → Type 0) (r : Result X E) (fault : E) → IsErr r × IsErrAnd r (λ f. f ≡ fault) → Cause fault → IfErr r Cause
passed_on Cause (Ok x) fault is cause = tt
passed_on Cause (Err f) fault is cause = subst Cause (sym is.1) cause

-- a fault of the store
pub passed_store : {X : Type 0} (Cause : WalkFault → Type 0) (r : Result X WalkFault) (fault : PageFault) → IsErr r
    × IsErrAnd r (λ f. f ≡ Store fault) → Cause (Store fault) → IfErr r Cause
passed_store Cause r fault is cause = passed_on Cause r (Store fault) is cause

pub on_err : {X E : Type 0} (P : Type 0) (r : Result X E) → OnErr r P → is_err r ≡ true → P
on_err P (Ok x) holds is = absurd (cc)
on_err P (Err f) holds is = holds
