-- A fault is passed on.
use Rattle.std.proofs.Common.{◌≡◌, Result, Ok, Err, sym, subst}
use Rattle.std.specs.Prelude.{IsErrOf, IfOk}
use Rattle.std.specs.Result.{IsErr, IfErr, IsErrAnd}
use Rattle.game_file.specs.declared.fault.FileFault.{FileFault}
use Rattle.solver.specs.Faults.{file_fault}
use Rattle.solver.specs.declared.fault.SolverFault.{SolverFault}

-- what the fault has as its cause, its like above has
pub passed_on : {X E : Type 0} (Cause : E → Type 0) (r : Result X E) (fault : E) → IsErr r × IsErrAnd r (λ f. f ≡ fault) → Cause fault → IfErr r Cause
passed_on Cause (Ok x) fault is cause = tt
passed_on Cause (Err f) fault is cause = subst Cause (sym is.1) cause

-- it gives no value
pub gives_none : {X E : Type 0} (r : Result X E) (fault : E) (Such : X → Type 0) → IsErr r × IsErrAnd r (λ f. f ≡ fault) → IfOk r Such
gives_none (Ok x) fault Such is = absurd is.1
gives_none (Err f) fault Such is = tt

-- it stays the one that it is
pub passed_as : {X Y E : Type 0} (r : Result X E) (fault such : E) → IsErr r × IsErrAnd r (λ f. f ≡ fault) → IsErrOf {T = Y} (Err fault) such → IsErrOf r such
passed_as (Ok x) fault such is same = absurd is.1
passed_as (Err f) fault such is same = cc (is.1)

-- what gives no value gives none such
pub gives_not : {X E : Type 0} (r : Result X E) (fault : E) (value : X) → IsErr r × IsErrAnd r (λ f. f ≡ fault) → r ≡ Ok value → ⊥
gives_not (Ok x) fault value is same = is.1
gives_not (Err f) fault value is same = cc

-- what was answered was not refused
pub not_refused : {X E : Type 0} (value : X) (fault : E) → IsErrOf (Ok value) fault → ⊥
not_refused value fault is = cc

-- what a file refuses for a fault is refused for what that fault is here
pub fault_so : {X Y : Type 0} (r : Result X SolverFault) (fault such : FileFault) → IsErr r × IsErrAnd r (λ f. f ≡ file_fault fault)
    → IsErrOf {T = Y} (Err fault) such → IsErrOf r (file_fault such)
fault_so (Ok x) fault such is same = absurd is.1
fault_so (Err f) fault such is same = cc (is.1)
