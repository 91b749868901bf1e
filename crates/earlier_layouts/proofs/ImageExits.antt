-- What is said of a fault that is passed on, and of what is answered.
use Rattle.std.proofs.Common.{◌≡◌, ◌∙◌, sym, arith, ℕ, ◌+◌, ◌<◌, ◌≤◌, Result, Ok, Err}
use Rattle.std.specs.Result.{IsErr, IsErrAnd}
use Rattle.earlier_layouts.specs.declared.image.fault.BytesFault.{BytesFault}
use Rattle.earlier_layouts.specs.declared.image.fault.BytesFault.TheVariants as bytes

-- want of memory is not damage
pub not_damaged : {X : Type 0} (r : Result X BytesFault) → IsErr r × IsErrAnd r (λ f. f ≡ bytes.OutOfMemory) → r ≡ Err bytes.Damaged → ⊥
not_damaged (Ok x) is same = absurd is.1
not_damaged (Err f) is same =
    let here : f ≡ bytes.Damaged = cc in
    let other : bytes.OutOfMemory ≡ bytes.Damaged = sym is.1 ∙ here in
    cc

pub done_whole : {X : Type 0} (x : X) → ◌≡◌ {A = Result X BytesFault} (Ok x) (Err bytes.Damaged) → ⊥
done_whole x is = cc

pub one_more : (n old new : ℕ) → n ≡ old → new ≡ old + 1 → n < new
one_more n old new is more = omega arith

pub not_none : (n : ℕ) → n ≡ 1 → 0 < n
not_none n is = omega arith

pub at_most : (n old most : ℕ) → n ≡ old → old ≤ most → n ≤ most
at_most n old most is few = omega arith

pub front_within : (n packed more : ℕ) → n ≡ packed + more → packed ≤ n
front_within n packed more is = omega arith

pub rest_long : (n packed more all : ℕ) → n + packed ≡ all → all ≡ packed + more → n ≡ more
rest_long n packed more all split is = omega arith

-- damage that is passed on is that of the call
pub fault_is : {X : Type 0} (r : Result X BytesFault) (fault : BytesFault) → IsErr r × IsErrAnd r (λ f. f ≡ fault) → r ≡ Err bytes.Damaged
    → fault ≡ bytes.Damaged
fault_is (Ok x) fault is same = absurd is.1
fault_is (Err f) fault is same = let here : f ≡ bytes.Damaged = cc in sym is.1 ∙ here
