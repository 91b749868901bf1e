-- Which fault a function leaves with.
use Rattle.std.proofs.Common.{◌≡◌, Ok, Err, Result, refl, sym, ◌∙◌}
use Rattle.std.specs.Result.{IsErrAnd}
use Rattle.legal_moves.specs.declared.fault.MoveFault.{MoveFault}
use Rattle.legal_moves.specs.declared.fault.MoveFault.TheVariants.{TooWide, OutOfMemory}

one_fault : {T : Type 0} (r : Result T MoveFault) (x y : MoveFault) → r ≡ Err x → r ≡ Err y → x ≡ y
one_fault r x y is also = cc

-- it is the one that was passed on
pub passed : {T : Type 0} (r : Result T MoveFault) (fault : MoveFault) → IsErrAnd r (λ f. f ≡ fault) → r ≡ Err TooWide → fault ≡ TooWide
passed (Ok x) fault is wide = absurd is
passed (Err f) fault is wide = sym is ∙ one_fault (Err f) f TooWide refl wide

-- want of memory is another
pub for_want : {T : Type 0} {P : Type 0} (r : Result T MoveFault) → IsErrAnd r (λ f. f ≡ OutOfMemory) → r ≡ Err TooWide → P
for_want (Ok x) is wide = absurd is
for_want (Err f) is wide =
    let never : OutOfMemory ≡ TooWide = sym is ∙ one_fault (Err f) f TooWide refl wide in
    absurd (cc)
