-- What is said of a fault that is passed on, and of a call that is refused.
use Rattle.std.proofs.Common.{◌≡◌, ◌≢◌, ◌↔◌, ◌∙◌, ℕ, Bool, true, false, Result, Ok, Err, refl, sym, ap, subst}
use Rattle.std.specs.Prelude.{IsErrOf}
use Rattle.std.specs.Result.{is_err}
use Rattle.sector_disk.specs.Disk.{Grew, IsCounted}
use Rattle.root_pair.specs.declared.fault.RootFault.{RootFault}
use Rattle.root_pair.specs.declared.fault.RootFault.TheVariants.{Read}
pub use Rattle.page_store.specs.lemmas.Frames.{none_done, passed_on, unchanged_refl}

pub not_closed : (b : Bool) → b ≡ false → b ≡ true → ⊥
not_closed b is other = cc

-- a read failed
pub is_read : (r : Result (Unit {0}) RootFault) (fault : RootFault) → r ≡ Err fault → fault ≡ Read → IsErrOf r Read
is_read r fault is same = subst (λ (x : Result (Unit {0}) RootFault). IsErrOf x Read) (sym (is ∙ ap (λ (e : RootFault). Err e) same)) refl

-- the count of failed writes where the call is no error
pub counted_ok : {T E : Type 0} {before now : ℕ} (r : Result T E) → is_err r ≡ false → IsCounted before now r → now ≡ before
counted_ok (Ok x) is counted = counted.answered refl
counted_ok (Err e) is counted = absurd (let wrong : true ≡ false = is in cc)

-- and where it is one
pub counted_err : {T E : Type 0} {before now : ℕ} (r : Result T E) → is_err r ≡ true → IsCounted before now r → Grew before now
counted_err (Ok x) is counted = absurd (let wrong : false ≡ true = is in cc)
counted_err (Err e) is counted = counted.refused refl

-- what is no read is said not to be one
pub no_read : {b : Bool} {fault : RootFault} → (b ≡ true) ↔ (fault ≡ Read) → b ≡ false → fault ≢ Read
no_read is other read = let wrong : true ≡ false = sym (is.1 read) ∙ other in cc
