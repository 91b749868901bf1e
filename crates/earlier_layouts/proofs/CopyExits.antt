-- What is so of an answer or a fault that is handed on.
use Rattle.std.proofs.Common.{◌≡◌, ◌∙◌, sym, subst, false, Result, Ok, Err, OnOk}
use Rattle.std.specs.Prelude.{MatchResult, IfOk, IfErr, IsErr, IsErrAnd, is_ok}
use Rattle.table.specs.declared.fault.TableFault.{TableFault}
use Rattle.earlier_layouts.specs.declared.fault.CopyFault.{CopyFault}
use Rattle.earlier_layouts.specs.declared.fault.CopyFault.TheVariants.{From, To, Inconsistent}
use Rattle.earlier_layouts.specs.Copies.{LeavesOfCopy}

-- what is so of the fault is so of what is answered
pub passed_on : {X E : Type 0} (Such : E → Type 0) (r : Result X E) (fault : E)
    → IsErr r × IsErrAnd r (λ f. f ≡ fault) → Such fault → IfErr r Such
passed_on Such (Ok x) fault is such = tt
passed_on Such (Err f) fault is such = subst Such (sym is.1) such

-- a fault after calls that were answered
pub leaves_after : (F To_F G To_G : TableFault → Type 0) (Ahead On Honest Was : Type 0) (fault : CopyFault)
    → ((f : TableFault) → F f → To_F f) → ((f : TableFault) → G f → To_G f) → (Ahead → On) → (Was → Honest)
    → LeavesOfCopy F G Ahead Honest fault → LeavesOfCopy To_F To_G On Was fault
leaves_after F To_F G To_G Ahead On Honest Was (From f) from to on was left = (from f left.0, left.1, on left.2)
leaves_after F To_F G To_G Ahead On Honest Was (To f) from to on was left = to f left
leaves_after F To_F G To_G Ahead On Honest Was Inconsistent from to on was left = ((λ h. left.0 (was h)), on left.1)

-- what is said of an answer is so of what is handed on
pub told : {X E F : Type 0} (Such : X → Type 0) (Fault : E → Type 0) (r : Result X E) (s : Result X F) (x : X)
    → MatchResult r (λ y. s ≡ Ok y) Fault → is_ok s ≡ is_ok r → s ≡ Ok x → IfOk r Such → Such x
told Such Fault (Ok y) s x is same here such = let e : Ok y ≡ Ok x = sym is ∙ here in let f : y ≡ x = cc in subst Such f such
told {X} {E} {F} Such Fault (Err e) s x is same here such =
    let f : is_ok {T = X} {E = F} (Ok x) ≡ false = rw here at same in absurd (cc)

pub told_done : {X E F : Type 0} {Done : Type 0} (r : Result X E) (s : Result X F) (x : X)
    → is_ok s ≡ is_ok r → s ≡ Ok x → OnOk r Done → Done
told_done (Ok y) s x same here done = done
told_done {X} {E} {F} (Err e) s x same here done =
    let f : is_ok {T = X} {E = F} (Ok x) ≡ false = rw here at same in absurd (cc)
