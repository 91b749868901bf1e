-- Lists that are gone over.
use Rattle.std.proofs.Common.{◌≡◌, ℕ, ◌+◌, ◌<◌, Bool, true, false, Option, Some, None, List, All, length, get_or, arith, refl, sym, subst, ◌∙◌, Result, Ok, Err}
use Rattle.std.specs.Prelude.{Contains, IfOk, IfErr, MatchOption}
use Rattle.std.specs.Bool.{OnTrue}
use Rattle.std.specs.Result.{IsErr, IsErrAnd, OnOk}
use Rattle.std.proofs.lemmas.List.Elements.{AllWithin-more, at_read}

-- what holds of each element before the one that a loop has come to, and of that one, holds of each before the next
pub each_more : {X : Type 0} (P : X → Type 0) (xs : List X) (i : ℕ) (x : X) → ((k : ℕ) (d : X) → k < i → P (get_or xs k d))
    → i < length xs → x ≡ get_or xs i x → P x → (k : ℕ) (d : X) → k < i + 1 → P (get_or xs k d)
each_more P xs i x before within is now k d lt =
    AllWithin-more P xs 0 i (λ j e _ early. before j e early) (at_read xs P i x within is now) k d (omega arith) lt

-- what follows where a test is true
pub on_true : (b : Bool) (P Q : Type 0) → (P → Q) → OnTrue b P → OnTrue b Q
on_true true P Q f is = f is
on_true false P Q f is = tt

-- what holds if a test is true
pub when_so : (b : Bool) (Q : Type 0) → (b ≡ true → Q) → OnTrue b Q
when_so true Q f = f refl
when_so false Q f = tt

-- what follows where a call answers
pub on_ok : {T E : Type 0} (r : Result T E) (P Q : Type 0) → (P → Q) → OnOk r P → OnOk r Q
on_ok (Ok x) P Q f is = f is
on_ok (Err e) P Q f is = tt

-- what follows from what is so of an answer, and where there is none
pub match_option : {X : Type 0} (r : Option X) (P Q : Type 0) (R S : X → Type 0) → (P → Q) → ((x : X) → R x → S x) → MatchOption r P R → MatchOption r Q S
match_option None P Q R S f g is = f is
match_option (Some x) P Q R S f g is = g x is

-- the same of a result that is right
pub if_ok : {T E : Type 0} (r : Result T E) (P Q : T → Type 0) → ((x : T) → P x → Q x) → IfOk r P → IfOk r Q
if_ok (Ok x) P Q f is = f x is
if_ok (Err e) P Q f is = tt

-- and of one that is wrong
pub if_err : {T E : Type 0} (r : Result T E) (P Q : E → Type 0) → ((e : E) → P e → Q e) → IfErr r P → IfErr r Q
if_err (Ok x) P Q f is = tt
if_err (Err e) P Q f is = f e is

-- where none is good, none is found
pub none_found : {X : Type 0} (P : X → Type 0) (xs : List X) → ((k : ℕ) (d : X) → k < length xs → ¬ P (get_or xs k d))
    → ¬ ((y : X) × Contains xs y × P y)
none_found P xs none (y, (k, lt, same), good) = none k y lt (subst P (sym same) good)

-- where one is not good, not each is
pub not_each : {X : Type 0} (P : X → Type 0) (xs : List X) (i : ℕ) (x : X) → i < length xs → x ≡ get_or xs i x → ¬ P x → ¬ All P xs
not_each P xs i x lt is bad all = bad (subst P (sym is) (all i x lt))

-- what two clauses say of a result that is wrong
pub if_both_err : {T E : Type 0} (r : Result T E) (P Q R : E → Type 0) → ((e : E) → P e → Q e → R e) → IfErr r P → IfErr r Q → IfErr r R
if_both_err (Ok x) P Q R f p q = tt
if_both_err (Err e) P Q R f p q = f e p q

-- what is so of a fault is so of what is answered, where it is passed on or turned into another
pub passed_on : {X E : Type 0} (Such : E → Type 0) (r : Result X E) (fault : E) → IsErr r × IsErrAnd r (λ f. f ≡ fault) → Such fault → IfErr r Such
passed_on Such (Ok x) fault is such = tt
passed_on Such (Err f) fault is such = subst Such (sym is.1) such

pub turned : {X E : Type 0} (Gives Such : E → Type 0) (r : Result X E) → IsErr r × IsErrAnd r Gives → ((e : E) → Gives e → Such e) → IfErr r Such
turned Gives Such (Ok x) is such = tt
turned Gives Such (Err f) is such = such f is.1

-- what is answered is the fault
pub not_this : {X E : Type 0} (r : Result X E) (fault other : E) → IsErr r × IsErrAnd r (λ f. f ≡ fault) → r ≡ Err other → fault ≡ other
not_this (Ok x) fault other is same = absurd is.1
not_this (Err f) fault other is same = let here : f ≡ other = cc in sym is.1 ∙ here
