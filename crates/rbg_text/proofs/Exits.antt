-- A fault of the parsing is passed on.
use Rattle.std.proofs.Common.{◌≡◌, Result, Ok, Err, ap, sym, subst}
use Rattle.std.specs.Result.{IsErr, IsErrAnd}
use Rattle.rbg_text.specs.Parse.{ParseState}
use Rattle.rbg_text.specs.lemmas.Parse.{Outcome, Parser, and_then, ReadsAs}
use Rattle.rbg_text.specs.declared.fault.ReadError.{ReadError}
use Rattle.rbg_text.specs.declared.fault.ReadError.TheVariants.{Memory, Syntax}

fault_on : {A A2 B B2 : Type 0} (view : A → B) (view2 : A2 → B2) (o : Outcome B) (f : B → Parser B2) (e : ReadError) (i j : ParseState)
    → ReadsAs view o (Err e) i → ReadsAs view2 (and_then o f) (Err e) j
fault_on view view2 o f Memory i j h = tt
fault_on view view2 o f Syntax i j h = ap (λ p. and_then p f) h

pub err_on : {A A2 B B2 : Type 0} (view : A → B) (view2 : A2 → B2) (o : Outcome B) (f : B → Parser B2) (e : ReadError)
    (r : Result A2 ReadError) (i j : ParseState)
    → IsErr r × IsErrAnd r (λ g. g ≡ e) → ReadsAs view o (Err e) i → ReadsAs view2 (and_then o f) r j
err_on view view2 o f e (Ok x) i j is h = absurd (cc)
err_on view view2 o f e (Err g) i j is h = subst (λ (g : ReadError). ReadsAs view2 (and_then o f) (Err g) j) (sym is.1) (fault_on view view2 o f e i j h)

pub memory_on : {A B : Type 0} (view : A → B) (o : Outcome B) (r : Result A ReadError) (j : ParseState) → IsErr r
    × IsErrAnd r (λ g. g ≡ Memory) → ReadsAs view o r j
memory_on view o (Ok x) j is = absurd (cc)
memory_on view o (Err g) j is = subst (λ (g : ReadError). ReadsAs view o (Err g) j) (sym is.1) tt
