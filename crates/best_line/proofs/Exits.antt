-- What is so of a fault that a call hands on, and of what comes before it.
use Rattle.std.proofs.Common.{◌≡◌, ◌∙◌, ℕ, ◌+◌, ◌-◌, ◌<◌, ◌≤◌, Bool, true, false, Option, Some, None, ap, sym, List, [], min, refl, arith, slice_get}
use Rattle.std.specs.Prelude.{IsSome, IfNone}
use Rattle.legal_moves.specs.declared.fault.MoveFault.{MoveFault}
use Rattle.legal_moves.specs.declared.fault.MoveFault.TheVariants as search
use Rattle.table.specs.Faults.{NeedsNoPage}
use Rattle.table.specs.declared.fault.TableFault.{TableFault}
use Rattle.best_line.specs.Causes.{HasLineCause, HasStepCause, OfTable, search_fault}
use Rattle.best_line.specs.declared.fault.LineFault.{LineFault}
use Rattle.best_line.specs.declared.fault.LineFault.TheVariants.{NotSettled, Inconsistent, TooWide, OutOfMemory, Table}

-- after calls that were answered
pub of_table_after : (Fails Since : TableFault → Type 0) (fault : LineFault) → ((f : TableFault) → Fails f → Since f) → OfTable Fails fault
    → OfTable Since fault
of_table_after Fails Since NotSettled since it = tt
of_table_after Fails Since Inconsistent since it = tt
of_table_after Fails Since TooWide since it = tt
of_table_after Fails Since OutOfMemory since it = tt
of_table_after Fails Since (Table f) since it = since f it

module _ {None Wide : Type 0} {Fails : TableFault → Type 0} where
  -- a step fails by a fault of the table's own
  pub step_of_table : {fault : TableFault} → NeedsNoPage fault → Fails fault → HasStepCause None Wide Fails (Table fault)
  step_of_table room fails = record { none = λ is. absurd (cc); wide = λ is. absurd (cc); settled = λ is. (cc); room = room; fault = fails }

  -- by one of the search
  pub step_of_search : (fault : MoveFault) → (fault ≡ search.TooWide → Wide) → HasStepCause None Wide Fails (search_fault fault)
  step_of_search search.TooWide wide =
      record { none = λ is. absurd (cc); wide = λ is. wide refl; settled = λ is. (cc); room = tt; fault = tt }
  step_of_search search.OutOfMemory wide =
      record { none = λ is. absurd (cc); wide = λ is. absurd (cc); settled = λ is. (cc); room = tt; fault = tt }

  -- or since there is none
  pub no_step_there : None → HasStepCause None Wide Fails Inconsistent
  no_step_there none = record { none = λ is. none; wide = λ is. absurd (cc); settled = λ is. (cc); room = tt; fault = tt }

-- a line fails for want of memory
pub line_of_memory : {Cause Stops : LineFault → Type 0} {Fails : TableFault → Type 0} → Cause OutOfMemory → Stops OutOfMemory
    → HasLineCause Cause Stops Fails OutOfMemory
line_of_memory cause stops = record { cause = cause; stops = stops; settled = λ is. (cc); room = tt; fault = tt }

-- a list of nothing has nothing at any place
pub nothing_at : {A : Type 0} (items : List A) → items ≡ [] → (k : ℕ) (x : A) → slice_get items k ≡ Some x → ⊥
nothing_at {A} items none k x at = go k (ap (λ (ks : List A). slice_get ks k) (sym none) ∙ at)
  where
    go : (k : ℕ) → slice_get [] k ≡ Some x → ⊥
    go k at = cc

pub not_both : (b : Bool) → b ≡ false → b ≡ true → ⊥
not_both b is is_not = cc

-- something was found
pub some_here : {A : Type 0} (C : Type 0) (found : Option A) → IsSome found → IfNone found C
some_here C None some = absurd (let is : false ≡ true = some in cc)
some_here C (Some x) some = tt

-- this many rows there are, where the loop has come to its end
pub so_many : (from m rows number k count known : ℕ) → from + rows ≡ number → from + m ≤ number → (from ≤ from + m → number ≤ from + m)
    → m ≡ min count (k - from)
    → k ≡ known → rows ≡ min count (known - from)
so_many from m rows number k count known is past until few same =
    let within : number ≤ from + m = until (omega arith) in
    let all : rows ≡ m = omega arith in
    all ∙ (few ∙ ap (λ (n : ℕ). min count (n - from)) same)

-- and each number of the loop is that of a known position
pub below_known : (from m number count k known now : ℕ) → number < from + m → m ≡ min count (k - from) → k ≡ known → from < known → now ≡ known → number < now
below_known from m number count k known now within few same first counted = omega arith
