-- Why there is no line.
use Rattle.std.specs.Prelude.{◌≡◌, ℕ, List, None, IsSome}
use Rattle.legal_moves.specs.declared.fault.MoveFault.{MoveFault}
use Rattle.legal_moves.specs.declared.fault.MoveFault.TheVariants as search
use Rattle.retrograde.specs.Graph.{Graph}
use Rattle.retrograde.specs.View.{View}
use Rattle.table.specs.Faults.{NeedsNoPage}
use Rattle.table.specs.declared.fault.TableFault.{TableFault}
use Rattle.best_line.specs.declared.fault.LineFault.{LineFault}
use Rattle.best_line.specs.Lines.{BreaksOff, MeetsWide}
use Rattle.best_line.specs.declared.fault.LineFault.TheVariants.{NotSettled, Inconsistent, TooWide, OutOfMemory, Table}

-- what a fault of the search is as a fault of the line
abbrev pub search_fault : MoveFault → LineFault
search_fault search.TooWide = TooWide
search_fault search.OutOfMemory = OutOfMemory

-- why a table that agrees with itself has no line from this number: it has no value, or memory or the table gave out
abbrev pub IsLineCause : {P : Type 0} → View P → ℕ → LineFault → Type 0
IsLineCause view number NotSettled = view.value number ≡ None
IsLineCause view number Inconsistent = ⊥
IsLineCause view number TooWide = ⊥
IsLineCause view number OutOfMemory = IsSome (view.value number)
IsLineCause view number (Table fault) = Unit {0}

-- why any table has no line from this number: it has no value, or the line that the table tells breaks off, or meets a position that
-- is too wide, or memory or the table gave out
abbrev pub LineStops : Graph (List ℕ) → (List ℕ → Type 0) → View (List ℕ) → ℕ → LineFault → Type 0
LineStops graph IsWide view number NotSettled = view.value number ≡ None
LineStops graph IsWide view number Inconsistent = BreaksOff graph view number
LineStops graph IsWide view number TooWide = MeetsWide graph IsWide view number
LineStops graph IsWide view number OutOfMemory = Unit {0}
LineStops graph IsWide view number (Table fault) = Unit {0}

-- where the fault is the table's, this is said of it
abbrev pub OfTable : (TableFault → Type 0) → LineFault → Type 0
OfTable fails NotSettled = Unit {0}
OfTable fails Inconsistent = Unit {0}
OfTable fails TooWide = Unit {0}
OfTable fails OutOfMemory = Unit {0}
OfTable fails (Table fault) = fails fault

-- what is so of a fault of the table, where it is only read: it is no want of a page, and has the table's cause
pub record IsOfReading (Fails : TableFault → Type 0) (told : TableFault) : Type 0 where
  pub room : NeedsNoPage told
  pub fault : Fails told

-- what is so of a fault of one step of a line: which it is tells what is so of the position, and it is never that
-- there is no winner
pub record HasStepCause (None Wide : Type 0) (Fails : TableFault → Type 0) (told : LineFault) : Type 0 where
  pub none : told ≡ Inconsistent → None
  pub wide : told ≡ TooWide → Wide
  pub settled : ¬ (told ≡ NotSettled)
  pub room : OfTable NeedsNoPage told
  pub fault : OfTable Fails told

-- what is so of a fault of the line from a position that has a winner
pub record HasLineCause (Cause Stops : LineFault → Type 0) (Fails : TableFault → Type 0) (told : LineFault)
    : Type 0 where
  pub cause : Cause told
  pub stops : Stops told
  pub settled : ¬ (told ≡ NotSettled)
  pub room : OfTable NeedsNoPage told
  pub fault : OfTable Fails told

-- what is so of a fault of the line from any position: in a table that agrees with itself, and in any
pub record HasNoLine (Cause Stops : LineFault → Type 0) (Fails : TableFault → Type 0) (told : LineFault) : Type 0 where
  pub cause : Cause told
  pub stops : Stops told
  pub room : OfTable NeedsNoPage told
  pub fault : OfTable Fails told
