-- Why there is no verdict.
use Rattle.std.specs.Prelude.{◌≡◌, ℕ, ◌<◌}
use Rattle.legal_moves.specs.declared.fault.MoveFault.{MoveFault}
use Rattle.legal_moves.specs.declared.fault.MoveFault.TheVariants as search
use Rattle.retrograde.specs.View.{HasNumber}
use Rattle.retrograde.specs.Stored.{Stored, view_of, expanded_count}
use Rattle.table.specs.Faults.{NeedsNoPage}
use Rattle.table.specs.declared.fault.TableFault.{TableFault}
use Rattle.audit.specs.declared.fault.AuditFault.{AuditFault}
use Rattle.audit.specs.declared.fault.AuditFault.TheVariants.{TooWide, OutOfMemory, Table}

-- what a fault of the search is as a fault of audit
abbrev pub search_fault : MoveFault → AuditFault
search_fault search.TooWide = TooWide
search_fault search.OutOfMemory = OutOfMemory

-- where the fault is the table's, this is said of it
abbrev pub OfTableFault : (TableFault → Type 0) → AuditFault → Type 0
OfTableFault fails TooWide = Unit {0}
OfTableFault fails OutOfMemory = Unit {0}
OfTableFault fails (Table fault) = fails fault

-- some expanded position is too wide
abbrev pub HasWide : {P : Type 0} → (P → Type 0) → Stored P → Type 0
HasWide {P} IsWide stored =
    (i : ℕ) × (x : P) × HasNumber (view_of stored) i x × (i < expanded_count stored) × IsWide x

-- no expanded position is too wide
abbrev pub IsNarrow : {P : Type 0} → (P → Type 0) → Stored P → Type 0
IsNarrow {P} IsWide stored = (i : ℕ) (x : P) → HasNumber (view_of stored) i x → i < expanded_count stored → IsWide x → ⊥

-- what is so of a fault: that a search was too wide comes only so; and one of the table's own is no want of a page,
-- and has the table's cause
pub record HasAuditCause (Wide : Type 0) (Fails : TableFault → Type 0) (told : AuditFault) : Type 0 where
  pub wide : told ≡ TooWide → Wide
  pub room : OfTableFault NeedsNoPage told
  pub fault : OfTableFault Fails told
