-- What is so of a fault that a call hands on.
use Rattle.std.proofs.Common.{◌≡◌, ℕ, List, Result, refl, subst}
use Rattle.std.specs.Result.{IsErr, IfErr, IsErrAnd}
use Rattle.retrograde.specs.declared.records.Counts.{Counts}
use Rattle.retrograde.specs.Stored.{Stored}
use Rattle.table.specs.Frames.{IsRead}
use Rattle.table.proofs.Exits.{passed_on}
use Rattle.legal_moves.specs.declared.fault.MoveFault.{MoveFault}
use Rattle.legal_moves.specs.declared.fault.MoveFault.TheVariants as search
use Rattle.table.specs.Faults.{NeedsNoPage}
use Rattle.table.specs.declared.fault.TableFault.{TableFault}
use Rattle.audit.specs.Causes.{HasAuditCause, HasWide, OfTableFault, search_fault}
use Rattle.audit.specs.declared.fault.AuditFault.{AuditFault}
use Rattle.audit.specs.declared.fault.AuditFault.TheVariants.{TooWide, OutOfMemory, Table}

-- after calls that were answered
pub of_table_after : (Fails Since : TableFault → Type 0) (fault : AuditFault) → ((f : TableFault) → Fails f → Since f)
    → OfTableFault Fails fault → OfTableFault Since fault
of_table_after Fails Since TooWide since it = tt
of_table_after Fails Since OutOfMemory since it = tt
of_table_after Fails Since (Table f) since it = since f it

module _ {Wide : Type 0} {Fails : TableFault → Type 0} where
  -- one of the table's own
  pub of_table : {fault : TableFault} → NeedsNoPage fault → Fails fault → HasAuditCause Wide Fails (Table fault)
  of_table room fails = record { wide = λ is. absurd (cc); room = room; fault = fails }

  -- want of memory
  pub of_memory : HasAuditCause Wide Fails OutOfMemory
  of_memory = record { wide = λ is. absurd (cc); room = tt; fault = tt }

  -- one of the search
  pub of_search : (fault : MoveFault) → (fault ≡ search.TooWide → Wide) → HasAuditCause Wide Fails (search_fault fault)
  of_search search.TooWide wide = record { wide = λ is. wide refl; room = tt; fault = tt }
  of_search search.OutOfMemory wide = of_memory

  -- one that a call told, after others that were answered
  pub since : {Was : Type 0} {Before : TableFault → Type 0} {fault : AuditFault} → (Was → Wide) → ((f : TableFault) → Before f → Fails f)
      → HasAuditCause Was Before fault → HasAuditCause Wide Fails fault
  since {Was} {Before} {fault} then after cause = record {
    wide = λ is. then (cause.wide is);
    room = cause.room;
    fault = of_table_after Before Fails fault after cause.fault;
  }

-- after calls that only read: what follows of the state before them
module _ {T : Type 0} {stored : T → Stored (List ℕ)} {IsHonest : T → Type 0} {counted : T → Counts} {Stays GoesOn : T → T → Type 0}
    {fails : T → T → TableFault → Type 0} (on : (a b : T) → Stays a b → GoesOn a b)
    (after : (a b c : T) (f : TableFault) → GoesOn a b → fails b c f → fails a c f) {a b c : T} (read : IsRead stored IsHonest counted Stays a b) where
  -- a fault of the table that is handed on, as it is
  pub fault_since : {X : Type 0} (r : Result X TableFault) {f : TableFault} → IsErr r × IsErrAnd r (λ told. told ≡ f) → fails b c f → IfErr r (fails a c)
  fault_since r told why = passed_on _ r _ told (after a b c _ (on a b read.stays) why)

  -- and as one of the audit
  pub table_since : (Wide : Type 0) {X : Type 0} (r : Result X AuditFault) {f : TableFault} → IsErr r × IsErrAnd r (λ told. told ≡ Table f) → NeedsNoPage f
      → fails b c f → IfErr r (HasAuditCause Wide (fails a c))
  table_since Wide r told room why = passed_on _ r _ told (of_table room (after a b c _ (on a b read.stays) why))

  -- why there is no verdict
  pub cause_since : {IsWide : List ℕ → Type 0} {told : AuditFault} → HasAuditCause (IsHonest b → HasWide IsWide (stored b)) (fails b c) told
      → HasAuditCause (IsHonest a → HasWide IsWide (stored a)) (fails a c) told
  cause_since {IsWide} cause = since (λ wide honest. subst (λ (t : Stored (List ℕ)). HasWide IsWide t) (read.same honest) (wide (read.honest.0 honest)))
      (λ f. after a b c f (on a b read.stays)) cause
