-- Why a unit of work stops, as the call says it that is refused.
use Rattle.std.proofs.Common.{◌≡◌, ◌∙◌, ◌⊎◌, inl, inr, sym, subst, ℕ, ◌*◌, ◌≤◌, List}
use Rattle.retrograde.specs.Graph.{Graph}
use Rattle.retrograde.specs.Sound.{IsLocallySound}
use Rattle.retrograde.specs.Stored.{Stored}
use Rattle.table.specs.Faults.{NeedsNoPage}
use Rattle.table.specs.declared.fault.TableFault.{TableFault}
use Rattle.table.specs.declared.fault.TableFault.TheVariants.{TableFull}
use Rattle.table.specs.declared.limits.TheConstants.{PAGES_PER_ENTRY}
use Rattle.frontier.specs.Causes.{HasUnitCause, IsRefusal, Leaves}
use Rattle.frontier.specs.Entries.{WritesAtMost}
use Rattle.frontier.specs.Frames.{IsGivenUp}
use Rattle.frontier.specs.Units.{HasStopped}
use Rattle.frontier.specs.declared.fault.StepFault.{StepFault}
use Rattle.frontier.specs.declared.fault.StepFault.TheVariants.{TooWide, KeeperChooses, TooManyPositions, Inconsistent, OutOfMemory, Table}
use Rattle.frontier.proofs.Exits.{search_leaves, search_consistent}

-- where no page is wanting, the table says so
pub none_left : (Ahead : Type 0) (Fails : TableFault → Type 0) {fault : StepFault} → Leaves Ahead Fails fault → fault ≡ Table TableFull → Fails TableFull
none_left Ahead Fails left is = subst (λ (f : StepFault). Leaves Ahead Fails f) is left

refusal_leaves : (Ahead : Type 0) (Fails : TableFault → Type 0) (fault : StepFault) → IsRefusal fault → Ahead → Leaves Ahead Fails fault
refusal_leaves Ahead Fails TooWide refused ahead = ahead
refusal_leaves Ahead Fails (KeeperChooses number) refused ahead = ahead
refusal_leaves Ahead Fails TooManyPositions refused ahead = ahead
refusal_leaves Ahead Fails Inconsistent refused ahead = absurd refused
refusal_leaves Ahead Fails OutOfMemory refused ahead = absurd refused
refusal_leaves Ahead Fails (Table fault) refused ahead = absurd refused

refusal_consistent : (fault : StepFault) → IsRefusal fault → fault ≡ Inconsistent → ⊥
refusal_consistent fault refused is = subst (λ (f : StepFault). IsRefusal f) is refused

refusal_full : (fault : StepFault) → IsRefusal fault → fault ≡ Table TableFull → ⊥
refusal_full fault refused is = subst (λ (f : StepFault). IsRefusal f) is refused

search_full : (fault : StepFault) → (fault ≡ TooWide) ⊎ (fault ≡ OutOfMemory) → fault ≡ Table TableFull → ⊥
search_full fault (inl wide) is = let other : TooWide ≡ Table TableFull = sym wide ∙ is in cc
search_full fault (inr memory) is = let other : OutOfMemory ≡ Table TableFull = sym memory ∙ is in cc

module _ {T : Type 0} {graph : Graph (List ℕ)} {IsWide : List ℕ → Type 0} {stored : T → Stored (List ℕ)} {IsHonest : T → Type 0} {free : T → ℕ}
    {GoesOn : T → T → Type 0} {Fails : T → T → TableFault → Type 0} where
  -- by a fault after which the table is given up
  pub stopped : {a b : T} {fault : StepFault} → IsGivenUp GoesOn Fails a b fault
      → (IsHonest a → IsLocallySound graph IsWide (stored a) → ¬ (fault ≡ Inconsistent))
      → (IsHonest a → fault ≡ Table TableFull → (entries : ℕ) × WritesAtMost graph (stored a) entries × (free a ≤ PAGES_PER_ENTRY * entries))
      → HasStopped graph IsWide stored IsHonest free GoesOn Fails a b fault
  stopped up consistent full = record {
    left = up.left;
    cause = λ honest refused. absurd (up.goes_on refused);
    unchanged = λ honest refused. absurd (up.goes_on refused);
    consistent = consistent;
    full = full;
  }

  -- by one of the table's own while it is read
  pub stopped_reading : {a b : T} {fault : TableFault} → Fails a b fault → NeedsNoPage fault
      → HasStopped graph IsWide stored IsHonest free GoesOn Fails a b (Table fault)
  stopped_reading fails room = record {
    left = fails;
    cause = λ honest refused. absurd refused;
    unchanged = λ honest refused. absurd refused;
    consistent = λ honest sound is. (cc);
    full = λ honest is. absurd (room (cc));
  }

  -- by a refusal, while the table was read
  pub refused : {a b : T} {fault : StepFault} → IsRefusal fault → GoesOn a b → (IsHonest a → HasUnitCause graph IsWide (stored a) fault)
      → (IsHonest a → IsHonest b × (stored b ≡ stored a)) → HasStopped graph IsWide stored IsHonest free GoesOn Fails a b fault
  refused {a} {b} {fault} refusal ahead cause same = record {
    left = refusal_leaves (GoesOn a b) (Fails a b) fault refusal ahead;
    cause = cause;
    unchanged = λ honest _. same honest;
    consistent = λ honest sound is. refusal_consistent fault refusal is;
    full = λ honest is. absurd (refusal_full fault refusal is);
  }

  -- by one of the search, while the table was read
  pub stopped_searching : {a b : T} {fault : StepFault} (one_of : (fault ≡ TooWide) ⊎ (fault ≡ OutOfMemory)) → GoesOn a b
      → (IsHonest a → HasUnitCause graph IsWide (stored a) fault) → (IsHonest a → IsHonest b × (stored b ≡ stored a))
      → HasStopped graph IsWide stored IsHonest free GoesOn Fails a b fault
  stopped_searching {a} {b} {fault} one_of ahead cause same = record {
    left = search_leaves fault one_of (GoesOn a b) (Fails a b) ahead;
    cause = cause;
    unchanged = λ honest _. same honest;
    consistent = λ honest sound is. search_consistent fault one_of is;
    full = λ honest is. absurd (search_full fault one_of is);
  }
