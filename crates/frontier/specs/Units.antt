-- What a unit of work comes to: what one that is done has made of a table, and what is so where none is done.
use Rattle.std.specs.Prelude.{◌≡◌, ◌+◌, ◌*◌, ◌≤◌, ℕ, List, [], length}
use Rattle.retrograde.specs.Graph.{Graph, IsReachable}
use Rattle.retrograde.specs.Values.{Drawn}
use Rattle.retrograde.specs.View.{IsFinished}
use Rattle.retrograde.specs.Stored.{Stored, IsTable, view_of, expanded_count}
use Rattle.retrograde.specs.Sound.{IsLocallySound}
use Rattle.retrograde.specs.Successors.{packed_cmp}
use Rattle.retrograde.specs.Expands.{Expands}
use Rattle.table.specs.declared.fault.TableFault.{TableFault}
use Rattle.table.specs.declared.fault.TableFault.TheVariants.{TableFull}
use Rattle.table.specs.declared.limits.TheConstants.{PAGES_PER_ENTRY}
use Rattle.frontier.specs.Causes.{HasUnitCause, IsRefusal, Leaves}
use Rattle.frontier.specs.Done.{IsUnitDone}
use Rattle.frontier.specs.Entries.{WritesAtMost}
use Rattle.frontier.specs.declared.fault.StepFault.{StepFault}
use Rattle.frontier.specs.declared.fault.StepFault.TheVariants.{Inconsistent, Table}

-- what a unit has made of an honest table, of whose pages so many were free, and are left: the parts fit together if
-- they did, a locally sound table is led one unit further, and no more pages are taken than some entries take that the
-- unit may write
pub record HasWorked (graph : Graph (List ℕ)) (IsWide : List ℕ → Type 0) (old new : Stored (List ℕ)) (free left : ℕ)
    : Type 0 where
  pub fits : IsTable old → IsTable new
  pub done : IsLocallySound graph IsWide old → IsUnitDone graph IsWide old new
  pub takes : (entries : ℕ) × WritesAtMost graph old entries × (free ≤ left + PAGES_PER_ENTRY * entries)

-- what one of the first kind has made of it: so many positions more are known, and of a locally sound table the next
-- position is expanded; where then all are, and none is settled, play comes to drawn positions alone
pub record HasExpanded (graph : Graph (List ℕ)) (IsWide : List ℕ → Type 0) (old new : Stored (List ℕ)) (newly : ℕ)
    : Type 0 where
  pub more : length new.positions ≡ length old.positions + newly
  pub expands : IsLocallySound graph IsWide old
      → (x : List ℕ) × (ys : List (List ℕ)) × Expands packed_cmp graph old new x ys
  pub last : IsLocallySound graph IsWide old → expanded_count new ≡ length new.positions → new.order ≡ []
      → IsFinished (view_of new) × ((x : List ℕ) → IsReachable graph x → Drawn graph x)

-- what is so where none is done: what is left of the table; of an honest one the cause of a refusal, which leaves it
-- as it was; that a locally sound one agrees with itself; and that no page is wanting but where no more were free than
-- some entries take that the unit may write
pub record HasStopped {T : Type 0} (graph : Graph (List ℕ)) (IsWide : List ℕ → Type 0) (stored : T → Stored (List ℕ))
    (IsHonest : T → Type 0) (free : T → ℕ) (GoesOn : T → T → Type 0) (Fails : T → T → TableFault → Type 0)
    (old new : T) (fault : StepFault) : Type 0 where
  pub left : Leaves (GoesOn old new) (Fails old new) fault
  pub cause : IsHonest old → HasUnitCause graph IsWide (stored old) fault
  pub unchanged : IsHonest old → IsRefusal fault → IsHonest new × (stored new ≡ stored old)
  pub consistent : IsHonest old → IsLocallySound graph IsWide (stored old) → ¬ (fault ≡ Inconsistent)
  pub full : IsHonest old → fault ≡ Table TableFull → (entries : ℕ) × WritesAtMost graph (stored old) entries
      × (free old ≤ PAGES_PER_ENTRY * entries)
