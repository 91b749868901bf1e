-- What work on a table comes to: what its units have made of it, and what is so where one of them is refused.
use Rattle.std.specs.Prelude.{◌≡◌, ◌+◌, ◌*◌, ◌≤◌, ℕ, List}
use Rattle.retrograde.specs.Graph.{Graph}
use Rattle.retrograde.specs.Stored.{Stored, IsTable, view_of}
use Rattle.retrograde.specs.View.{IsFinished}
use Rattle.retrograde.specs.Sound.{IsLocallySound}
use Rattle.table.specs.declared.fault.TableFault.{TableFault}
use Rattle.table.specs.declared.fault.TableFault.TheVariants.{TableFull}
use Rattle.table.specs.declared.limits.TheConstants.{PAGES_PER_ENTRY}
use Rattle.frontier.specs.Causes.{Leaves}
use Rattle.frontier.specs.declared.fault.StepFault.{StepFault}
use Rattle.frontier.specs.declared.fault.StepFault.TheVariants.{Inconsistent, Table}
use Rattle.game_table.specs.Entries.{WantsPages, WriteAtMost}
use Rattle.game_table.specs.Work.{AreDone, StopsWith}

-- what has become of an honest table, of whose pages so many were free, and are left, by this many units of those that
-- were asked: its parts fit together if they did; if it was locally sound, these units are done; and they take no more
-- pages than the entries that they may write
pub record AreWorked (graph : Graph (List ℕ)) (IsWide : List ℕ → Type 0) (units : ℕ) (old new : Stored (List ℕ))
    (free left many : ℕ) : Type 0 where
  pub fits : IsTable old → IsTable new
  pub done : IsLocallySound graph IsWide old → AreDone graph IsWide units old many new
  pub takes : IsLocallySound graph IsWide old
      → (entries : ℕ) × WriteAtMost graph IsWide old many new entries × (free ≤ left + PAGES_PER_ENTRY * entries)

-- what is so where a unit is refused: what is left of the table; and of one that was honest and locally sound the
-- cause, that it was not finished and agreed with itself, and that no page is wanting but where too few were free
pub record AreStopped {T : Type 0} (graph : Graph (List ℕ)) (IsWide : List ℕ → Type 0) (units : ℕ)
    (stored : T → Stored (List ℕ)) (IsHonest : T → Type 0) (free : T → ℕ) (GoesOn : T → T → Type 0)
    (Fails : T → T → TableFault → Type 0) (old new : T) (fault : StepFault) : Type 0 where
  pub left : Leaves (GoesOn old new) (Fails old new) fault
  pub cause : IsHonest old → IsLocallySound graph IsWide (stored old) → StopsWith graph IsWide (stored old) units fault
  pub unfinished : IsHonest old → IsLocallySound graph IsWide (stored old) → ¬ IsFinished (view_of (stored old))
  pub consistent : IsHonest old → IsLocallySound graph IsWide (stored old) → ¬ (fault ≡ Inconsistent)
  pub full : IsHonest old → IsLocallySound graph IsWide (stored old) → fault ≡ Table TableFull
      → WantsPages graph IsWide (stored old) units (free old)
