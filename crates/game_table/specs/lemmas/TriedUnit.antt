-- What the call for one unit of work has made of a table.
use Rattle.std.specs.Prelude.{◌≡◌, ◌+◌, ◌*◌, ◌≤◌, ℕ, Bool, true, false, List}
use Rattle.retrograde.specs.Graph.{Graph}
use Rattle.retrograde.specs.Stored.{Stored, IsTable, view_of}
use Rattle.retrograde.specs.View.{IsFinished}
use Rattle.retrograde.specs.Sound.{IsLocallySound}
use Rattle.table.specs.declared.limits.TheConstants.{PAGES_PER_ENTRY}
use Rattle.frontier.specs.Entries.{WritesAtMost}
use Rattle.game_table.specs.Units.{IsUnit}
use Rattle.game_table.specs.Work.{Works}

-- of an honest table, of whose pages so many were free, and are left: the parts fit together if they did, and a
-- locally sound table stays so; a unit was done, and took no more pages than some entries take that it may write, or the table
-- was finished, and is as it was
pub record HasTried (graph : Graph (List ℕ)) (IsWide : List ℕ → Type 0) (old new : Stored (List ℕ)) (free left : ℕ)
    (done : Bool) : Type 0 where
  pub fits : IsTable old → IsTable new
  pub sound : IsLocallySound graph IsWide old → IsLocallySound graph IsWide new
  pub one : IsLocallySound graph IsWide old → done ≡ true → Works graph IsWide old 1 new
  pub exact : IsLocallySound graph IsWide old → done ≡ true → IsUnit graph old new
  pub takes : done ≡ true
      → (entries : ℕ) × WritesAtMost graph old entries × (free ≤ left + PAGES_PER_ENTRY * entries)
  pub finished : IsLocallySound graph IsWide old → done ≡ false → (new ≡ old) × IsFinished (view_of old)
