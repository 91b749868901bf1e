-- The last sync, kept up event by event.
use Rattle.std.specs.Prelude.{◌≡◌, ℕ, ◌<◌, ◌≤◌, true, List, length, take, drop, IsTrue}
use Rattle.sector_disk.specs.declared.log.Event.{Event}
use Rattle.sector_disk.specs.Disk.{Image}
use Rattle.sector_disk.specs.Past.{undone, synced_after}
use Rattle.sector_disk.specs.declared.log.Event.TheVariants.{Wrote, Synced, Extended}

-- all was synced after this many events, and not after any greater number of them
pub record IsLastSyncOf (events : List Event) (last : ℕ) : Type 0 where
  pub within : last ≤ length events
  pub all : (k : ℕ) → IsTrue (synced_after (λ j. true) (take last events) k)
  pub later : (m : ℕ) → last < m → m ≤ length events → ¬ ((k : ℕ) → IsTrue (synced_after (λ j. true) (take m events) k))

-- the sectors as at the last sync, where they are this now
pub record IsAsAtSync (events : List Event) (contents sectors : Image) : Type 0 where
  pub last : ℕ
  pub is_last : IsLastSyncOf events last
  pub is : sectors ≡ undone (drop last events) contents

-- that number once this event has happened, as the one of this number
abbrev pub last_by : Event → ℕ → ℕ → ℕ
last_by (Wrote at bytes) count last = last
last_by Synced count last = count
last_by (Extended end) count last = last
