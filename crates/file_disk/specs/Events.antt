-- What happens to a file, as a list with the oldest first.
use Rattle.std.specs.Prelude.{◌≡◌, ◌⊎◌, ℕ, ◌+◌, ◌*◌, ◌<◌, ◌≤◌, List, [], ◌∷◌, ◌++◌, length}
use Rattle.std.specs.List.{All}
use Rattle.file_disk.specs.declared.file_event.FileEvent.{FileEvent}
use Rattle.file_disk.specs.declared.file_event.FileEvent.TheVariants.{Wrote, Synced, Resized}
use Rattle.file_disk.specs.Bytes.{sector_of}

-- something that happened to a file, or may have happened, and what reads gave before it
pub record Happened : Type 0 where
  pub event : FileEvent
  pub had : List ℕ

-- this event came behind the others, and reads gave these bytes before it
abbrev pub IsEventNoted : FileEvent → List ℕ → List Happened → List Happened → Type 0
IsEventNoted event had old new = new ≡ old ++ (record { event = event; had = had } ∷ [])

-- it came, or none did and the bytes are what they were
abbrev pub IsNotedOrNothing : FileEvent → List Happened → List Happened → List ℕ → List ℕ → Type 0
IsNotedOrNothing event old new old_bytes new_bytes = IsEventNoted event old_bytes old new ⊎ ((new ≡ old) × (new_bytes ≡ old_bytes))

-- what reads gave before the first of these, or give now where nothing happened
abbrev pub had_first : List Happened → List ℕ → List ℕ
had_first [] now = now
had_first (first ∷ others) now = first.had

-- things of this kind came behind the others, and nothing else: reads gave the one bytes before the first of them, and give the
-- other bytes now
pub record Adds (Such : Happened → Type 0) (old new : List Happened) (old_bytes new_bytes : List ℕ) : Type 0 where
  pub more : List Happened
  pub added : new ≡ old ++ more
  pub each : All Such more
  pub begins : had_first more new_bytes ≡ old_bytes

-- a change of the length, to no fewer sectors than the one number and no more than the other
abbrev pub IsLengthening : ℕ → ℕ → FileEvent → Type 0
IsLengthening from to (Wrote at count) = ⊥
IsLengthening from to Synced = ⊥
IsLengthening from to (Resized bytes) = (512 * from ≤ bytes) × (bytes ≤ 512 * to)

-- it ends with the sector before this one, or after it before there is room for one more, and its sectors are as they were
pub record EndsAtSector (sectors : ℕ) (old new : List ℕ) : Type 0 where
  pub there : 512 * sectors ≤ length new
  pub no_more : length new < 512 * (sectors + 1)
  pub same : (k : ℕ) → k < sectors → sector_of new k ≡ sector_of old k

-- a change of the length of a file of so many sectors, before which it had those
pub record Lengthens (from to : ℕ) (content : List ℕ) (happened : Happened) : Type 0 where
  pub event : IsLengthening from to happened.event
  pub had : EndsAtSector from content happened.had

-- its length changed, and nothing else happened: no sector that it had is cut off
pub record LengthensOnly (from to : ℕ) (old new : List Happened) (old_bytes new_bytes : List ℕ) : Type 0 where
  pub adds : Adds (Lengthens from to old_bytes) old new old_bytes new_bytes
  pub there : (k : ℕ) → k < from → 512 * (k + 1) ≤ length old_bytes → 512 * (k + 1) ≤ length new_bytes
