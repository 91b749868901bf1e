-- What the buffers do to a file: what waits is written, and nothing else.
use Rattle.std.specs.Prelude.{ℕ, ◌+◌, ◌/◌, ◌<◌, ◌≤◌, List}
use Rattle.file_disk.specs.declared.file_event.FileEvent.{FileEvent}
use Rattle.file_disk.specs.declared.file_event.FileEvent.TheVariants.{Wrote, Synced, Resized}
use Rattle.file_disk.specs.declared.waiting_writes.WaitingWrites.{WaitingWrites}
use Rattle.file_disk.specs.Events.{Happened, Adds, IsEventNoted}
use Rattle.file_disk.specs.Shown.{Waits}
use Rattle.file_disk.specs.lemmas.WaitingSectors.{ShowsSame}

-- a write of bytes of sectors that wait
abbrev pub IsWriteOf : WaitingWrites → FileEvent → Type 0
IsWriteOf waiting (Wrote at count) = (byte : ℕ) → at ≤ byte → byte < at + count → Waits waiting (byte / 512)
IsWriteOf waiting Synced = ⊥
IsWriteOf waiting (Resized bytes) = ⊥

-- such a write, before which the file showed the same as with this content: but for the sectors that wait it was as here
pub record WritesWaiting (waiting : WaitingWrites) (content : List ℕ) (happened : Happened) : Type 0 where
  pub event : IsWriteOf waiting happened.event
  pub had : ShowsSame waiting.pages.items waiting.count waiting.bytes.items content happened.had

-- sectors that wait were written, and nothing else happened: the file shows the same
pub record WritesOnly (waiting : WaitingWrites) (old new : List Happened) (old_bytes new_bytes : List ℕ) : Type 0 where
  pub adds : Adds (WritesWaiting waiting old_bytes) old new old_bytes new_bytes
  pub shows : ShowsSame waiting.pages.items waiting.count waiting.bytes.items old_bytes new_bytes

-- sectors that wait were written, then the file was synced, and nothing else happened
pub record WritesAndSyncs (waiting : WaitingWrites) (old new : List Happened) (old_bytes new_bytes : List ℕ) : Type 0 where
  pub between : List Happened
  pub written : WritesOnly waiting old between old_bytes new_bytes
  pub synced : IsEventNoted Synced new_bytes between new
