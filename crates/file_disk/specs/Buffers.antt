-- What the buffers of a file show, and what of it a stop leaves: what waits may be lost at any time.
use Rattle.std.specs.Prelude.{ℕ, ◌+◌, ◌*◌, ◌/◌, ◌<◌, ◌&&◌, min, nat_lt, is_some, Bool, false, if◌then◌else◌, List, length}
use Rattle.sector_disk.specs.Disk.{Shown}
use Rattle.file_disk.specs.declared.waiting_writes.WaitingWrites.{WaitingWrites}
use Rattle.file_disk.specs.Events.{Happened}
use Rattle.file_disk.specs.Past.{image_of, stands}
use Rattle.file_disk.specs.Shown.{shown}
use Rattle.file_disk.specs.WaitingSectors.{slot_of}

-- what is stated of the buffers of a file: what waits, what has happened to the file and what it has, and how many sectors they have
pub record Buffers : Type 0 where
  pub waiting : WaitingWrites
  pub happened : List Happened
  pub content : List ℕ
  pub sectors : ℕ

-- the file ends before there is room for one sector more
abbrev pub HasNoRoomBehind : Buffers → Type 0
HasNoRoomBehind b = length b.content < 512 * (b.sectors + 1)

-- the sector waits
abbrev pub waits : Buffers → ℕ → Bool
waits b k = is_some (slot_of b.waiting.pages.items b.waiting.count k)

-- the sector is one of theirs, and the file has not all of it
abbrev pub is_missing : Buffers → ℕ → Bool
is_missing b k = nat_lt k b.sectors && nat_lt (length b.content) (512 * (k + 1))

-- a stop leaves this sector: it does not wait, the file has it, and no event has touched it since the last sync
abbrev pub is_calm : Buffers → ℕ → Bool
is_calm b k = if waits b k then false else (if is_missing b k then false else (stands b.happened b.content).synced k)

-- what they show
abbrev pub buffered_now : Buffers → Shown
buffered_now b = record {
  contents = image_of (shown b.waiting b.content) b.sectors;
  synced = is_calm b;
  lasting = min b.sectors ((stands b.happened b.content).lasting / 512);
}
