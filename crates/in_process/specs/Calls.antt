-- What a call on the bytes of a table does.
use Rattle.std.specs.Prelude.{◌≡◌, ℕ, ◌/◌, ◌<◌, ◌≤◌, min, List, length, IsTrue}
use Rattle.std.specs.List.{flat_map}
use Rattle.byte_disk.specs.Bytes.{sectors_of}
use Rattle.sector_disk.specs.Disk.{Disk, AllSynced}
use Rattle.session.specs.Commands.{Came, IsLineOf, status_of_came}
use Rattle.in_process.specs.Given.{over}

-- an honest disk with the whole sectors that these bytes make, all of it synced
pub record IsDiskOf (bytes : List ℕ) (disk : Disk) : Type 0 where
  pub contents : disk.now.contents ≡ sectors_of bytes
  pub synced : AllSynced disk.now
  pub honest : IsTrue disk.honest

-- the bytes of a disk
abbrev pub bytes_of : Disk → List ℕ
bytes_of disk = flat_map (λ sector. sector) disk.now.contents

-- how many whole pages these bytes make, 4,294,967,295 at most
abbrev pub pages_in : List ℕ → ℕ
pages_in bytes = min (length bytes / 4096) 4294967295

-- a command was done on a disk that never failed before: this line tells what came of it, with this status
abbrev pub IsDone : (Disk → ℕ → Came → Disk → ℕ → Type 0) → Disk → List ℕ → ℕ → Disk → Type 0
IsDone Does disk line status back =
    (came : Came) × (now : ℕ) × Does disk 0 came back now × IsLineOf came line × (status ≡ status_of_came came)

-- a command on a disk, for a caller whose bytes of the table are those before and then those after, with bytes for the line, out and
-- then told:
--   done       it was done: its line is told, and the bytes of the table are those of the disk that came back
--   too_long   the line of what would have come of it is longer than the bytes for it: its length is told, and nothing is done
--   no_memory  memory ran out: nothing is done
pub data IsAnswered (Does : Disk → ℕ → Came → Disk → ℕ → Type 0) (disk : Disk) (before after out told : List ℕ) (count : ℕ) : ℕ → Type 0 where
  done : (back : Disk) (line : List ℕ) (status : ℕ) → IsDone Does disk line status back → length line ≤ length out → count ≡ length line
      → told ≡ over line out → after ≡ over (bytes_of back) before → IsAnswered Does disk before after out told count status
  too_long : (back : Disk) (line : List ℕ) (status : ℕ) → IsDone Does disk line status back → length out < length line
      → count ≡ length line → told ≡ out → after ≡ before → IsAnswered Does disk before after out told count 6
  no_memory : count ≡ 0 → told ≡ out → after ≡ before → IsAnswered Does disk before after out told count 5

-- a call that is given the bytes of a disk is answered as on that disk, or memory ran out for it
pub data IsCalled (Does : Disk → ℕ → Came → Disk → ℕ → Type 0) (bytes before after out told : List ℕ) (count status : ℕ) : Type 0 where
  called : (disk : Disk) → IsDiskOf bytes disk → IsAnswered Does disk before after out told count status
      → IsCalled Does bytes before after out told count status
  no_disk : status ≡ 5 → count ≡ 0 → told ≡ out → after ≡ before → IsCalled Does bytes before after out told count status
